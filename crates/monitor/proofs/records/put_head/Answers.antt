-- The digits are those of the text.
use Rattle.std.proofs.Common.{rules}
use Rattle.monitor.specs.Records.{head_text}
use Rattle.monitor.proofs.records.put_head.Goals as goal

pub returns : goal.returns
unfolding head_text
returns c = search rules
