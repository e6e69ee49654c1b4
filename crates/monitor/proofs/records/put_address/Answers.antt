-- The digits are those of the text.
use Rattle.std.proofs.Common.{rules}
use Rattle.monitor.specs.Records.{address_text}
use Rattle.monitor.proofs.records.put_address.Goals as goal

pub returns : goal.returns
unfolding address_text
returns c = search rules
