-- A script that is not too long is read whole.
use Rattle.std.proofs.Common.{rules}
use Rattle.std.proofs.lemmas.List.{take_min}
use Rattle.monitor.proofs.monitor.beginning.Goals as goal

pub returns : goal.returns
returns c = search (rules, take_min)
