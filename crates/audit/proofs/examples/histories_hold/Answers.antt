-- The histories are computed in Worked.
use Rattle.std.proofs.Common.{refl}
use Rattle.audit.proofs.Worked.{histories_hold}
use Rattle.audit.proofs.examples.histories_hold.Goals as goal

pub returns : goal.returns
returns c = record { counted = refl; held = histories_hold }
