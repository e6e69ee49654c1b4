-- The call does what its equation says; so every history goes on with it, and the law holds over all of them.
use Rattle.audit.proofs.Main.{law}
use Rattle.audit.proofs.Runs.{goes_on}
use Rattle.audit.proofs.perform.perform.Goals as goal

pub returns-clause-history : goal.returns-clause-history
returns-clause-history g c = goes_on _ _ _ _ _ c.carry_out.ensures.done

pub returns-clause-law : goal.returns-clause-law
returns-clause-law g c = law
