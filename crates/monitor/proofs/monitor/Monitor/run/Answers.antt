-- The session after a script is what its lines make of the session before; so the history goes on with its calls.
use Rattle.std.proofs.Common.{vec_items}
use Rattle.monitor.specs.Session.{session_at}
use Rattle.monitor.proofs.Goes.{script_goes, made_more}
use Rattle.monitor.proofs.monitor.Monitor.run.Goals as goal

pub returns-clause-history : goal.returns-clause-history
returns-clause-history g c =
    made_more c.carry_out.result _ _
    (λ u e. script_goes c.args.script.now
    (session_at g.M.Memory.means c.args.self.now (vec_items c.args.out.now))
    (session_at g.M.Memory.means c.carry_out.new.self (vec_items c.carry_out.new.out)) e)
    c.carry_out.ensures
