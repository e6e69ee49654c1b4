-- The lines that are left, carried out from here, end as the whole script does.
use Rattle.std.proofs.Common.{◌≡◌, take, vec_items}
use Rattle.script.specs.Lines.{lines}
use Rattle.monitor.specs.Monitor.{lines_done}
use Rattle.monitor.specs.Session.{session_at}
use Rattle.monitor.proofs.monitor.Monitor.carry_out.Given as goal

abbrev pub invariant-loop-line : goal.invariant-loop-line
invariant-loop-line g l =
    lines_done (lines l.line-iterator.rest.now) (session_at g.M.Memory.means l.self (vec_items l.out))
    ≡ lines_done (lines (take 16384 l.script)) (session_at g.M.Memory.means l.initial.self (vec_items l.initial.out))
