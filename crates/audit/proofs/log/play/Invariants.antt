-- What was logged and what is left to play are the whole, the trace has as many places as at the beginning, and what is
-- lent is lent by the same references.
use Rattle.std.proofs.Common.{◌≡◌, take, drop}
use Rattle.queue.specs.Queue.{held, capacity_of}
use Rattle.cycle.specs.Surroundings.{loans_of}
use Rattle.dmac.specs.Controller.{new_controller}
use Rattle.dmac.specs.Step.{machine_at}
use Rattle.audit.specs.Played.{calls_of, played}
use Rattle.audit.proofs.Logs.{joined}
use Rattle.audit.proofs.log.play.Given as goal

abbrev pub invariant-loop-entry : goal.invariant-loop-entry
invariant-loop-entry g l =
    (joined (take l.entry-index l.log)
    (played (calls_of (drop l.entry-index l.log)) (capacity_of l.trace)
    (machine_at g.M.Memory.means g.D.DeviceBank.bank l.dmac l.around) (held l.trace))
    ≡ played (calls_of l.initial.log) (capacity_of l.initial.trace)
    (machine_at g.M.Memory.means g.D.DeviceBank.bank new_controller l.initial.around) (held l.initial.trace))
    × (capacity_of l.trace ≡ capacity_of l.initial.trace)
    × (loans_of g.M.Memory.loans g.D.DeviceBank.loans l.around ≡ loans_of g.M.Memory.loans g.D.DeviceBank.loans l.initial.around)
