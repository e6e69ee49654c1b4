-- The steps that are left, from here, end as the whole run does; the trace keeps its places, and what is lent its references.
use Rattle.std.proofs.Common.{◌≡◌, ◌-◌}
use Rattle.queue.specs.Queue.{held, capacity_of}
use Rattle.cycle.specs.Surroundings.{loans_of}
use Rattle.dmac.specs.Step.{machine_at}
use Rattle.dmac.specs.Run.{run_on}
use Rattle.dmac.proofs.controller.Dmac.run_on.Given as goal

abbrev pub invariant-loop-made : goal.invariant-loop-made
invariant-loop-made g l =
    (run_on (l.steps - l.made) (capacity_of l.initial.trace) l.made (machine_at g.M.Memory.means g.D.DeviceBank.bank l.self l.around) (held l.trace)
    ≡ run_on l.steps (capacity_of l.initial.trace) 0 (machine_at g.M.Memory.means g.D.DeviceBank.bank l.initial.self l.initial.around) (held l.initial.trace))
    × (capacity_of l.trace ≡ capacity_of l.initial.trace)
    × (loans_of g.M.Memory.loans g.D.DeviceBank.loans l.around ≡ loans_of g.M.Memory.loans g.D.DeviceBank.loans l.initial.around)
