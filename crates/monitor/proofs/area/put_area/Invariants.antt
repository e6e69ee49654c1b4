-- The text so far and that of the bytes to come is the whole text.
use Rattle.std.proofs.Common.{◌≡◌, ◌-◌, ◌++◌, vec_items}
use Rattle.monitor.specs.Area.{area_text}
use Rattle.monitor.proofs.area.put_area.Given as goal

abbrev pub invariant-loop-at : goal.invariant-loop-at
invariant-loop-at g l =
    vec_items l.out ++ area_text l.at (l.at-end - l.at) (g.M.Memory.means l.memory) ≡ vec_items l.initial.out ++ area_text l.address l.count (g.M.Memory.means l.memory)
