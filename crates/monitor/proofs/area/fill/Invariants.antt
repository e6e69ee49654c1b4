-- What the loop has still to write would leave the memory as the whole fill does.
use Rattle.std.proofs.Common.{◌≡◌, ◌+◌, length}
use Rattle.script.specs.Digits.{data_bytes}
use Rattle.monitor.specs.Area.{filled}
use Rattle.monitor.proofs.area.fill.Given as goal

abbrev pub invariant-loop-at : goal.invariant-loop-at
invariant-loop-at g l =
    (l.at-iterator.a.start + length (data_bytes l.at-iterator.b.digits.now) ≡ l.at-iterator.a.end)
    × (filled l.at-iterator.a.start (data_bytes l.at-iterator.b.digits.now) (g.M.Memory.means l.memory) ≡ filled l.address (data_bytes l.digits) (g.M.Memory.means l.initial.memory))
