-- A turn adds the next byte's digits.
use Rattle.std.proofs.Common.{◌≡◌, ℕ, suc, ◌+◌, ◌-◌, ◌<◌, ◌++◌, refl, append_assoc, arith, rules}
use Rattle.bus.specs.Memory.{MemoryMeaning}
use Rattle.script.specs.Text.{hex_text}
use Rattle.monitor.specs.Area.{byte_shown, area_text}
use Rattle.monitor.proofs.area.put_area.Goals as goal

next : (at end : ℕ) (m : MemoryMeaning) → at < end → area_text at (end - at) m ≡ hex_text (byte_shown at m) ++ area_text (at + 1) (end - (at + 1)) m
next at end m h = let e : end - at ≡ suc (end - (at + 1)) = omega arith in rw e refl

pub loop-at-preserved : goal.loop-at-preserved
loop-at-preserved g c =
    let e = next c.loop-at.at (c.args.address + c.from.result) (g.M.Memory.means c.args.memory.now) c.loop-at-test.true in
    search (rules, e, append_assoc)
