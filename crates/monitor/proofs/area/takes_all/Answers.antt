-- The area takes all bytes where each of its places takes one.
use Rattle.std.proofs.Common.{◌≡◌, ℕ, ◌+◌, List, [], ◌∷◌, length, ◌&&◌, refl, ap, arith, rules}
use Rattle.std.specs.List.{list_all, range_with_len}
use Rattle.std.proofs.lemmas.Iterator.{YieldsList-from_range}
use Rattle.std.proofs.lemmas.Iterator.Search.{all_from_yields_List}
use borrow.Author.Tests.{tests}
use Rattle.bus.specs.Memory.{MemoryMeaning}
use Rattle.bus.specs.Store.{is_storable}
use Rattle.script.specs.Digits.{data_bytes}
use Rattle.monitor.specs.Area.{takes_all}
use Rattle.monitor.proofs.area.takes_all.Goals as goal

each_place : (a : ℕ) (bs : List ℕ) (m : MemoryMeaning) → list_all (λ at. is_storable 5 at m) (range_with_len a (length bs)) ≡ takes_all a bs m
each_place a [] m = refl
each_place a (b ∷ bs) m = ap (λ all. is_storable 5 a m && all) (each_place (a + 1) bs m)

pub returns : goal.returns
returns g c =
    let all = all_from_yields_List (λ at. is_storable 5 at (g.M.Memory.means c.args.memory.now)) _ _ c.all.result c.all.ensures.ran
    (YieldsList-from_range c.args.address (c.args.address + length (data_bytes c.args.digits.now)) (length (data_bytes c.args.digits.now)) (search rules) (omega arith))
    (λ x b q k. search (rules, tests)) in
    search (rules, all, each_place)
