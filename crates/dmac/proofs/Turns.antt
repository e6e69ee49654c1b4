-- One turn of a run: it is full, it ends, or it goes on with one step less.
use Rattle.std.proofs.Common.{◌≡◌, ℕ, suc, ◌+◌, ◌-◌, ◌<◌, Bool, true, false, cond, not, ltb, List, length, Some, None, Option, sym, refl, ap, ◌∙◌, arith}
use Rattle.cycle.specs.declared.record.Record.{Record}
use Rattle.dmac.specs.Step.{Machine}
use Rattle.dmac.specs.Run.{Ending, Full, Running, Turned, ended, turned, run_next, run_on}

-- a test and its contrary
when_full : (b : Bool) → true ≡ not b → b ≡ false
when_full true e = e
when_full false e = refl

when_room : (b : Bool) → false ≡ not b → b ≡ true
when_room true e = refl
when_room false e = e

-- some steps are made, and more are to be; `whole` is the whole run
module _ (steps made places room : ℕ) (s : Machine) (t : List Record) (whole : Running)
    (more : made < steps) (inv : run_on (steps - made) places made s t ≡ whole) (same : room ≡ places) where
  one : steps - made ≡ suc (steps - (made + 1))
  one = omega arith

  unfolded : cond (ltb (length t) places) (run_next (turned s t).stop made (turned s t).machine (turned s t).trace (run_on (steps - (made + 1)) places)) (ended Full made s t) ≡ whole
  unfolded = sym (ap (λ (n : ℕ). run_on n places made s t) one) ∙ inv

  pub run_full : true ≡ not (ltb (length t) room) → ended Full made s t ≡ whole
  run_full e =
      let f : ltb (length t) places ≡ false = ap (λ (n : ℕ). ltb (length t) n) (sym same) ∙ when_full (ltb (length t) room) e in
      rw f at unfolded

  -- `turn` is what the turn left
  turn_of : (turn : Turned) → false ≡ not (ltb (length t) room) → turn ≡ turned s t
      → run_next turn.stop made turn.machine turn.trace (run_on (steps - (made + 1)) places) ≡ whole
  turn_of turn e f =
      let r : ltb (length t) places ≡ true = ap (λ (n : ℕ). ltb (length t) n) (sym same) ∙ when_room (ltb (length t) room) e in
      ap (λ (x : Turned). run_next x.stop made x.machine x.trace (run_on (steps - (made + 1)) places)) f ∙ (rw r at unfolded)

  pub run_stopped : (turn : Turned) (why : Ending) → false ≡ not (ltb (length t) room) → turn ≡ turned s t → turn.stop ≡ Some why
      → ended why made turn.machine turn.trace ≡ whole
  run_stopped turn why e f g =
      sym (ap (λ (o : Option Ending). run_next o made turn.machine turn.trace (run_on (steps - (made + 1)) places)) g) ∙ turn_of turn e f

  pub run_onward : (turn : Turned) → false ≡ not (ltb (length t) room) → turn ≡ turned s t → turn.stop ≡ None
      → run_on (steps - (made + 1)) places (made + 1) turn.machine turn.trace ≡ whole
  run_onward turn e f g =
      sym (ap (λ (o : Option Ending). run_next o made turn.machine turn.trace (run_on (steps - (made + 1)) places)) g) ∙ turn_of turn e f
