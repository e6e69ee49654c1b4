-- A script that is not empty is its first line and the lines of what follows that, which is shorter.
use Rattle.std.proofs.Common.{◌≡◌, ℕ, ◌+◌, ◌<◌, Bool, true, false, cond, eqb, List, [], ◌∷◌, length, take, drop, refl, ap, add-one, arith, length-drop}
use Rattle.std.proofs.lemmas.List.{nil_from_length}
use Rattle.script.specs.Lines.{lines, joined, before_newline, first_line, rest_lines}

-- the same of a script whose first byte is `c`, where `b` says whether that is a newline
cut : (c : ℕ) (s : List ℕ) (b : Bool) (n : ℕ) → n ≡ cond b 0 (before_newline s + 1) → joined c (lines s) ≡ (c ∷ first_line s) ∷ lines (rest_lines s) →
    cond b ([] ∷ lines s) (joined c (lines s)) ≡ take n (c ∷ s) ∷ lines (drop (length (take n (c ∷ s)) + 1) (c ∷ s))
cut c s true n e h = rw e refl
cut c s false n e h = rw (e, add-one (before_newline s), add-one) (rw add-one at h)

pub lines_step : (s : List ℕ) → 0 < length s → lines s ≡ first_line s ∷ lines (rest_lines s)
lines_step [] h = absurd (omega arith)
lines_step (c ∷ []) h = cut c [] (eqb c 10) (before_newline (c ∷ [])) refl refl
lines_step (c ∷ d ∷ s) h = cut c (d ∷ s) (eqb c 10) (before_newline (c ∷ d ∷ s)) refl (ap (joined c) (lines_step (d ∷ s) (omega arith)))

pub rest_shorter : (s : List ℕ) → 0 < length s → length (rest_lines s) < length s
rest_shorter s h = simp length-drop (omega arith)

pub lines_end : (s : List ℕ) → length s ≡ 0 → lines s ≡ []
lines_end s h = rw (nil_from_length s h) refl
