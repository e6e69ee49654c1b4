-- The lines of a script.
use Rattle.std.specs.Prelude.{ℕ, ◌+◌, cond, List, [], ◌∷◌, length, take, drop, ◌==◌}

-- A byte put before the first of some lines; where there is none, it begins one.
abbrev pub joined : ℕ → List (List ℕ) → List (List ℕ)
joined c [] = (c ∷ []) ∷ []
joined c (l ∷ ls) = (c ∷ l) ∷ ls

-- A script is cut at each newline (10). A newline at its very end begins no further line.
abbrev pub lines : List ℕ → List (List ℕ)
lines [] = []
lines (c ∷ s) = cond (c == 10) ([] ∷ lines s) (joined c (lines s))

-- How many bytes stand before the first newline, or in all where there is none.
abbrev pub before_newline : List ℕ → ℕ
before_newline [] = 0
before_newline (c ∷ s) = cond (c == 10) 0 (before_newline s + 1)

-- The first line.
abbrev pub first_line : List ℕ → List ℕ
first_line s = take (before_newline s) s

-- What follows the first line and its newline.
abbrev pub rest_lines : List ℕ → List ℕ
rest_lines s = drop (length (first_line s) + 1) s
