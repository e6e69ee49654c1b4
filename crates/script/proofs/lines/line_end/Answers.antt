-- The first newline ends the line.
use Rattle.std.proofs.Common.{◌≡◌, ℕ, ◌+◌, ◌<◌, ◌≤◌, true, false, List, length, get_or, refl, ◌∙◌, sym, eqb, arith, rules}
use Rattle.std.proofs.lemmas.List.Recursion.{is_position_or_len}
use Rattle.std.proofs.lemmas.List.Sums.{position_or_len_is}
use Rattle.script.specs.Lines.{before_newline}
use Rattle.script.proofs.lines.line_end.Goals as goal

first_newline : (s : List ℕ) (i : ℕ) → i ≤ length s → ((k : ℕ) → k < i → eqb (get_or s k 0) 10 ≡ false) → (i < length s → eqb (get_or s i 0) 10 ≡ true) → i ≡ before_newline s
first_newline s i w before at =
    sym (is_position_or_len before_newline (λ code. eqb code 10) refl (λ _ s. let e : before_newline s + 1 ≡ 1 + before_newline s = omega arith in rw e refl) s
    ∙ position_or_len_is (λ code. eqb code 10) s i 0 w before at)

pub returns-clause-value : goal.returns-clause-value
returns-clause-value c = first_newline c.args.script.now c.unwrap_or.result (search rules) (search rules) (search rules)
