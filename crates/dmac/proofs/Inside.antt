-- The first of four channels that is inside an operand or entry.
use Rattle.std.proofs.Common.{◌≡◌, ℕ, ◌+◌, Bool, true, false, not, cond, ltb, List, [], ◌∷◌, length, Some, None, refl, arith}
use Rattle.std.specs.List.{position_or_len}
use Rattle.channel.specs.Requests.{is_inside}
use Rattle.dmac.specs.Choice.{inside_of}
use Rattle.channel.specs.declared.state.Channel.{Channel}

-- a place further, unless this one passes
abbrev further : Bool → ℕ → ℕ
further p n = cond (not p) (1 + n) 0

picked : (p q r s : Bool)
    → cond (ltb (further p (further q (further r (further s 0)))) 4) (Some (further p (further q (further r (further s 0))))) None
    ≡ cond p (Some 0) (cond q (Some 1) (cond r (Some 2) (cond s (Some 3) None)))
picked true q r s = refl
picked false true r s = refl
picked false false true s = refl
picked false false false true = refl
picked false false false false = refl

pub inside_found : (cs : List Channel) → length cs ≡ 4
    → cond (ltb (position_or_len is_inside cs) (length cs)) (Some (position_or_len is_inside cs)) None
    ≡ inside_of (record { channels = cs; gcr = 0; last = 0; bus = false })
inside_found [] e = absurd (omega arith)
inside_found (a ∷ []) e = absurd (omega arith)
inside_found (a ∷ b ∷ []) e = absurd (omega arith)
inside_found (a ∷ b ∷ c ∷ []) e = absurd (omega arith)
inside_found (a ∷ b ∷ c ∷ d ∷ []) e = picked (is_inside a) (is_inside b) (is_inside c) (is_inside d)
inside_found (a ∷ b ∷ c ∷ d ∷ x ∷ xs) e = absurd (omega arith)
