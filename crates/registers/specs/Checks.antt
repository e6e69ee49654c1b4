-- Checks that are made in order: the first that fails decides.
use Rattle.std.specs.Prelude.{Bool, cond, List, [], ◌∷◌, Some, None, Option}

-- One check: whether it fails, and what is then answered.
pub record Check (A : Type 0) : Type 0 where
  pub fails : Bool
  pub answer : A

abbrev pub check : {A : Type 0} → Bool → A → Check A
check b x = record { fails = b; answer = x }

-- The answer of the first check that fails, or none.
abbrev pub first_failing : {A : Type 0} → List (Check A) → Option A
first_failing [] = None
first_failing (k ∷ ks) = cond k.fails (Some k.answer) (first_failing ks)
