-- The exceptions and their codes.
use Rattle.std.specs.Prelude.{◌≡◌, ℕ, Bool, false, ◌&&◌, ◌||◌, ◌==◌, Result, MatchResult, nat_le}
use Rattle.refusal.specs.declared.kinds.Refusal.{Refusal}
use Rattle.refusal.specs.declared.kinds.Refusal.TheVariants.{NoException}
pub use Rattle.dmac.specs.declared.exception.Exception.{Exception}
pub use Rattle.dmac.specs.declared.exception.Exception.TheVariants.{Reset, Relinquish, Retry, BusError, Halt, Absent}

-- The exception codes are 0 and 3 to 7.
abbrev pub is_exception : ℕ → Bool
is_exception code = code == 0 || (nat_le 3 code && nat_le code 7)

-- The code of each exception.
abbrev pub code_of : Exception → ℕ
code_of Reset = 0
code_of Relinquish = 3
code_of Retry = 4
code_of BusError = 5
code_of Halt = 6
code_of Absent = 7

-- A code is taken as the exception that has it, or refused because it is none.
abbrev pub Decodes : ℕ → Result Exception Refusal → Type 0
Decodes code r = MatchResult r (λ e. code_of e ≡ code) (λ why. (why ≡ NoException) × (is_exception code ≡ false))
