-- Bits of a byte.
use Rattle.std.specs.Prelude.{ℕ, ◌%◌, Bool, not, ◌==◌, bit_and}

-- Whether any bit of a mask stands in a byte.
abbrev pub any : ℕ → ℕ → Bool
any mask v = not (bit_and v mask == 0)

-- Whether an address is odd.
abbrev pub odd : ℕ → Bool
odd a = a % 2 == 1
