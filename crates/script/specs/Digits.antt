-- The digits of a script: numbers are in capital hexadecimal, two digits to a byte.
use Rattle.std.specs.Prelude.{ℕ, ◌+◌, ◌-◌, ◌*◌, Bool, true, cond, ◌&&◌, List, [], ◌∷◌, is_some, Some, None, Option, nat_le}
use Rattle.std.specs.Option.{unwrap_or}

-- The value of a digit: '0' to '9' are 48 to 57, 'A' to 'F' are 65 to 70. No other byte is a digit.
abbrev pub hex_digit : ℕ → Option ℕ
hex_digit code =
    cond (nat_le 48 code && nat_le code 57) (Some (code - 48))
    (cond (nat_le 65 code && nat_le code 70) (Some (code - 55)) None)

-- Whether every byte is a digit.
abbrev pub all_digits : List ℕ → Bool
all_digits [] = true
all_digits (code ∷ codes) = is_some (hex_digit code) && all_digits codes

-- The value of a digit, where a byte that is none counts 0.
abbrev pub digit_value : ℕ → ℕ
digit_value code = unwrap_or (hex_digit code) 0

-- The bytes that pairs of digits spell. A last digit that has no partner is dropped.
abbrev pub data_bytes : List ℕ → List ℕ
data_bytes [] = []
data_bytes (high ∷ []) = []
data_bytes (high ∷ low ∷ codes) = (16 * digit_value high + digit_value low) ∷ data_bytes codes
