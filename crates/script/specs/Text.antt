-- The texts that answer a command.
use Rattle.std.specs.Prelude.{ℕ, ◌+◌, ◌/◌, ◌%◌, cond, List, [], ◌∷◌, ◌++◌, nat_lt}
use Rattle.refusal.specs.Number.{number_of}
use Rattle.refusal.specs.declared.kinds.Refusal.{Refusal}

-- The code of a digit below 16: 48 is '0', and 'A', for ten, is 65.
abbrev pub hex_code : ℕ → ℕ
hex_code digit = cond (nat_lt digit 10) (48 + digit) (55 + digit)

-- A byte as two digits.
abbrev pub hex_text : ℕ → List ℕ
hex_text byte = hex_code (byte / 16) ∷ hex_code (byte % 16) ∷ []

-- The end of a line.
abbrev pub newline : List ℕ
newline = 10 ∷ []

-- `OK` and a newline.
abbrev pub ok_text : List ℕ
ok_text = 79 ∷ 75 ∷ 10 ∷ []

-- A byte as a line of its own.
abbrev pub byte_text : ℕ → List ℕ
byte_text byte = hex_text byte ++ newline

-- `E`, a blank, the refusal's number in two decimal digits, and a newline.
abbrev pub refusal_text : Refusal → List ℕ
refusal_text refusal = 69 ∷ 32 ∷ (48 + number_of refusal / 10) ∷ (48 + number_of refusal % 10) ∷ 10 ∷ []
