-- How a run is printed: a line for each record, and a line for why it ended.
use Rattle.std.specs.Prelude.{ℕ, ◌/◌, ◌%◌, List, [], ◌∷◌, ◌++◌}
use Rattle.registers.specs.Fault.{code_of}
pub use Rattle.cycle.specs.Record.{kind_letter}
use Rattle.cycle.specs.declared.record.Data.{Data}
use Rattle.cycle.specs.declared.record.Data.TheVariants.{Byte, Word}
use Rattle.cycle.specs.declared.record.Record.{Record}
use Rattle.cycle.specs.declared.record.Record.TheVariants.{Cycle, Error}
use Rattle.dmac.specs.declared.run.Ending.{Ending}
use Rattle.dmac.specs.declared.run.Ending.TheVariants.{Done, Idle, Waiting, Full}
use Rattle.script.specs.Text.{hex_code, hex_text, byte_text, newline}

-- One byte or two, and the end of the line.
abbrev pub data_text : Data → List ℕ
data_text (Byte a) = hex_text a ++ newline
data_text (Word a b) = hex_text a ++ (hex_text b ++ newline)

-- An address, six digits, and a blank (32).
unfoldable pub address_text : ℕ → List ℕ
address_text a = hex_text (a / 65536 % 256) ++ (hex_text (a / 256 % 256) ++ (hex_text (a % 256) ++ (32 ∷ [])))

-- The channel, a letter, and a blank after each.
unfoldable pub head_text : ℕ → ℕ → List ℕ
head_text n letter = hex_code (n % 16) ∷ 32 ∷ letter ∷ 32 ∷ []

-- A cycle: channel, letter, address and data; an error: channel, 'F' (70) and the code that the error register shows.
abbrev pub record_text : Record → List ℕ
record_text (Cycle n k f a v) = head_text n (kind_letter k) ++ (address_text a ++ data_text v)
record_text (Error n f) = head_text n 70 ++ byte_text (code_of f)

abbrev pub records_text : List Record → List ℕ
records_text [] = []
records_text (r ∷ rs) = record_text r ++ records_text rs

-- `done`, `idle`, `waiting` or `full`.
abbrev pub ending_text : Ending → List ℕ
ending_text Done = 100 ∷ 111 ∷ 110 ∷ 101 ∷ 10 ∷ []
ending_text Idle = 105 ∷ 100 ∷ 108 ∷ 101 ∷ 10 ∷ []
ending_text Waiting = 119 ∷ 97 ∷ 105 ∷ 116 ∷ 105 ∷ 110 ∷ 103 ∷ 10 ∷ []
ending_text Full = 102 ∷ 117 ∷ 108 ∷ 108 ∷ 10 ∷ []
