-- The commands of a script: which lines are commands, and what each says.
use Rattle.std.specs.Prelude.{ℕ, ◌+◌, ◌*◌, ◌%◌, Bool, cond, ◌&&◌, List, length, drop, Ok, Err, Result, ◌==◌, nat_le, slice_index}
use Rattle.std.specs.Option.{ok_or}
use Rattle.refusal.specs.declared.kinds.Refusal.{Refusal}
use Rattle.refusal.specs.declared.kinds.Refusal.TheVariants.{NoCommand}
use Rattle.script.specs.declared.command.Command.{Command}
use Rattle.script.specs.declared.command.Command.TheVariants.{Write, Read, Fill, Show, Run}
use Rattle.script.specs.Digits.{hex_digit, all_digits}

-- What a command says: as the command itself, with the digits of a fill as a list.
pub data Said : Type 0 where
  write : ℕ → ℕ → Said
  read : ℕ → Said
  fill : ℕ → List ℕ → Said
  show : ℕ → ℕ → Said
  run : ℕ → Said

-- What an answer of `parse` says.
abbrev pub said : Result Command Refusal → Result Said Refusal
said (Ok (Write offset value)) = Ok (write offset value)
said (Ok (Read offset)) = Ok (read offset)
said (Ok (Fill address digits)) = Ok (fill address digits.now)
said (Ok (Show address count)) = Ok (show address count)
said (Ok (Run steps)) = Ok (run steps)
said (Err refusal) = Err refusal

-- Every line that is not a command is refused in one way.
abbrev pub no_command : {X : Type 0} → Result X Refusal
no_command = Err NoCommand

-- Goes on with what was read, unless that was refused.
abbrev pub and_then : {X Y : Type 0} → Result X Refusal → (X → Result Y Refusal) → Result Y Refusal
and_then (Ok x) next = next x
and_then (Err refusal) next = Err refusal

-- The value of the digit at a place of a line.
abbrev pub digit_at : List ℕ → ℕ → Result ℕ Refusal
digit_at line place = ok_or (hex_digit (slice_index line place)) NoCommand

-- A byte: two digits.
abbrev pub pair_at : List ℕ → ℕ → Result ℕ Refusal
pair_at line place = and_then (digit_at line place) (λ high. and_then (digit_at line (place + 1)) (λ low. Ok (16 * high + low)))

-- An address: six digits.
abbrev pub address_at : List ℕ → ℕ → Result ℕ Refusal
address_at line place =
    and_then (pair_at line place)
    (λ high. and_then (pair_at line (place + 2)) (λ mid. and_then (pair_at line (place + 4)) (λ low. Ok (65536 * high + 256 * mid + low))))

-- Whether a blank (32) stands at a place of a line.
abbrev pub blank_at : List ℕ → ℕ → Bool
blank_at line place = slice_index line place == 32

-- `W oo vv`
abbrev pub write_line : List ℕ → Result Said Refusal
write_line line =
    cond (length line == 7 && (blank_at line 1 && blank_at line 4))
    (and_then (pair_at line 2) (λ offset. and_then (pair_at line 5) (λ value. Ok (write offset value)))) no_command

-- `R oo`
abbrev pub read_line : List ℕ → Result Said Refusal
read_line line = cond (length line == 4 && blank_at line 1) (and_then (pair_at line 2) (λ offset. Ok (read offset))) no_command

-- The length of a fill: nine bytes, and then one to sixteen pairs of digits, so 11, 13 and so on up to 41.
abbrev pub fill_length : ℕ → Bool
fill_length n = nat_le 11 n && (nat_le n 41 && n % 2 == 1)

-- `F aaaaaa dd..dd`
abbrev pub fill_line : List ℕ → Result Said Refusal
fill_line line =
    cond (fill_length (length line) && (blank_at line 1 && (blank_at line 8 && all_digits (drop 9 line))))
    (and_then (address_at line 2) (λ address. Ok (fill address (drop 9 line)))) no_command

-- `M aaaaaa nn`
abbrev pub show_line : List ℕ → Result Said Refusal
show_line line =
    cond (length line == 11 && (blank_at line 1 && blank_at line 8))
    (and_then (address_at line 2) (λ address. and_then (pair_at line 9) (λ count. Ok (show address count)))) no_command

-- `S nn`
abbrev pub run_line : List ℕ → Result Said Refusal
run_line line = cond (length line == 4 && blank_at line 1) (and_then (pair_at line 2) (λ steps. Ok (run steps))) no_command

-- The command of a line by its letter: 87 is 'W', 82 is 'R', 70 is 'F', 77 is 'M' and 83 is 'S'.
abbrev pub by_letter : ℕ → List ℕ → Result Said Refusal
by_letter letter line =
    cond (letter == 87) (write_line line)
    (cond (letter == 82) (read_line line)
    (cond (letter == 70) (fill_line line)
    (cond (letter == 77) (show_line line)
    (cond (letter == 83) (run_line line) no_command))))

-- The command that a line says. An empty line says none. Every command has at most 41 bytes.
abbrev pub parsed : List ℕ → Result Said Refusal
parsed line = cond (length line == 0) no_command (by_letter (slice_index line 0) line)
