-- The numbers of the refusals.
use Rattle.std.specs.Prelude.{ℕ}
use Rattle.refusal.specs.declared.kinds.Refusal.{Refusal}
use Rattle.refusal.specs.declared.kinds.Refusal.TheVariants.{NoRegister, OddWord, NoChannel, StartByWord, NoException, NoCommand, PastTheEnd, NoPlace, NoInterrupt, TraceFull}

-- A call is refused with
--   1  where the offset has no register (for a word: neither half has one)
--   2  where a word access has an odd offset
--   3  where a channel number is above 3
--   4  where a word write would set bit 7, the start bit, of a channel control register
--   5  where an exception code is not 0 or 3 to 7
--   6  where a script line is not a command
--   7  where a script area reaches past $FFF
--   8  where a store's place is none, or is not answered for writing
--   9  where an interrupt is taken and no channel raises one
--  10  where a run of one step or more begins with a full trace
-- and, if several fit, with the smallest of them.
abbrev pub number_of : Refusal → ℕ
number_of NoRegister = 1
number_of OddWord = 2
number_of NoChannel = 3
number_of StartByWord = 4
number_of NoException = 5
number_of NoCommand = 6
number_of PastTheEnd = 7
number_of NoPlace = 8
number_of NoInterrupt = 9
number_of TraceFull = 10
