-- The channel control register CCR. Only CNT bit 6 (continue), HLT bit 5 (halt) and INT bit 3 (interrupts)
-- are ever stored; STR bit 7 (start) and SAB bit 4 (software abort) act as they are written and read 0.
use Rattle.std.specs.Prelude.{ℕ, Bool, bit_and, bit_or}
use Rattle.registers.specs.Bits.{any}
use Rattle.registers.specs.Groups.{Control}

abbrev pub is_continuing : Control → Bool
is_continuing c = any 0x40 c.ccr

abbrev pub is_halted : Control → Bool
is_halted c = any 0x20 c.ccr

-- HLT and INT are stored as written; CNT stays.
abbrev pub stored : ℕ → Control → Control
stored v c = record { ccr = bit_or (bit_and c.ccr 0x40) (bit_and v 0x28) }

abbrev pub continued : Control → Control
continued c = record { ccr = bit_or c.ccr 0x40 }

abbrev pub uncontinued : Control → Control
uncontinued c = record { ccr = bit_and c.ccr 0xBF }
