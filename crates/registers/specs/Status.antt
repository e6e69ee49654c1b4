-- The channel status register CSR and the channel error register CER.
-- CSR: COC bit 7 (operation complete), block bit 6 (a block of a continued operation is complete), NDT bit 5
-- (the device ended the operation), ERR bit 4 (an error stands), ACT bit 3 (the channel is active).
use Rattle.std.specs.Prelude.{ℕ, ◌-◌, Bool, cond, bit_and, bit_or}
use Rattle.registers.specs.Bits.{any}
use Rattle.registers.specs.Fault.{Fault, code_of}
use Rattle.registers.specs.Groups.{Status}

abbrev pub is_active : Status → Bool
is_active s = any 0x08 s.csr

abbrev pub is_erring : Status → Bool
is_erring s = any 0x10 s.csr

abbrev pub is_block_done : Status → Bool
is_block_done s = any 0x40 s.csr

-- Something of an operation stands: COC, the block bit, NDT, ERR or ACT.
abbrev pub is_busy : Status → Bool
is_busy s = any 0xF8 s.csr

-- Every error sets COC and ERR and clears ACT; the code of the first error stays until ERR is cleared.
abbrev pub failed : Fault → Status → Status
failed f s = record { csr = bit_and (bit_or s.csr 0x90) 0xF7; cer = cond (is_erring s) s.cer (code_of f) }

-- A start that passes sets ACT.
abbrev pub activated : Status → Status
activated s = record { csr = bit_or s.csr 0x08; cer = s.cer }

-- The end of an operation sets COC and clears ACT; one that the device ends sets NDT too.
abbrev pub completed : Status → Status
completed s = record { csr = bit_and (bit_or s.csr 0x80) 0xF7; cer = s.cer }

abbrev pub ended : Status → Status
ended s = record { csr = bit_and (bit_or s.csr 0xA0) 0xF7; cer = s.cer }

-- The next block of a continued operation sets the block bit.
abbrev pub block_done : Status → Status
block_done s = record { csr = bit_or s.csr 0x40; cer = s.cer }

-- A 1 in bits 7 to 4 of a written byte clears that bit; clearing ERR clears CER.
abbrev pub cleared : ℕ → Status → Status
cleared v s = record { csr = bit_and s.csr (255 - bit_and v 0xF0); cer = cond (any 0x10 v) 0 s.cer }
