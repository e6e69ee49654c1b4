-- What a register byte reads.
use Rattle.std.specs.Prelude.{ℕ, ◌/◌, ◌%◌, cond, ◌==◌}
use Rattle.channel.specs.Decode.{Register, Csr, Cer, Dcr, Ocr, Scr, Ccr, Mtc, Mar, Dar, Btc, Bar, Niv, Eiv, Mfc, Dfc, Bfc, Cpr}
use Rattle.channel.specs.State.{Channel}

-- Byte k, from the high end, of a 16-bit register.
abbrev pub byte16 : ℕ → ℕ → ℕ
byte16 k x = cond (k == 0) (x / 256) (x % 256)

-- Byte k, from the high end, of a 32-bit register.
abbrev pub byte32 : ℕ → ℕ → ℕ
byte32 k x =
    cond (k == 0) (x / 16777216)
    (cond (k == 1) (x / 65536 % 256)
    (cond (k == 2) (x / 256 % 256) (x % 256)))

abbrev pub register_read : Register → Channel → ℕ
register_read Csr c = c.registers.status.csr
register_read Cer c = c.registers.status.cer
register_read Dcr c = c.registers.config.dcr
register_read Ocr c = c.registers.config.ocr
register_read Scr c = c.registers.config.scr
register_read Ccr c = c.registers.control.ccr
register_read (Mtc k) c = byte16 k c.registers.counters.mtc
register_read (Mar k) c = byte32 k c.registers.counters.mar
register_read (Dar k) c = byte32 k c.registers.counters.dar
register_read (Btc k) c = byte16 k c.registers.table.btc
register_read (Bar k) c = byte32 k c.registers.table.bar
register_read Niv c = c.registers.vectors.niv
register_read Eiv c = c.registers.vectors.eiv
register_read Mfc c = c.registers.counters.mfc
register_read Dfc c = c.registers.config.dfc
register_read Bfc c = c.registers.table.bfc
register_read Cpr c = c.registers.vectors.cpr
