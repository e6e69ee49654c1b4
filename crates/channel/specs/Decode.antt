-- Which register byte stands at which offset of a channel, and which are barred from writing.
use Rattle.std.specs.Prelude.{ℕ, ◌-◌, Bool, true, false, cond, ◌&&◌, ◌==◌, nat_le}
pub use Rattle.channel.specs.declared.decode.Register.{Register}
pub use Rattle.channel.specs.declared.decode.Register.TheVariants.{Csr, Cer, Dcr, Ocr, Scr, Ccr, Mtc, Mar, Dar, Btc, Bar, Niv, Eiv, Mfc, Dfc, Bfc, Cpr}
pub use Rattle.channel.specs.declared.decode.Access.{Access}
pub use Rattle.channel.specs.declared.decode.Access.TheVariants.{Nowhere, Barred, To, General}

-- One line of the table: at offset a stands this, else what the lines below say.
abbrev pub at : ℕ → ℕ → Access → Access → Access
at n a here below = cond (n == a) here below

-- The same for the offsets a to b.
abbrev pub from_to : ℕ → ℕ → ℕ → Access → Access → Access
from_to n a b here below = cond (nat_le a n && nat_le n b) here below

-- The register byte at offset n of channel c. The general control register is the last byte of channel 3's
-- part of the map, $FF.
abbrev pub register_at : ℕ → ℕ → Access
register_at c n =
    at n 0x00 (To Csr)
    (at n 0x01 (To Cer)
    (at n 0x04 (To Dcr)
    (at n 0x05 (To Ocr)
    (at n 0x06 (To Scr)
    (at n 0x07 (To Ccr)
    (from_to n 0x0A 0x0B (To (Mtc (n - 0x0A)))
    (from_to n 0x0C 0x0F (To (Mar (n - 0x0C)))
    (from_to n 0x14 0x17 (To (Dar (n - 0x14)))
    (from_to n 0x1A 0x1B (To (Btc (n - 0x1A)))
    (from_to n 0x1C 0x1F (To (Bar (n - 0x1C)))
    (at n 0x25 (To Niv)
    (at n 0x27 (To Eiv)
    (at n 0x29 (To Mfc)
    (at n 0x2D (To Cpr)
    (at n 0x31 (To Dfc)
    (at n 0x39 (To Bfc)
    (at n 0x3F (cond (c == 3) General Nowhere)
    Nowhere)))))))))))))))))

-- The registers that an active channel bars from writing: those of the settings, the transfer counter and
-- the addresses, always; those of the next block, under chaining.
abbrev pub is_locked : Register → Bool → Bool
is_locked Csr chained = false
is_locked Cer chained = false
is_locked Dcr chained = true
is_locked Ocr chained = true
is_locked Scr chained = true
is_locked Ccr chained = false
is_locked (Mtc k) chained = true
is_locked (Mar k) chained = true
is_locked (Dar k) chained = true
is_locked (Btc k) chained = chained
is_locked (Bar k) chained = chained
is_locked Niv chained = false
is_locked Eiv chained = false
is_locked Mfc chained = true
is_locked Dfc chained = true
is_locked Bfc chained = chained
is_locked Cpr chained = false

-- What a write reaches where no bar is looked at, with the bars of a channel that is active or not.
abbrev pub barred_by : Access → Bool → Bool → Access
barred_by Nowhere active chained = Nowhere
barred_by Barred active chained = Barred
barred_by (To r) active chained = cond (active && is_locked r chained) Barred (To r)
barred_by General active chained = General

-- What a write at offset n of channel c reaches.
abbrev pub access_at : ℕ → ℕ → Bool → Bool → Access
access_at c n active chained = barred_by (register_at c n) active chained
