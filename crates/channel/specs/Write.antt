-- What a write makes of a channel.
use Rattle.std.specs.Prelude.{ℕ, ◌+◌, ◌*◌, ◌/◌, ◌%◌, Bool, true, false, cond, ◌||◌, ◌==◌, bit_and}
use Rattle.registers.specs.Config.{is_chained}
use Rattle.registers.specs.Status.{is_active, cleared}
use Rattle.registers.specs.declared.fault.Fault.TheVariants.{Timing}
use Rattle.channel.specs.Decode.{Register, Csr, Cer, Dcr, Ocr, Scr, Ccr, Mtc, Mar, Dar, Btc, Bar, Niv, Eiv, Mfc, Dfc, Bfc, Cpr, Access, Nowhere, Barred, To, General, access_at}
use Rattle.channel.specs.State.{Channel, with_config, with_counters, with_table, with_status, with_vectors, channel_failed}
use Rattle.channel.specs.Start.{control_written}

-- A 16-bit register with byte k, from the high end, replaced.
abbrev pub with_byte16 : ℕ → ℕ → ℕ → ℕ
with_byte16 k v x = cond (k == 0) (v * 256 + x % 256) (x / 256 * 256 + v)

-- A 32-bit register with byte k, from the high end, replaced.
abbrev pub with_byte32 : ℕ → ℕ → ℕ → ℕ
with_byte32 k v x =
    cond (k == 0) (v * 16777216 + x % 16777216)
    (cond (k == 1) (x / 16777216 * 16777216 + v * 65536 + x % 65536)
    (cond (k == 2) (x / 65536 * 65536 + v * 256 + x % 256) (x / 256 * 256 + v)))

-- A write that is made, by register. Of each register only the named bits are kept: DCR bits 7 to 3, OCR all but
-- bit 6, SCR bits 3 to 0, the function codes 3 bits, CPR 2 bits. Writes to CER are ignored.
abbrev pub register_written : Register → ℕ → Channel → Channel
register_written Csr v c = with_status (cleared v c.registers.status) c
register_written Cer v c = c
register_written Dcr v c = with_config (record { dcr = bit_and v 0xF8; ocr = c.registers.config.ocr; scr = c.registers.config.scr; dfc = c.registers.config.dfc }) c
register_written Ocr v c = with_config (record { dcr = c.registers.config.dcr; ocr = bit_and v 0xBF; scr = c.registers.config.scr; dfc = c.registers.config.dfc }) c
register_written Scr v c = with_config (record { dcr = c.registers.config.dcr; ocr = c.registers.config.ocr; scr = bit_and v 0x0F; dfc = c.registers.config.dfc }) c
register_written Ccr v c = control_written v c
register_written (Mtc k) v c = with_counters (record { mtc = with_byte16 k v c.registers.counters.mtc; mar = c.registers.counters.mar; dar = c.registers.counters.dar; mfc = c.registers.counters.mfc }) c
register_written (Mar k) v c = with_counters (record { mtc = c.registers.counters.mtc; mar = with_byte32 k v c.registers.counters.mar; dar = c.registers.counters.dar; mfc = c.registers.counters.mfc }) c
register_written (Dar k) v c = with_counters (record { mtc = c.registers.counters.mtc; mar = c.registers.counters.mar; dar = with_byte32 k v c.registers.counters.dar; mfc = c.registers.counters.mfc }) c
register_written (Btc k) v c = with_table (record { btc = with_byte16 k v c.registers.table.btc; bar = c.registers.table.bar; bfc = c.registers.table.bfc }) c
register_written (Bar k) v c = with_table (record { btc = c.registers.table.btc; bar = with_byte32 k v c.registers.table.bar; bfc = c.registers.table.bfc }) c
register_written Niv v c = with_vectors (record { niv = v; eiv = c.registers.vectors.eiv; cpr = c.registers.vectors.cpr }) c
register_written Eiv v c = with_vectors (record { niv = c.registers.vectors.niv; eiv = v; cpr = c.registers.vectors.cpr }) c
register_written Mfc v c = with_counters (record { mtc = c.registers.counters.mtc; mar = c.registers.counters.mar; dar = c.registers.counters.dar; mfc = bit_and v 7 }) c
register_written Dfc v c = with_config (record { dcr = c.registers.config.dcr; ocr = c.registers.config.ocr; scr = c.registers.config.scr; dfc = bit_and v 7 }) c
register_written Bfc v c = with_table (record { btc = c.registers.table.btc; bar = c.registers.table.bar; bfc = bit_and v 7 }) c
register_written Cpr v c = with_vectors (record { niv = c.registers.vectors.niv; eiv = c.registers.vectors.eiv; cpr = bit_and v 3 }) c

-- What a write at offset n of channel number i reaches in that channel as it now stands.
abbrev pub reached : ℕ → ℕ → Channel → Access
reached i n c = access_at i n (is_active c.registers.status) (is_chained c.registers.config)

-- One half of a word, or a byte: where no register of the channel is reached, nothing changes.
abbrev pub half_written : Access → ℕ → Channel → Channel
half_written Nowhere v c = c
half_written Barred v c = c
half_written (To r) v c = register_written r v c
half_written General v c = c

abbrev pub is_barred : Access → Bool
is_barred Nowhere = false
is_barred Barred = true
is_barred (To r) = false
is_barred General = false

-- A write: the high half, then the low half; if one of them is barred neither is made, and it is error 2. A byte
-- is a write with nothing in its high half.
abbrev pub written : Access → ℕ → Access → ℕ → Channel → Channel
written high vh low vl c =
    cond (is_barred high || is_barred low) (channel_failed Timing c)
    (half_written low vl (half_written high vh c))
