-- Operands, byte by byte.
use Rattle.std.specs.Prelude.{ℕ, zero, suc, ◌+◌, ◌-◌, ◌*◌, ◌%◌, Bool, true, false, cond, ◌&&◌, List, [], ◌∷◌, replicate, ◌==◌, nat_le}
use Rattle.registers.specs.Config.{dtyp, reqg, mac, dac, is_single, is_inward, is_port16, size_of, bytes_of}
use Rattle.registers.specs.declared.groups.Config.{Config}

-- Where a byte of an operand comes from or goes to: memory or the channel's device, with the function code and the
-- address that are sent. The device of single addressing has neither.
pub data Place : Type 0 where
  in_memory : ℕ → ℕ → Place
  in_device : ℕ → ℕ → Place
  bare_device : Place

-- One byte's way.
pub record Move : Type 0 where
  pub from : Place
  pub to : Place

-- An operand: its memory address register and device address register, in all 32 bits, and the way of each byte.
pub record Operand : Type 0 where
  pub mar : ℕ
  pub dar : ℕ
  pub moves : List Move

-- Bytes that come from one list of places and go to another, in their order.
abbrev pub paired : List Place → List Place → List Move
paired [] tos = []
paired (f ∷ fs) [] = []
paired (f ∷ fs) (t ∷ ts) = record { from = f; to = t } ∷ paired fs ts

-- The address that a register sends, some bytes further: modulo 2^24.
abbrev pub sent_at : ℕ → ℕ → ℕ
sent_at register offset = (register + offset) % 16777216

-- So many bytes of an operand behind an address register, each `gap` addresses after the one before.
abbrev pub spread : (ℕ → Place) → ℕ → ℕ → ℕ → ℕ → List Place
spread at register offset gap zero = []
spread at register offset gap (suc n) = at (sent_at register offset) ∷ spread at register (offset + gap) gap n

-- The memory side: one byte after the other from MAR on.
abbrev pub memory_places : ℕ → ℕ → ℕ → List Place
memory_places code mar n = spread (in_memory code) mar 0 1 n

-- A place on the device side under dual addressing: memory too, for device type 0 with automatic requests, or the
-- channel's device.
abbrev pub device_place : Config → ℕ → ℕ → Place
device_place k code a = cond (dtyp k == 0 && nat_le (reqg k) 1) (in_memory code a) (in_device code a)

-- So many times the device of single addressing.
abbrev pub bare : ℕ → List Place
bare n = replicate n bare_device

-- The device side: from DAR on, one byte after the other through a 16-bit port, at every other address through an 8-bit
-- one.
abbrev pub device_places_by : Bool → Bool → Config → ℕ → ℕ → List Place
device_places_by true wide k dar n = bare n
device_places_by false true k dar n = spread (device_place k k.dfc) dar 0 1 n
device_places_by false false k dar n = spread (device_place k k.dfc) dar 0 2 n

abbrev pub device_places : Config → ℕ → ℕ → List Place
device_places k dar n = device_places_by (is_single k) (is_port16 k) k dar n

-- From memory to the device, or back.
abbrev pub directed : Bool → List Place → List Place → List Move
directed false memory device = paired memory device
directed true memory device = paired device memory

-- The operand at MAR and DAR, with the memory function code.
unfoldable pub operand : Config → ℕ → ℕ → ℕ → Operand
operand k code mar dar = record {
  mar = mar;
  dar = dar;
  moves = directed (is_inward k) (memory_places code mar (bytes_of (size_of k))) (device_places k dar (bytes_of (size_of k)));
}

-- An address register some bytes on, as it counts (1 up, 2 down, else still), in 32 bits.
abbrev pub moved_on : ℕ → ℕ → ℕ → ℕ
moved_on count n a =
    cond (count == 1) ((a + n) % 4294967296)
    (cond (count == 2) ((a + (4294967296 - n)) % 4294967296) a)

-- MAR moved on once: by the operand's bytes.
abbrev pub mar_on : Config → ℕ → ℕ
mar_on k a = moved_on (mac k) (bytes_of (size_of k)) a

-- DAR moved on once: by the operand's bytes, by twice as many through an 8-bit port; under single addressing it stays.
abbrev pub dar_on : Config → ℕ → ℕ
dar_on k a = cond (is_single k) a (moved_on (dac k) (cond (is_port16 k) (bytes_of (size_of k)) (2 * bytes_of (size_of k))) a)

-- So many operands, from MAR and DAR on: each has both addresses moved on once more.
abbrev pub operands : Config → ℕ → ℕ → ℕ → ℕ → List Operand
operands k code mar dar zero = []
operands k code mar dar (suc n) = operand k code mar dar ∷ operands k code (mar_on k mar) (dar_on k dar) n

-- DAR moved on so many times.
abbrev pub dar_after : Config → ℕ → ℕ → ℕ
dar_after k dar zero = dar
dar_after k dar (suc n) = dar_on k (dar_after k dar n)
