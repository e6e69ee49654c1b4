-- The fields of the configuration registers.
use Rattle.std.specs.Prelude.{ℕ, ◌+◌, ◌-◌, ◌*◌, ◌/◌, ◌%◌, Bool, cond, not, ◌&&◌, ◌||◌, ◌==◌, bit_and, nat_le, Some, None, Option}
use Rattle.registers.specs.Bits.{any, odd}
use Rattle.registers.specs.Groups.{Config, Size, Byte, Word, Long, Chain, Plain, Array, Linked, Requests, LimitedRate, MaximumRate, Line, FirstAutomatic, RequestMode, Burst, CycleSteal, DeviceType, Dual, DualDevice, Single, Counting, Still, Up, Down}

-- DCR, device control. XRM, bits 7-6: 0 burst, 2 and 3 cycle steal, 1 none.
abbrev pub xrm : Config → ℕ
xrm k = k.dcr / 64

-- DTYP, bits 5-4: 0 and 1 dual addressing, 2 and 3 single addressing.
abbrev pub dtyp : Config → ℕ
dtyp k = bit_and (k.dcr / 16) 3

-- DPS, bit 3: a 16-bit device port, else an 8-bit one.
abbrev pub is_port16 : Config → Bool
is_port16 k = any 0x08 k.dcr

-- OCR, operation control. SIZE, bits 5-4: 0 byte, 1 word, 2 long, 3 none.
abbrev pub size_field : Config → ℕ
size_field k = bit_and (k.ocr / 16) 3

-- CHAIN, bits 3-2: 0 no chaining, 2 array, 3 linked, 1 none.
abbrev pub chain_field : Config → ℕ
chain_field k = bit_and (k.ocr / 4) 3

-- REQG, bits 1-0: 0 automatic requests at a limited rate, 1 automatic requests at full speed, 2 the request line,
-- 3 an operation's first operand automatic and then the line.
abbrev pub reqg : Config → ℕ
reqg k = bit_and k.ocr 3

-- SCR, sequence control. MAC, bits 3-2, for the memory address and DAC, bits 1-0, for the device address:
-- 0 still, 1 up, 2 down, 3 none.
abbrev pub mac : Config → ℕ
mac k = bit_and (k.scr / 4) 3

abbrev pub dac : Config → ℕ
dac k = bit_and k.scr 3

-- The fields as kinds. A value that means nothing is none.
-- XRM: burst or cycle steal.
abbrev pub mode_of : Config → Option RequestMode
mode_of k = cond (xrm k == 0) (Some Burst) (cond (xrm k == 1) None (Some CycleSteal))

-- DTYP: dual addressing, under which automatic requests move memory; dual addressing, always of a device; single addressing.
abbrev pub device_type_of : Config → DeviceType
device_type_of k = cond (dtyp k == 0) Dual (cond (dtyp k == 1) DualDevice Single)

-- SIZE: byte, word or long.
abbrev pub size_given : Config → Option Size
size_given k =
    cond (size_field k == 0) (Some Byte) (cond (size_field k == 1) (Some Word) (cond (size_field k == 2) (Some Long) None))

-- CHAIN: no chaining, array or linked.
abbrev pub chain_given : Config → Option Chain
chain_given k =
    cond (chain_field k == 0) (Some Plain) (cond (chain_field k == 2) (Some Array) (cond (chain_field k == 3) (Some Linked) None))

-- REQG: automatic requests at a limited rate or at full speed, the request line, or an operation's first operand
-- automatic and then the line.
abbrev pub requests_of : Config → Requests
requests_of k =
    cond (reqg k == 0) LimitedRate (cond (reqg k == 1) MaximumRate (cond (reqg k == 2) Line FirstAutomatic))

-- MAC or DAC: still, up or down.
abbrev pub counting_of : ℕ → Option Counting
counting_of n = cond (n == 0) (Some Still) (cond (n == 1) (Some Up) (cond (n == 2) (Some Down) None))

abbrev pub is_single : Config → Bool
is_single k = nat_le 2 (dtyp k)

-- Array and linked operations are chained.
abbrev pub is_chained : Config → Bool
is_chained k = nat_le 2 (chain_field k)

abbrev pub is_array : Config → Bool
is_array k = chain_field k == 2

-- XRM 0: the request line counts while it is on; otherwise a change from off to on does.
abbrev pub is_burst : Config → Bool
is_burst k = xrm k == 0

-- DIR, bit 7 of OCR: from the device to memory, else from memory to the device.
abbrev pub is_inward : Config → Bool
is_inward k = any 0x80 k.ocr

-- The device side of an operand is memory too: DTYP 0 with automatic requests.
abbrev pub is_device_memory : Config → Bool
is_device_memory k = dtyp k == 0 && nat_le (reqg k) 1

abbrev pub size_of : Config → Size
size_of k = cond (size_field k == 0) Byte (cond (size_field k == 1) Word Long)

abbrev pub chain_of : Config → Chain
chain_of k = cond (chain_field k == 2) Array (cond (chain_field k == 3) Linked Plain)

abbrev pub bytes_of : Size → ℕ
bytes_of Byte = 1
bytes_of Word = 2
bytes_of Long = 4

-- An address register moved on by n: 0 still, 1 up, 2 down, modulo 2^32.
abbrev pub moved : ℕ → ℕ → ℕ → ℕ
moved count n a =
    cond (count == 1) ((a + n) % 4294967296)
    (cond (count == 2) ((a + (4294967296 - n)) % 4294967296) a)

-- The same by the kind: a value that means nothing leaves the address still.
abbrev pub moved_as : Option Counting → ℕ → ℕ → ℕ
moved_as (Some Still) n a = a
moved_as (Some Up) n a = (a + n) % 4294967296
moved_as (Some Down) n a = (a + (4294967296 - n)) % 4294967296
moved_as None n a = a

-- MAR after an operand: moved on by its bytes, as MAC says.
abbrev pub next_mar : Config → ℕ → ℕ
next_mar k a = moved (mac k) (bytes_of (size_of k)) a

-- DAR after an operand: moved on by its bytes, by twice as many for an 8-bit port, as DAC says; under single addressing
-- it stays.
abbrev pub stride : Config → ℕ
stride k = cond (is_port16 k) (bytes_of (size_of k)) (2 * bytes_of (size_of k))

abbrev pub next_dar : Config → ℕ → ℕ
next_dar k a = cond (is_single k) a (moved (dac k) (stride k) a)

-- An operand above a byte must not lie at an odd address.
abbrev pub is_misplaced : Config → ℕ → Bool
is_misplaced k a = not (size_field k == 0) && odd a

-- Settings that no start takes, each with the field that is wrong: a field's value that means nothing;
-- continue mode under chaining; single addressing unless a byte meets an 8-bit port or a word a 16-bit one; dual
-- addressing of bytes through a 16-bit port by the request line.
abbrev pub is_field_unused : Config → Bool
is_field_unused k =
    (xrm k == 1) || (size_field k == 3 || (chain_field k == 1 || (mac k == 3 || dac k == 3)))

abbrev pub is_single_unfit : Config → Bool
is_single_unfit k = is_single k && not (size_field k == cond (is_port16 k) 1 0)

abbrev pub is_dual_unfit : Config → Bool
is_dual_unfit k = not (is_single k) && (is_port16 k && (size_field k == 0 && nat_le 2 (reqg k)))

abbrev pub is_unusable : Bool → Config → Bool
is_unusable cnt k = is_field_unused k || (cnt && is_chained k || (is_single_unfit k || is_dual_unfit k))
