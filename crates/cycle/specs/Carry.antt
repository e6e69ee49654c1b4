-- What a cycle moves: from memory, from the channel's device or from what the channel holds, and to one of these.
use Rattle.std.specs.Prelude.{ℕ, ◌+◌, ◌%◌, Bool, true, false, cond, ◌||◌}
use Rattle.registers.specs.Config.{is_inward, is_device_memory}
use Rattle.registers.specs.declared.groups.Config.{Config}
use Rattle.bus.specs.Memory.{MemoryMeaning, byte_read, byte_written, is_word_readable, is_word_writable, word_read, word_written}
use Rattle.devices.specs.Bank.{BankMeaning, can_give, can_take, give_tried, take_tried, byte_handed, word_handed}
use Rattle.channel.specs.declared.state.Channel.{Channel}
use Rattle.channel.specs.declared.state.Held.{Held}
use Rattle.cycle.specs.Plan.{Slot, Way, Source, Destination, Through, Side, Memory, Device}
use Rattle.cycle.specs.Held.{Data, ByteOf, WordOf, data_bytes, byte_data, word_data, held_first, held_rest, held_more}
pub use Rattle.cycle.specs.declared.carry.End.{End}
pub use Rattle.cycle.specs.declared.carry.End.TheVariants.{InMemory, InDevice, InChannel}

-- The address that a register sends: modulo 2^24, some bytes further.
abbrev pub sent : ℕ → ℕ → ℕ
sent register offset = (register + offset) % 16777216

-- The memory side is memory; the device side is memory too, or the channel's device.
abbrev pub side_end : Side → Config → End
side_end Memory k = InMemory
side_end Device k = cond (is_device_memory k) InMemory InDevice

-- Where the bytes of a cycle come from, and where they go. Under single addressing the device is at one end.
abbrev pub source_end_by : Way → Side → Config → End
source_end_by Source s k = side_end s k
source_end_by Destination s k = InChannel
source_end_by Through s k = cond (is_inward k) InDevice InMemory

abbrev pub source_end : Slot → Config → End
source_end q k = source_end_by q.way q.side k

abbrev pub destination_end_by : Way → Side → Config → End
destination_end_by Source s k = InChannel
destination_end_by Destination s k = side_end s k
destination_end_by Through s k = cond (is_inward k) InMemory InDevice

abbrev pub destination_end : Slot → Config → End
destination_end q k = destination_end_by q.way q.side k

abbrev pub is_device_end : End → Bool
is_device_end InMemory = false
is_device_end InDevice = true
is_device_end InChannel = false

-- A cycle of the channel's device, in which DONE counts.
abbrev pub is_device_cycle : Slot → Config → Bool
is_device_cycle q k = is_device_end (source_end q k) || is_device_end (destination_end q k)

-- The function code and the address that a cycle sends.
abbrev pub slot_code_by : Side → Channel → ℕ
slot_code_by Memory c = c.registers.counters.mfc
slot_code_by Device c = c.registers.config.dfc

abbrev pub slot_code : Slot → Channel → ℕ
slot_code q c = slot_code_by q.side c

abbrev pub slot_address_by : Side → ℕ → Channel → ℕ
slot_address_by Memory o c = sent c.registers.counters.mar o
slot_address_by Device o c = sent c.registers.counters.dar o

abbrev pub slot_address : Slot → Channel → ℕ
slot_address q c = slot_address_by q.side q.offset c

-- How many bytes pass.
abbrev pub count_of : Bool → ℕ
count_of word = cond word 2 1

-- The device is ready, if a cycle's bytes come from it or go to it.
abbrev pub is_source_ready : End → ℕ → Bool → BankMeaning → Bool
is_source_ready InMemory n word b = true
is_source_ready InDevice n word b = can_give n (count_of word) b
is_source_ready InChannel n word b = true

abbrev pub is_destination_ready : End → ℕ → Bool → BankMeaning → Bool
is_destination_ready InMemory n word b = true
is_destination_ready InDevice n word b = can_take n (count_of word) b
is_destination_ready InChannel n word b = true

-- The place is answered, if a cycle's bytes come from memory or go to it.
abbrev pub is_source_answered : End → ℕ → ℕ → Bool → MemoryMeaning → Bool
is_source_answered InMemory f a word m = cond word (is_word_readable f a m) (m.readable f a)
is_source_answered InDevice f a word m = true
is_source_answered InChannel f a word m = true

abbrev pub is_destination_answered : End → ℕ → ℕ → Bool → MemoryMeaning → Bool
is_destination_answered InMemory f a word m = cond word (is_word_writable f a m) (m.writable f a)
is_destination_answered InDevice f a word m = true
is_destination_answered InChannel f a word m = true

-- The bytes that a cycle moves.
abbrev pub data_got : End → ℕ → ℕ → ℕ → Bool → Held → MemoryMeaning → BankMeaning → Data
data_got InMemory n f a word h m b = cond word (word_data (word_read f a m)) (byte_data (byte_read f a m))
data_got InDevice n f a word h m b = cond word (word_data (word_handed n b)) (byte_data (byte_handed n b))
data_got InChannel n f a word h m b = held_first word h

-- The bank after the source gave them.
abbrev pub bank_got : End → ℕ → Bool → BankMeaning → BankMeaning
bank_got InMemory n word b = b
bank_got InDevice n word b = give_tried n (count_of word) b
bank_got InChannel n word b = b

-- The memory and the bank after the destination has them.
abbrev pub data_written : Data → ℕ → ℕ → MemoryMeaning → MemoryMeaning
data_written (ByteOf x) f a m = byte_written f a x m
data_written (WordOf x y) f a m = word_written f a x y m

abbrev pub memory_put : End → Data → ℕ → ℕ → MemoryMeaning → MemoryMeaning
memory_put InMemory v f a m = data_written v f a m
memory_put InDevice v f a m = m
memory_put InChannel v f a m = m

abbrev pub bank_put : End → Data → ℕ → BankMeaning → BankMeaning
bank_put InMemory v n b = b
bank_put InDevice v n b = take_tried n (data_bytes v) b
bank_put InChannel v n b = b

-- What the channel holds after a cycle.
abbrev pub held_after : Way → Data → Bool → Held → Held
held_after Source v word h = held_more v h
held_after Destination v word h = held_rest word h
held_after Through v word h = h
