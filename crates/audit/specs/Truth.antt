-- What a cycle tells is true of memory and devices.
use Rattle.std.specs.Prelude.{◌≡◌, ℕ, List, [], ◌∷◌, ◌++◌, length, Ok, Err, Result}
use Rattle.refusal.specs.declared.kinds.Refusal.{Refusal}
use Rattle.registers.specs.Config.{is_single, is_inward}
use Rattle.registers.specs.declared.groups.Config.{Config}
use Rattle.bus.specs.Memory.{MemoryMeaning, byte_at}
use Rattle.cycle.specs.declared.record.Kind.{Kind}
use Rattle.cycle.specs.declared.record.Kind.TheVariants.{Read, Write, Entry}
use Rattle.cycle.specs.declared.record.Record.{Record}
use Rattle.cycle.specs.declared.record.Record.TheVariants.{Cycle, Error}
use Rattle.dmac.specs.declared.answer.Answer.{Answer}
use Rattle.dmac.specs.declared.answer.Answer.TheVariants.{Reset, Idle, Halted, Retry, Waiting, Recorded}
use Rattle.dmac.specs.Step.{Machine}
use Rattle.audit.specs.Operand.{Place, in_memory, in_device, bare_device}
use Rattle.audit.specs.Calls.{Reply, Byte, Word, Done, Stepped, Ended}
use Rattle.audit.specs.Book.{places_read, places_written, bytes_from, bytes_told}
use Rattle.audit.specs.History.{registers_of}

-- The places in memory among these hold these bytes.
abbrev pub MemoryHolds : MemoryMeaning → List Place → List ℕ → Type 0
MemoryHolds m [] vs = Unit {0}
MemoryHolds m (p ∷ ps) [] = ⊥
MemoryHolds m (in_memory f a ∷ ps) (v ∷ vs) = (byte_at f a m ≡ v) × MemoryHolds m ps vs
MemoryHolds m (in_device f a ∷ ps) (v ∷ vs) = MemoryHolds m ps vs
MemoryHolds m (bare_device ∷ ps) (v ∷ vs) = MemoryHolds m ps vs

-- The bytes at the places of a device among these.
abbrev pub device_bytes : List Place → List ℕ → List ℕ
device_bytes [] vs = []
device_bytes (p ∷ ps) [] = []
device_bytes (in_memory f a ∷ ps) (v ∷ vs) = device_bytes ps vs
device_bytes (in_device f a ∷ ps) (v ∷ vs) = v ∷ device_bytes ps vs
device_bytes (bare_device ∷ ps) (v ∷ vs) = v ∷ device_bytes ps vs

-- Bytes were carried from places to places, between two moments of the machine: memory held them or the channel's device
-- gave the first that waited, and memory then holds them or the device has kept them last.
pub record Carried (n : ℕ) (froms tos : List Place) (vs : List ℕ) (old new : Machine) : Type 0 where
  pub memory_gave : MemoryHolds old.memory froms vs
  pub device_gave : old.bank.waiting n ≡ device_bytes froms vs ++ new.bank.waiting n
  pub memory_has : MemoryHolds new.memory tos vs
  pub device_kept : new.bank.kept n ≡ old.bank.kept n ++ device_bytes tos vs

-- A cycle of an operand carried its bytes as the book reads it; an entry word was read from memory.
abbrev pub CycleTrue : Kind → Config → ℕ → ℕ → ℕ → List ℕ → Machine → Machine → Type 0
CycleTrue Read k n f a vs old new =
    Carried n (places_read (is_single k) (is_inward k) k Read f a (length vs)) (places_written (is_single k) (is_inward k) k Read f a (length vs)) vs old new
CycleTrue Write k n f a vs old new =
    Carried n (places_read (is_single k) (is_inward k) k Write f a (length vs)) (places_written (is_single k) (is_inward k) k Write f a (length vs)) vs old new
CycleTrue Entry k n f a vs old new = Carried n (bytes_from (in_memory f) a (length vs)) [] vs old new

-- What a step answers is true.
abbrev pub RecordTrue : Record → Machine → Machine → Type 0
RecordTrue (Cycle n kind f a v) old new = CycleTrue kind (registers_of n old).config n f a (bytes_told v) old new
RecordTrue (Error n f) old new = Unit {0}

abbrev pub AnswerTrue : Answer → Machine → Machine → Type 0
AnswerTrue (Recorded r) old new = RecordTrue r old new
AnswerTrue Reset old new = Unit {0}
AnswerTrue Idle old new = Unit {0}
AnswerTrue Halted old new = Unit {0}
AnswerTrue Retry old new = Unit {0}
AnswerTrue Waiting old new = Unit {0}

abbrev pub ReplyTrue : Result Reply Refusal → Machine → Machine → Type 0
ReplyTrue (Ok (Stepped x)) old new = AnswerTrue x old new
ReplyTrue (Ok (Byte v)) old new = Unit {0}
ReplyTrue (Ok (Word v)) old new = Unit {0}
ReplyTrue (Ok Done) old new = Unit {0}
ReplyTrue (Ok (Ended x)) old new = Unit {0}
ReplyTrue (Err x) old new = Unit {0}
