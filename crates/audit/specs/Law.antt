-- The law over every history of calls: no operand is lost, moved twice or written elsewhere.
use Rattle.std.specs.Prelude.{◌≡◌, ℕ, zero, suc, ◌*◌, ◌<◌, Bool, true, ◌⊎◌, List, [], ◌∷◌, ◌++◌, length, Ok, ◌≢◌}
use Rattle.registers.specs.declared.fault.Fault.{Fault}
use Rattle.registers.specs.declared.fault.Fault.TheVariants.{MemoryBus, DeviceBus, BaseBus}
use Rattle.registers.specs.declared.groups.Registers.{Registers}
use Rattle.bus.specs.Memory.{MemoryMeaning}
use Rattle.devices.specs.Bank.{BankMeaning}
use Rattle.cycle.specs.declared.record.Record.TheVariants.{Error}
use Rattle.dmac.specs.declared.answer.Answer.TheVariants.{Recorded}
use Rattle.dmac.specs.Controller.{channel_at}
use Rattle.audit.specs.Operand.{Place, in_memory, in_device, bare_device, Operand, sent_at}
use Rattle.audit.specs.Calls.{Stepped, step_called}
use Rattle.audit.specs.Book.{Book, Delivery}
use Rattle.audit.specs.History.{Past, Event, registers_of, stepped, outcome}
use Rattle.audit.specs.Truth.{ReplyTrue}

module _ {A : Type 0} where
  -- Some element of a list, or each of them.
  abbrev pub SomeOf : (A → Type 0) → List A → Type 0
  SomeOf P [] = ⊥
  SomeOf P (x ∷ xs) = P x ⊎ SomeOf P xs

  abbrev pub EachOf : (A → Type 0) → List A → Type 0
  EachOf P [] = Unit {0}
  EachOf P (x ∷ xs) = P x × EachOf P xs

-- (a) The delivered list begins the named one and lacks exactly as many operands as the transfer counter shows; the two
-- are equal exactly when it is zero.
pub record DeliveredBeginsNamed (b : Book) (r : Registers) : Type 0 where
  pub rest : List Operand
  pub begins : b.named ≡ b.delivered ++ rest
  pub lacks : length rest ≡ r.counters.mtc
  pub equal_at_zero : r.counters.mtc ≡ 0 → b.named ≡ b.delivered
  pub zero_if_equal : b.named ≡ b.delivered → r.counters.mtc ≡ 0

-- (b) A delivered operand wrote, byte for byte, what its source gave, and all its bytes.
pub record Faithful (d : Delivery) : Type 0 where
  pub same_bytes : d.wrote ≡ d.gave
  pub all_bytes : length d.wrote ≡ length d.what.moves

-- A place is the byte at this space and address.
abbrev pub IsByte : MemoryMeaning → ℕ → ℕ → Place → Type 0
IsByte m s a (in_memory f b) = (m.space f ≡ s) × (b ≡ a)
IsByte m s a (in_device f b) = ⊥
IsByte m s a bare_device = ⊥

-- The byte at this space and address is a destination of an operand that some operation of a channel named, or a
-- store's place.
abbrev pub IsDestination : MemoryMeaning → ℕ → ℕ → Operand → Type 0
IsDestination m s a o = SomeOf (λ w. IsByte m s a w.to) o.moves

abbrev pub IsMeant : MemoryMeaning → ℕ → ℕ → Past → Type 0
IsMeant m s a p =
    ((n : ℕ) × (n < 4) × SomeOf (IsDestination m s a) (p.books n).ever)
    ⊎ SomeOf (λ w. (m.space w.code ≡ s) × (w.address ≡ a)) p.stores

-- (c) After a bus error the address registers stand, in all 32 bits, at the first operand named and not delivered
-- (9 and 10) ..
pub record StandsAtOperand (b : Book) (r : Registers) : Type 0 where
  pub next : Operand
  pub rest : List Operand
  pub first_left : b.named ≡ b.delivered ++ next ∷ rest
  pub mar_stands : r.counters.mar ≡ next.mar
  pub dar_stands : r.counters.dar ≡ next.dar

-- .. or the base address at the table entry that was being read (11), and the words of it that were read before lay there
-- and behind; the other table registers are as they were.
abbrev pub word_addresses : ℕ → ℕ → List ℕ
word_addresses bar zero = []
word_addresses bar (suc n) = word_addresses bar n ++ sent_at bar (2 * n) ∷ []

pub record StandsAtEntry (b : Book) (before r : Registers) : Type 0 where
  pub table_stands : r.table ≡ before.table
  pub base_stands : r.table.bar ≡ b.entry_at
  pub read_there : b.gathered.words_at ≡ word_addresses r.table.bar (length b.gathered.words_at)

abbrev pub Stands : Fault → Book → Registers → Registers → Type 0
Stands f b before r =
    ((f ≡ MemoryBus) ⊎ (f ≡ DeviceBus) → StandsAtOperand b r)
    × (f ≡ BaseBus → StandsAtEntry b before r)

-- An error of channel n touches no other channel, and after a bus error its own stands where the work stopped.
pub record TouchesOnly (n : ℕ) (f : Fault) (p q : Past) : Type 0 where
  pub is_channel : n < 4
  pub others : (d : ℕ) → (d ≢ n) → channel_at d q.machine.dmac ≡ channel_at d p.machine.dmac
  pub stands : Stands f (q.books n) (registers_of n p.machine) (registers_of n q.machine)

-- What holds wherever a history has come to, since a memory m stood at its beginning:
--   lists    (a), for each channel, from a start that passes its checks to the next write made to the counter
--   faithful (b), for every delivery of every operation
--   bytes    (b), a memory byte is as at the beginning, unless it was meant to change
--   cycles   (b), what the next step answers of a cycle is true, whatever its exception code and DONE
--   errors   (c), if the next step answers an error
pub record LawfulAt (m : MemoryMeaning) (p : Past) : Type 0 where
  pub lists : (n : ℕ) → n < 4 → (p.books n).counted ≡ true → DeliveredBeginsNamed (p.books n) (registers_of n p.machine)
  pub faithful : (n : ℕ) → n < 4 → EachOf Faithful (p.books n).log
  pub bytes : (s a : ℕ) → (p.machine.memory.byte s a ≡ m.byte s a) ⊎ IsMeant m s a p
  pub cycles : (code : ℕ) (done : Bool)
      → ReplyTrue (step_called code done p.machine).reply p.machine (stepped code done p).machine
  pub errors : (code : ℕ) (done : Bool) (n : ℕ) (f : Fault)
      → (step_called code done p.machine).reply ≡ Ok (Stepped (Recorded (Error n f)))
      → TouchesOnly n f p (stepped code done p)

-- The law: over every memory and every bank, every history is lawful.
abbrev pub Law : Type 0
Law = (m : MemoryMeaning) (b : BankMeaning) (es : List Event) → LawfulAt m (outcome m b es)
