-- Histories of calls, from a new controller.
use Rattle.std.specs.Prelude.{ℕ, zero, suc, Bool, true, false, cond, List, [], ◌∷◌, ◌++◌, Result}
use Rattle.refusal.specs.declared.kinds.Refusal.{Refusal}
use Rattle.registers.specs.declared.groups.Registers.{Registers}
use Rattle.bus.specs.Memory.{MemoryMeaning}
use Rattle.devices.specs.Bank.{BankMeaning}
use Rattle.dmac.specs.declared.answer.Answer.{Answer}
use Rattle.dmac.specs.declared.answer.Answer.TheVariants.{Reset, Idle, Halted, Retry, Waiting, Recorded}
use Rattle.dmac.specs.Controller.{new_controller, channel_at}
use Rattle.dmac.specs.Step.{Machine, machine_of}
use Rattle.dmac.specs.Run.{plain_step}
use Rattle.audit.specs.Calls.{Call, ReadByte, ReadWord, WriteByte, WriteWord, SetLine, Step, Store, Run, Reply, Called, byte_read_called, word_read_called, byte_write_called, word_write_called, line_called, step_called, store_called}
use Rattle.audit.specs.Book.{Book, empty_book, book_fed, is_done}

-- The registers that channel n shows.
abbrev pub registers_of : ℕ → Machine → Registers
registers_of n s = (channel_at n s.dmac).registers

-- A place where the processor stored a byte.
pub record StoredAt : Type 0 where
  pub code : ℕ
  pub address : ℕ

-- What a history has come to: the machine, the book of each channel, and the places of the stores that were done.
pub record Past : Type 0 where
  pub machine : Machine
  pub books : ℕ → Book
  pub stores : List StoredAt

-- The beginning: a new controller, a memory and a bank, and empty books.
abbrev pub beginning : MemoryMeaning → BankMeaning → Past
beginning m b = record { machine = machine_of new_controller m b; books = λ n. empty_book; stores = [] }

-- A store that was done adds its place.
abbrev pub stores_noted : Call → Result Reply Refusal → List StoredAt → List StoredAt
stores_noted (Store c a v) x l = cond (is_done x) (l ++ record { code = c; address = a } ∷ []) l
stores_noted (ReadByte o) x l = l
stores_noted (ReadWord o) x l = l
stores_noted (WriteByte o v) x l = l
stores_noted (WriteWord o v) x l = l
stores_noted (SetLine n on) x l = l
stores_noted (Step code done) x l = l
stores_noted (Run n) x l = l

-- One call that left a machine and replied: each book is fed with the registers before it.
abbrev pub noted : Call → Called → Past → Past
noted c o p = record {
  machine = o.machine;
  books = λ n. book_fed c o.reply n (registers_of n p.machine) (p.books n);
  stores = stores_noted c o.reply p.stores;
}

-- A bus step with an exception code and the DONE line.
abbrev pub stepped : ℕ → Bool → Past → Past
stepped code done p = noted (Step code done) (step_called code done p.machine) p

-- A run ends at a step that tells of nothing to do.
abbrev pub is_recorded : Answer → Bool
is_recorded (Recorded r) = true
is_recorded Reset = false
is_recorded Idle = false
is_recorded Halted = false
is_recorded Retry = false
is_recorded Waiting = false

-- A run is its steps: so many, without an exception and without DONE, while the trace has room for their records.
abbrev pub run_made : ℕ → ℕ → Past → Past
run_made zero room p = p
run_made (suc n) zero p = p
run_made (suc n) (suc room) p =
    cond (is_recorded (plain_step p.machine).answer) (run_made n room (stepped 7 false p)) (stepped 7 false p)

-- A call, and how many places were free in the trace that it was given; only a run looks at these.
pub record Event : Type 0 where
  pub call : Call
  pub room : ℕ

abbrev pub called : Call → ℕ → Past → Past
called (ReadByte o) room p = noted (ReadByte o) (byte_read_called o p.machine) p
called (ReadWord o) room p = noted (ReadWord o) (word_read_called o p.machine) p
called (WriteByte o v) room p = noted (WriteByte o v) (byte_write_called o v p.machine) p
called (WriteWord o v) room p = noted (WriteWord o v) (word_write_called o v p.machine) p
called (SetLine n on) room p = noted (SetLine n on) (line_called n on p.machine) p
called (Step code done) room p = stepped code done p
called (Store c a v) room p = noted (Store c a v) (store_called c a v p.machine) p
called (Run n) room p = run_made n room p

-- One event more, and a whole history of them, the first one first.
abbrev pub passed : List Event → Past → Past
passed [] p = p
passed (e ∷ es) p = passed es (called e.call e.room p)

-- What a history comes to, from a new controller over a memory and a bank.
abbrev pub outcome : MemoryMeaning → BankMeaning → List Event → Past
outcome m b es = passed es (beginning m b)
