-- What a call that is given as a value does and replies.
use Rattle.std.specs.Prelude.{ℕ, Bool, List, Ok, Err, Result}
use Rattle.refusal.specs.declared.kinds.Refusal.{Refusal}
use Rattle.bus.specs.Memory.{MemoryMeaning}
use Rattle.bus.specs.Store.{stored}
use Rattle.cycle.specs.declared.record.Record.{Record}
use Rattle.dmac.specs.declared.controller.Dmac.{Dmac}
use Rattle.dmac.specs.Access.{byte_read, word_read, byte_written, word_written}
use Rattle.dmac.specs.Line.{line_changed}
use Rattle.dmac.specs.Step.{Machine, machine_of, step_taken}
use Rattle.dmac.specs.Run.{run_taken}
pub use Rattle.audit.specs.declared.call.Call.{Call}
pub use Rattle.audit.specs.declared.call.Call.TheVariants.{ReadByte, ReadWord, WriteByte, WriteWord, SetLine, Step, Store, Run}
pub use Rattle.audit.specs.declared.call.Reply.{Reply}
pub use Rattle.audit.specs.declared.call.Reply.TheVariants.{Byte, Word, Done, Stepped, Ended}

-- An answer as a reply: f of its value, or its refusal.
abbrev pub replied : {A : Type 0} → (A → Reply) → Result A Refusal → Result Reply Refusal
replied f (Ok x) = Ok (f x)
replied f (Err r) = Err r

-- An answer without a value.
abbrev pub done_replied : Result (Unit {0}) Refusal → Result Reply Refusal
done_replied r = replied (λ u. Done) r

-- What a call leaves of the machine, and what it replies.
pub record Called : Type 0 where
  pub machine : Machine
  pub reply : Result Reply Refusal

abbrev pub with_dmac : Dmac → Machine → Machine
with_dmac k s = machine_of k s.memory s.bank

abbrev pub with_memory : MemoryMeaning → Machine → Machine
with_memory m s = machine_of s.dmac m s.bank

-- Each call but a run. A register access and a line change touch the controller alone, a store the memory alone.
abbrev pub byte_read_called : ℕ → Machine → Called
byte_read_called o s = record { machine = s; reply = replied Byte (byte_read o s.dmac) }

abbrev pub word_read_called : ℕ → Machine → Called
word_read_called o s = record { machine = s; reply = replied Word (word_read o s.dmac) }

abbrev pub byte_write_called : ℕ → ℕ → Machine → Called
byte_write_called o v s = record {
  machine = with_dmac (byte_written o v s.dmac).state s;
  reply = done_replied (byte_written o v s.dmac).answer;
}

abbrev pub word_write_called : ℕ → ℕ → Machine → Called
word_write_called o v s = record {
  machine = with_dmac (word_written o v s.dmac).state s;
  reply = done_replied (word_written o v s.dmac).answer;
}

abbrev pub line_called : ℕ → Bool → Machine → Called
line_called n on s = record {
  machine = with_dmac (line_changed n on s.dmac).state s;
  reply = done_replied (line_changed n on s.dmac).answer;
}

abbrev pub step_called : ℕ → Bool → Machine → Called
step_called code done s = record {
  machine = (step_taken code done s).machine;
  reply = replied Stepped (step_taken code done s).answer;
}

abbrev pub store_called : ℕ → ℕ → ℕ → Machine → Called
store_called c a v s = record {
  machine = with_memory (stored c a v s.memory).memory s;
  reply = done_replied (stored c a v s.memory).answer;
}

-- What a call leaves of machine and trace, and what it replies. Only a run looks at the trace; it has so many places.
pub record Performed : Type 0 where
  pub machine : Machine
  pub trace : List Record
  pub reply : Result Reply Refusal

abbrev pub traced : List Record → Called → Performed
traced t c = record { machine = c.machine; trace = t; reply = c.reply }

abbrev pub performed : Call → ℕ → Machine → List Record → Performed
performed (ReadByte o) places s t = traced t (byte_read_called o s)
performed (ReadWord o) places s t = traced t (word_read_called o s)
performed (WriteByte o v) places s t = traced t (byte_write_called o v s)
performed (WriteWord o v) places s t = traced t (word_write_called o v s)
performed (SetLine n on) places s t = traced t (line_called n on s)
performed (Step code done) places s t = traced t (step_called code done s)
performed (Store c a v) places s t = traced t (store_called c a v s)
performed (Run n) places s t = record {
  machine = (run_taken n places s t).machine;
  trace = (run_taken n places s t).trace;
  reply = replied Ended (run_taken n places s t).answer;
}
