-- One bus step.
use Rattle.std.specs.Prelude.{ℕ, Bool, true, false, cond, Some, None, Ok, Err, Option, Result, ◌==◌, slice_set}
use Rattle.refusal.specs.declared.kinds.Refusal.{Refusal}
use Rattle.refusal.specs.declared.kinds.Refusal.TheVariants.{NoException}
use Rattle.registers.specs.declared.fault.Fault.{Fault}
use Rattle.registers.specs.declared.fault.Fault.TheVariants.{BaseAddress}
use Rattle.bus.specs.Memory.{MemoryMeaning}
use Rattle.devices.specs.Bank.{BankMeaning}
use Rattle.channel.specs.State.{channel_failed}
use Rattle.cycle.specs.declared.record.Record.{Record}
use Rattle.cycle.specs.declared.record.Record.TheVariants.{Error}
use Rattle.cycle.specs.declared.serve.Hindrance.{Hindrance}
use Rattle.cycle.specs.declared.serve.Hindrance.TheVariants.{Waiting as StillWaiting, Failed}
use Rattle.cycle.specs.declared.surroundings.Surroundings.{Surroundings}
use Rattle.cycle.specs.Serve.{Served, served, bus_fault, is_entry_misplaced}
use Rattle.dmac.specs.Controller.{Dmac, channel_at, controller_reset}
use Rattle.dmac.specs.Choice.{chosen}
pub use Rattle.dmac.specs.Exception.{is_exception}
pub use Rattle.dmac.specs.declared.answer.Answer.{Answer}
pub use Rattle.dmac.specs.declared.answer.Answer.TheVariants.{Reset, Idle, Halted, Retry, Waiting, Recorded}
pub use Rattle.dmac.specs.declared.step.Gate.{Gate}
pub use Rattle.dmac.specs.declared.step.Gate.TheVariants.{Passes, Halts, Retries, Fails}

-- The controller with the memory and the devices that it is plugged into.
pub record Machine : Type 0 where
  pub dmac : Dmac
  pub memory : MemoryMeaning
  pub bank : BankMeaning

abbrev pub machine_of : Dmac → MemoryMeaning → BankMeaning → Machine
machine_of k m b = record { dmac = k; memory = m; bank = b }

-- The same in its surroundings, by what their memory and their devices mean.
abbrev pub machine_at : {M D : Type 0} → (M → MemoryMeaning) → (D → BankMeaning) → Dmac → Surroundings M D → Machine
machine_at means bank k a = machine_of k (means a.memory) (bank a.devices)

-- What a step leaves, and what it answers.
pub record Stepped : Type 0 where
  pub machine : Machine
  pub answer : Answer

-- What the exception code makes of the next cycle: 7 none; 6 halt, which lets a controller that holds the bus make one more
-- cycle; 5 bus error; 4 retry; 3 relinquish and retry.
abbrev pub gate_of : ℕ → Bool → Gate
gate_of code bus =
    cond (code == 6) (cond bus (Passes false) Halts)
    (cond (code == 5) Fails
    (cond (code == 4) (Retries bus)
    (cond (code == 3) (Retries false) (Passes true))))

abbrev pub with_bus : Bool → Dmac → Dmac
with_bus held k = record { channels = k.channels; gcr = k.gcr; last = k.last; bus = held }

-- The step changes nothing but the bus flag.
abbrev pub step_quiet : Bool → Answer → Machine → Stepped
step_quiet held a s = record { machine = record { dmac = with_bus held s.dmac; memory = s.memory; bank = s.bank }; answer = a }

-- An error of channel n: the bus flag falls, and no other channel changes.
pub record Failing : Type 0 where
  pub dmac : Dmac
  pub answer : Answer

abbrev pub failed : ℕ → Fault → Dmac → Failing
failed n f k = record {
  dmac = record { channels = slice_set k.channels n (channel_failed f (channel_at n k)); gcr = k.gcr; last = k.last; bus = false };
  answer = Recorded (Error n f);
}

abbrev pub step_failed : ℕ → Fault → Machine → Stepped
step_failed n f s =
    record { machine = machine_of (failed n f s.dmac).dmac s.memory s.bank; answer = (failed n f s.dmac).answer }

-- A cycle of channel n was carried out: it is the channel served last.
abbrev pub step_made : ℕ → Bool → Record → Served → Machine → Stepped
step_made n held r v s = record {
  machine = record {
    dmac = record { channels = slice_set s.dmac.channels n v.channel; gcr = s.dmac.gcr; last = n; bus = held };
    memory = v.memory;
    bank = v.bank;
  };
  answer = Recorded r;
}

abbrev pub step_by : Result Record Hindrance → ℕ → Bool → Served → Machine → Stepped
step_by (Err StillWaiting) n held v s = record { machine = s; answer = Waiting }
step_by (Err (Failed f)) n held v s = step_failed n f s
step_by (Ok r) n held v s = step_made n held r v s

-- The next cycle of channel n, which no exception hinders; the controller then holds the bus or not.
abbrev pub step_passed : ℕ → Bool → Bool → Machine → Stepped
step_passed n held done s =
    let v = served done n (channel_at n s.dmac) s.memory s.bank in
    step_by v.outcome n held v s

abbrev pub step_gated : Gate → ℕ → Bool → Machine → Stepped
step_gated (Passes held) n done s = step_passed n held done s
step_gated Halts n done s = record { machine = s; answer = Halted }
step_gated (Retries held) n done s = step_quiet held Retry s
step_gated Fails n done s = step_failed n (bus_fault (channel_at n s.dmac)) s

-- The step of the chosen channel n. An entry at an odd address is error 7, whatever the exception code.
abbrev pub step_on : ℕ → ℕ → Bool → Machine → Stepped
step_on n code done s =
    cond (is_entry_misplaced (channel_at n s.dmac)) (step_failed n BaseAddress s)
    (step_gated (gate_of code s.dmac.bus) n done s)

-- No channel is chosen: the answer is idle, and the bus flag falls.
abbrev pub step_chosen : Option ℕ → ℕ → Bool → Machine → Stepped
step_chosen None code done s = step_quiet false Idle s
step_chosen (Some n) code done s = step_on n code done s

-- A reset touches the controller alone.
abbrev pub step_reset : Machine → Stepped
step_reset s = record { machine = record { dmac = controller_reset s.dmac; memory = s.memory; bank = s.bank }; answer = Reset }

-- What a call of a step leaves, and what it answers.
pub record Called (A : Type 0) : Type 0 where
  pub machine : Machine
  pub answer : Result A Refusal

abbrev pub called : Stepped → Called Answer
called t = record { machine = t.machine; answer = Ok t.answer }

-- A bus step with an exception code and the DONE line.
abbrev pub step_taken : ℕ → Bool → Machine → Called Answer
step_taken code done s =
    cond (is_exception code)
    (cond (code == 0) (called (step_reset s)) (called (step_chosen (chosen s.dmac) code done s)))
    (record { machine = s; answer = Err NoException })
