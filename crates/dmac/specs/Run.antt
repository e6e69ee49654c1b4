-- A run: so many bus steps without an exception and without DONE, each record into a trace.
use Rattle.std.specs.Prelude.{ℕ, zero, suc, ◌+◌, false, cond, not, ◌&&◌, List, [], ◌∷◌, ◌++◌, length, Some, None, Ok, Err, Option, Result, nat_lt, codes}
use Rattle.refusal.specs.declared.kinds.Refusal.{Refusal}
use Rattle.refusal.specs.declared.kinds.Refusal.TheVariants.{TraceFull}
use Rattle.cycle.specs.declared.record.Record.{Record}
use Rattle.dmac.specs.Choice.{chosen}
use Rattle.dmac.specs.Step.{Machine, Stepped, step_chosen, Answer, Reset, Idle, Halted, Retry, Waiting, Recorded}
pub use Rattle.dmac.specs.declared.run.Ending.{Ending}
pub use Rattle.dmac.specs.declared.run.Ending.TheVariants.{Done, Idle as FoundIdle, Waiting as FoundWaiting, Full}
pub use Rattle.dmac.specs.declared.run.Ran.{Ran}

-- The word that a run's ending is told as.
abbrev pub ending_word : Ending → List ℕ
ending_word Done = codes "done"
ending_word FoundIdle = codes "idle"
ending_word FoundWaiting = codes "waiting"
ending_word Full = codes "full"

-- Where a run has come to: the machine, the trace, and what it tells.
pub record Running : Type 0 where
  pub machine : Machine
  pub trace : List Record
  pub told : Ran

abbrev pub ended : Ending → ℕ → Machine → List Record → Running
ended why made s t = record { machine = s; trace = t; told = record { ending = why; records = made } }

-- A step without an exception.
abbrev pub plain_step : Machine → Stepped
plain_step s = step_chosen (chosen s.dmac) 7 false s

-- One turn of a run: the machine and the trace after it, and why the run ends, if it does.
pub record Turned : Type 0 where
  pub machine : Machine
  pub trace : List Record
  pub stop : Option Ending

-- A record is added to the trace, and the run goes on; idle and waiting add none and end it. (A step without an exception
-- answers nothing else.)
abbrev pub turned_by : Answer → Machine → List Record → Turned
turned_by Reset s t = record { machine = s; trace = t; stop = Some FoundIdle }
turned_by Idle s t = record { machine = s; trace = t; stop = Some FoundIdle }
turned_by Halted s t = record { machine = s; trace = t; stop = Some FoundIdle }
turned_by Retry s t = record { machine = s; trace = t; stop = Some FoundIdle }
turned_by Waiting s t = record { machine = s; trace = t; stop = Some FoundWaiting }
turned_by (Recorded r) s t = record { machine = s; trace = t ++ (r ∷ []); stop = None }

abbrev pub turned : Machine → List Record → Turned
turned s t = turned_by (plain_step s).answer (plain_step s).machine t

abbrev pub run_next : Option Ending → ℕ → Machine → List Record → (ℕ → Machine → List Record → Running) → Running
run_next (Some why) made s t onward = ended why made s t
run_next None made s t onward = onward (made + 1) s t

-- So many steps, with a trace of so many places, after so many records: done when all steps are made, else full when no
-- place is left.
abbrev pub run_on : ℕ → ℕ → ℕ → Machine → List Record → Running
run_on zero places made s t = ended Done made s t
run_on (suc n) places made s t =
    cond (nat_lt (length t) places)
    (run_next (turned s t).stop made (turned s t).machine (turned s t).trace (run_on n places))
    (ended Full made s t)

-- What a call of a run leaves, and what it answers.
pub record RunCalled : Type 0 where
  pub machine : Machine
  pub trace : List Record
  pub answer : Result Ran Refusal

abbrev pub run_told : Running → RunCalled
run_told g = record { machine = g.machine; trace = g.trace; answer = Ok g.told }

-- A run of one step or more that begins with a full trace is refused, and changes nothing.
abbrev pub run_taken : ℕ → ℕ → Machine → List Record → RunCalled
run_taken steps places s t =
    cond (nat_lt 0 steps && not (nat_lt (length t) places))
    (record { machine = s; trace = t; answer = Err TraceFull })
    (run_told (run_on steps places 0 s t))
