-- A script as a part of a history of calls.
use Rattle.std.specs.Prelude.{◌≡◌, ℕ, ◌+◌, cond, List, [], ◌∷◌, ◌++◌, length, take, Ok, Err, Result}
use Rattle.refusal.specs.declared.kinds.Refusal.{Refusal}
use Rattle.bus.specs.Memory.{MemoryMeaning}
use Rattle.devices.specs.Bank.{BankMeaning, nothing}
use Rattle.dmac.specs.Step.{Machine, machine_of}
use Rattle.audit.specs.declared.call.Call.{Call}
use Rattle.audit.specs.declared.call.Call.TheVariants.{ReadByte, WriteByte, Store, Run}
use Rattle.audit.specs.History.{Event, outcome}
use Rattle.audit.specs.Tie.{Lawful}
use Rattle.script.specs.Command.{Said, write, read, fill, show, run, parsed}
use Rattle.script.specs.Digits.{data_bytes}
use Rattle.script.specs.Lines.{lines}
use Rattle.monitor.specs.Area.{is_past_the_end, takes_all}
use Rattle.monitor.specs.Monitor.{Session, line_done}

-- The machine of a session: its devices are never ready.
abbrev pub machine_in : Session → Machine
machine_in s = machine_of s.dmac s.memory nothing

-- A call with a trace of so many free places.
abbrev pub event : Call → ℕ → Event
event c room = record { call = c; room = room }

-- A fill stores its bytes one after the other.
abbrev pub store_events : ℕ → List ℕ → List Event
store_events a [] = []
store_events a (b ∷ bs) = event (Store 5 a b) 0 ∷ store_events (a + 1) bs

-- The calls of a command: a write, a read, the stores of a fill that is not refused, a run; showing memory and a refused
-- line are none.
abbrev pub command_events : Result Said Refusal → Session → List Event
command_events (Ok (write o v)) s = event (WriteByte o v) 0 ∷ []
command_events (Ok (read o)) s = event (ReadByte o) 0 ∷ []
command_events (Ok (fill a digits)) s =
    cond (is_past_the_end a (length (data_bytes digits))) []
    (cond (takes_all a (data_bytes digits) s.memory) (store_events a (data_bytes digits)) [])
command_events (Ok (show a n)) s = []
command_events (Ok (run n)) s = event (Run n) 128 ∷ []
command_events (Err r) s = []

abbrev pub lines_events : List (List ℕ) → Session → List Event
lines_events [] s = []
lines_events (l ∷ ls) s = command_events (parsed l) s ++ lines_events ls (line_done l s)

-- The calls of a script, line by line.
abbrev pub script_events : List ℕ → Session → List Event
script_events script s = lines_events (lines (take 16384 script)) s

-- Whatever history led to the session before a script, it goes on with the calls of the script to the session after it,
-- and lawfully.
abbrev pub ScriptGoesOn : List ℕ → Session → Session → Type 0
ScriptGoesOn script before after =
    (m : MemoryMeaning) (b : BankMeaning) (es : List Event) → (outcome m b es).machine ≡ machine_in before
    → ((outcome m b (es ++ script_events script before)).machine ≡ machine_in after) × Lawful m b (es ++ script_events script before)
