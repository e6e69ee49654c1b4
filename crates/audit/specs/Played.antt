-- A log of calls, played from a new controller.
use Rattle.std.specs.Prelude.{◌≡◌, ℕ, ◌-◌, List, [], ◌∷◌, map, length}
use Rattle.bus.specs.Memory.{MemoryMeaning}
use Rattle.devices.specs.Bank.{BankMeaning}
use Rattle.cycle.specs.declared.record.Record.{Record}
use Rattle.dmac.specs.Step.{Machine}
use Rattle.audit.specs.declared.log.Entry.{Entry}
use Rattle.audit.specs.Calls.{Call, performed}
use Rattle.audit.specs.History.{Event, outcome}
use Rattle.audit.specs.Tie.{Lawful}

-- The calls of a log, and the events that it tells of.
abbrev pub calls_of : List Entry → List Call
calls_of es = map (λ (e : Entry). e.call) es

abbrev pub events_of : List Entry → List Event
events_of es = map (λ (e : Entry). record { call = e.call; room = e.room }) es

-- What a log of calls comes to: the machine, the trace, and the log with the free places before each call and its reply.
pub record Played : Type 0 where
  pub machine : Machine
  pub trace : List Record
  pub entries : List Entry

abbrev pub logged : Entry → Played → Played
logged e p = record { machine = p.machine; trace = p.trace; entries = e ∷ p.entries }

abbrev pub entry_for : Call → ℕ → Machine → List Record → Entry
entry_for c places s t = record { call = c; room = places - length t; reply = (performed c places s t).reply }

abbrev pub played : List Call → ℕ → Machine → List Record → Played
played [] places s t = record { machine = s; trace = t; entries = [] }
played (c ∷ cs) places s t =
    logged (entry_for c places s t) (played cs places (performed c places s t).machine (performed c places s t).trace)

-- A history of events from a new controller over a memory and a bank leads to this machine, and is lawful.
abbrev pub Lawfully : MemoryMeaning → BankMeaning → List Event → Machine → Type 0
Lawfully m b es s = ((outcome m b es).machine ≡ s) × Lawful m b es
