-- What ties a real call to the histories that the law speaks of.
use Rattle.std.specs.Prelude.{◌≡◌, ℕ, ◌-◌, List, [], ◌∷◌, ◌++◌, length}
use Rattle.bus.specs.Memory.{MemoryMeaning}
use Rattle.devices.specs.Bank.{BankMeaning}
use Rattle.cycle.specs.declared.record.Record.{Record}
use Rattle.dmac.specs.Step.{Machine}
use Rattle.audit.specs.Calls.{Call}
use Rattle.audit.specs.History.{Event, outcome}
use Rattle.audit.specs.Law.{LawfulAt}

-- A call that is given a trace of so many places, as an event.
abbrev pub event_of : Call → ℕ → List Record → Event
event_of c places t = record { call = c; room = places - length t }

-- A history is lawful: the law holds at each moment of it, from the beginning to its end.
abbrev pub Lawful : MemoryMeaning → BankMeaning → List Event → Type 0
Lawful m b es = (front rest : List Event) → es ≡ front ++ rest → LawfulAt m (outcome m b front)

-- Whatever history led to the machine before an event, it goes on with this event to the machine after it, and lawfully.
abbrev pub GoesOn : Machine → Event → Machine → Type 0
GoesOn before e after =
    (m : MemoryMeaning) (b : BankMeaning) (es : List Event) → (outcome m b es).machine ≡ before
    → ((outcome m b (es ++ e ∷ [])).machine ≡ after) × Lawful m b (es ++ e ∷ [])
