-- The session of a monitor.
use Rattle.std.specs.Prelude.{ℕ, List}
use Rattle.bus.specs.Memory.{MemoryMeaning}
use Rattle.monitor.specs.declared.monitor.Monitor.{Monitor}
use Rattle.monitor.specs.Monitor.{Session, session_of}

-- A monitor's controller, what its memory means, and the text printed so far.
abbrev pub session_at : {M : Type 0} → (M → MemoryMeaning) → Monitor M → List ℕ → Session
session_at means k t = session_of k.dmac (means k.around.memory) t
