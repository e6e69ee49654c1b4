-- The plan: the cycles of an operand, in their order.
use Rattle.std.specs.Prelude.{ℕ, Bool, true, false, List, [], ◌∷◌}
use Rattle.registers.specs.Config.{is_single, is_inward, is_port16, size_of}
use Rattle.registers.specs.declared.groups.Config.{Config}
use Rattle.registers.specs.declared.groups.Size.{Size}
use Rattle.registers.specs.declared.groups.Size.TheVariants.{Byte, Word, Long}
pub use Rattle.cycle.specs.declared.plan.Way.{Way}
pub use Rattle.cycle.specs.declared.plan.Way.TheVariants.{Source, Destination, Through}
pub use Rattle.cycle.specs.declared.plan.Side.{Side}
pub use Rattle.cycle.specs.declared.plan.Side.TheVariants.{Memory, Device}
pub use Rattle.cycle.specs.declared.plan.Slot.{Slot}

-- A cycle: what it does, on which side, how far behind the side's address register, and whether it moves a word.
abbrev pub slot : Way → Side → ℕ → Bool → Slot
slot w s o two = record { way = w; side = s; offset = o; word = two }

-- Dual addressing through a 16-bit port: each portion is one cycle on each side. A long operand is two portions of
-- two bytes, the second two bytes further on both sides.
abbrev pub plan_wide : Bool → Size → List Slot
plan_wide false Byte = slot Source Memory 0 false ∷ slot Destination Device 0 false ∷ []
plan_wide false Word = slot Source Memory 0 true ∷ slot Destination Device 0 true ∷ []
plan_wide false Long =
    slot Source Memory 0 true ∷ slot Destination Device 0 true
    ∷ slot Source Memory 2 true ∷ slot Destination Device 2 true ∷ []
plan_wide true Byte = slot Source Device 0 false ∷ slot Destination Memory 0 false ∷ []
plan_wide true Word = slot Source Device 0 true ∷ slot Destination Memory 0 true ∷ []
plan_wide true Long =
    slot Source Device 0 true ∷ slot Destination Memory 0 true
    ∷ slot Source Device 2 true ∷ slot Destination Memory 2 true ∷ []

-- Dual addressing through an 8-bit port: the device side moves a byte a cycle, at every other address.
abbrev pub plan_narrow : Bool → Size → List Slot
plan_narrow false Byte = slot Source Memory 0 false ∷ slot Destination Device 0 false ∷ []
plan_narrow false Word =
    slot Source Memory 0 true ∷ slot Destination Device 0 false ∷ slot Destination Device 2 false ∷ []
plan_narrow false Long =
    slot Source Memory 0 true ∷ slot Destination Device 0 false ∷ slot Destination Device 2 false
    ∷ slot Source Memory 2 true ∷ slot Destination Device 4 false ∷ slot Destination Device 6 false ∷ []
plan_narrow true Byte = slot Source Device 0 false ∷ slot Destination Memory 0 false ∷ []
plan_narrow true Word =
    slot Source Device 0 false ∷ slot Source Device 2 false ∷ slot Destination Memory 0 true ∷ []
plan_narrow true Long =
    slot Source Device 0 false ∷ slot Source Device 2 false ∷ slot Destination Memory 0 true
    ∷ slot Source Device 4 false ∷ slot Source Device 6 false ∷ slot Destination Memory 2 true ∷ []

-- Single addressing: memory and device together in one cycle. (No start takes a long operand here.)
abbrev pub plan_single : Size → List Slot
plan_single Byte = slot Through Memory 0 false ∷ []
plan_single Word = slot Through Memory 0 true ∷ []
plan_single Long = slot Through Memory 0 true ∷ slot Through Memory 2 true ∷ []

abbrev pub plan_dual : Bool → Bool → Size → List Slot
plan_dual true inward s = plan_wide inward s
plan_dual false inward s = plan_narrow inward s

abbrev pub plan_by : Bool → Bool → Bool → Size → List Slot
plan_by true port16 inward s = plan_single s
plan_by false port16 inward s = plan_dual port16 inward s

-- The plan of a channel's operands.
abbrev pub plan : Config → List Slot
plan k = plan_by (is_single k) (is_port16 k) (is_inward k) (size_of k)
