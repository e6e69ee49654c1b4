-- The processor stores one byte.
use Rattle.std.specs.Prelude.{ℕ, Bool, cond, ◌&&◌, Ok, Err, Result, nat_lt}
use Rattle.refusal.specs.declared.kinds.Refusal.{Refusal}
use Rattle.refusal.specs.declared.kinds.Refusal.TheVariants.{NoPlace}
use Rattle.bus.specs.Memory.{MemoryMeaning, byte_set}

-- What a call leaves of a memory, and what it answers.
pub record Stored : Type 0 where
  pub memory : MemoryMeaning
  pub answer : Result (Unit {0}) Refusal

-- A store is accepted at a place that is answered for writing.
abbrev pub is_storable : ℕ → ℕ → MemoryMeaning → Bool
is_storable c a m = nat_lt c 8 && (nat_lt a 0x1000000 && m.writable c a)

-- An accepted store sets that byte alone; any other is refused, and the memory stays as it was.
abbrev pub stored : ℕ → ℕ → ℕ → MemoryMeaning → Stored
stored c a v m =
    cond (is_storable c a m)
    (record { memory = byte_set c a v m; answer = Ok tt })
    (record { memory = m; answer = Err NoPlace })
