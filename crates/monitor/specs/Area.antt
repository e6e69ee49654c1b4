-- The memory that a script sees: the addresses 0 to $FFF, reached with function code 5, supervisor data.
use Rattle.std.specs.Prelude.{ℕ, zero, suc, ◌+◌, Bool, true, ◌&&◌, List, [], ◌∷◌, ◌++◌, nat_lt}
use Rattle.std.specs.Option.{unwrap_or}
use Rattle.bus.specs.Memory.{MemoryMeaning, byte_read}
use Rattle.bus.specs.Store.{is_storable, stored}
use Rattle.script.specs.Text.{hex_text}

-- An area of n bytes from address a on reaches past $FFF.
abbrev pub is_past_the_end : ℕ → ℕ → Bool
is_past_the_end a n = nat_lt 0x1000 (a + n)

-- Each of some bytes could be stored, from address a on.
abbrev pub takes_all : ℕ → List ℕ → MemoryMeaning → Bool
takes_all a [] m = true
takes_all a (b ∷ bs) m = is_storable 5 a m && takes_all (a + 1) bs m

-- The memory with bytes stored from address a on.
abbrev pub filled : ℕ → List ℕ → MemoryMeaning → MemoryMeaning
filled a [] m = m
filled a (b ∷ bs) m = filled (a + 1) bs (stored 5 a b m).memory

-- The byte at an address, as it is shown; 0 where the memory does not answer.
abbrev pub byte_shown : ℕ → MemoryMeaning → ℕ
byte_shown a m = unwrap_or (byte_read 5 a m) 0

-- The text of n bytes from address a on, two digits each.
abbrev pub area_text : ℕ → ℕ → MemoryMeaning → List ℕ
area_text a zero m = []
area_text a (suc n) m = hex_text (byte_shown a m) ++ area_text (a + 1) n m
