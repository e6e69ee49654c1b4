-- What a memory means. A place is a function code (0 to 7) and an address below $1000000.
use Rattle.std.specs.Prelude.{ℕ, ◌+◌, ◌*◌, ◌/◌, ◌%◌, Bool, cond, ◌&&◌, List, length, Some, None, Option, ◌==◌, nat_lt, slice_index}

-- The places that are answered for reading and for writing, the space number of each code, and the byte at each
-- space and address. Two codes with one space number name the same bytes.
pub record MemoryMeaning : Type 0 where
  pub readable : ℕ → ℕ → Bool
  pub writable : ℕ → ℕ → Bool
  pub space : ℕ → ℕ
  pub byte : ℕ → ℕ → ℕ

-- Bytes by space and address, with one of them replaced.
abbrev pub with_byte : ℕ → ℕ → ℕ → (ℕ → ℕ → ℕ) → ℕ → ℕ → ℕ
with_byte s a v bytes s' a' = cond (s' == s && a' == a) v (bytes s' a')

-- A memory with the byte at a place replaced; what is answered and the space numbers never change.
abbrev pub byte_set : ℕ → ℕ → ℕ → MemoryMeaning → MemoryMeaning
byte_set c a v m = record {
  readable = m.readable;
  writable = m.writable;
  space = m.space;
  byte = with_byte (m.space c) a v m.byte;
}

-- The byte at a place.
abbrev pub byte_at : ℕ → ℕ → MemoryMeaning → ℕ
byte_at c a m = m.byte (m.space c) a

-- Reading an answered place gives its byte.
abbrev pub byte_read : ℕ → ℕ → MemoryMeaning → Option ℕ
byte_read c a m = cond (m.readable c a) (Some (byte_at c a m)) None

-- Writing an answered place sets that byte alone; writing another changes nothing.
abbrev pub byte_written : ℕ → ℕ → ℕ → MemoryMeaning → MemoryMeaning
byte_written c a v m = cond (m.writable c a) (byte_set c a v m) m

-- The address of a word's low byte: the one after its high byte's (in 32 bits, so that every address has one).
abbrev pub low_address : ℕ → ℕ
low_address a = (a + 1) % 4294967296

-- A word is answered if both its bytes are.
abbrev pub is_word_readable : ℕ → ℕ → MemoryMeaning → Bool
is_word_readable c a m = m.readable c a && m.readable c (low_address a)

abbrev pub is_word_writable : ℕ → ℕ → MemoryMeaning → Bool
is_word_writable c a m = m.writable c a && m.writable c (low_address a)

-- Reading an answered word gives its two bytes, the high one first: it has the lower address.
abbrev pub word_read : ℕ → ℕ → MemoryMeaning → Option (ℕ × ℕ)
word_read c a m = cond (is_word_readable c a m) (Some (byte_at c a m, byte_at c (low_address a) m)) None

-- Writing an answered word sets those two bytes alone.
abbrev pub word_written : ℕ → ℕ → ℕ → ℕ → MemoryMeaning → MemoryMeaning
word_written c a high low m =
    cond (is_word_writable c a m) (byte_set c (low_address a) low (byte_set c a high m)) m

-- A flat memory over given bytes: one space, number 0, and every code answered below their number.
abbrev pub flat : List ℕ → MemoryMeaning
flat bytes = record {
  readable = λ c a. nat_lt c 8 && nat_lt a (length bytes);
  writable = λ c a. nat_lt c 8 && nat_lt a (length bytes);
  space = λ c. 0;
  byte = λ s a. cond (s == 0) (slice_index bytes a) 0;
}

-- Two memories side by side: codes 0 to 3 go to the lower, the others to the upper. Space s of the upper is 2 s, and
-- of the lower 2 s + 1, so that they have no space in common.
abbrev pub split : MemoryMeaning → MemoryMeaning → MemoryMeaning
split upper lower = record {
  readable = λ c a. cond (nat_lt c 4) (lower.readable c a) (upper.readable c a);
  writable = λ c a. cond (nat_lt c 4) (lower.writable c a) (upper.writable c a);
  space = λ c. cond (nat_lt c 4) (2 * lower.space c + 1) (2 * upper.space c);
  byte = λ s a. cond (s % 2 == 0) (upper.byte (s / 2) a) (lower.byte (s / 2) a);
}
