-- The data of a cycle, and the bytes that a channel holds between the cycles of an operand.
use Rattle.std.specs.Prelude.{ℕ, Bool, true, false, List, [], ◌∷◌, Some, None, Option}
use Rattle.channel.specs.declared.state.Held.{Held}
use Rattle.channel.specs.declared.state.Held.TheVariants.{NoByte, OneByte, TwoBytes}
pub use Rattle.cycle.specs.declared.record.Data.{Data}
pub use Rattle.cycle.specs.declared.record.Data.TheVariants.{Byte as ByteOf, Word as WordOf}

-- The bytes of a cycle, the high one first.
abbrev pub data_bytes : Data → List ℕ
data_bytes (ByteOf a) = a ∷ []
data_bytes (WordOf a b) = a ∷ b ∷ []

-- What a read gave; no cycle is carried out where it gives nothing.
abbrev pub byte_data : Option ℕ → Data
byte_data None = ByteOf 0
byte_data (Some a) = ByteOf a

abbrev pub word_data : Option (ℕ × ℕ) → Data
word_data None = WordOf 0 0
word_data (Some p) = WordOf p.0 p.1

-- The first bytes held, one or two. (A plan reads a portion before it writes it, so that what is missing is never
-- asked for.)
abbrev pub held_first : Bool → Held → Data
held_first false NoByte = ByteOf 0
held_first false (OneByte a) = ByteOf a
held_first false (TwoBytes a b) = ByteOf a
held_first true NoByte = WordOf 0 0
held_first true (OneByte a) = WordOf a 0
held_first true (TwoBytes a b) = WordOf a b

-- What is held after the first one or two bytes were written.
abbrev pub held_rest : Bool → Held → Held
held_rest false NoByte = NoByte
held_rest false (OneByte a) = NoByte
held_rest false (TwoBytes a b) = OneByte b
held_rest true NoByte = NoByte
held_rest true (OneByte a) = NoByte
held_rest true (TwoBytes a b) = NoByte

-- What is held after more was read. (A portion has at most two bytes, so that none is ever left out.)
abbrev pub held_more : Data → Held → Held
held_more (ByteOf a) NoByte = OneByte a
held_more (ByteOf a) (OneByte x) = TwoBytes x a
held_more (ByteOf a) (TwoBytes x y) = TwoBytes x y
held_more (WordOf a b) NoByte = TwoBytes a b
held_more (WordOf a b) (OneByte x) = TwoBytes x a
held_more (WordOf a b) (TwoBytes x y) = TwoBytes x y
