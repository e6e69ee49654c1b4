-- Worked examples.
use Rattle.std.specs.Prelude.{◌≡◌, ℕ, List, [], ◌∷◌, map, Ok, Err, Result}
use Rattle.refusal.specs.declared.kinds.Refusal.{Refusal}
use Rattle.refusal.specs.Number.{number_of}
use Rattle.dmac.specs.Controller.{Dmac, new_controller}
use Rattle.dmac.specs.Access.{byte_read, word_read, byte_written, word_written}

-- A register byte write: offset and value.
pub record Setting : Type 0 where
  pub offset : ℕ
  pub value : ℕ

-- The call that is asked about.
pub data Question : Type 0 where
  byte_at : ℕ → Question
  word_at : ℕ → Question
  word_to : ℕ → ℕ → Question

-- What it answers: a value, or a refusal's number, or just that it was done.
pub data Reply : Type 0 where
  shows : ℕ → Reply
  refuses : ℕ → Reply
  done : Reply

-- Settings are written to a new controller, then the question is asked.
pub record Example : Type 0 where
  pub settings : List Setting
  pub question : Question
  pub reply : Reply

abbrev pub setting : ℕ → ℕ → Setting
setting o v = record { offset = o; value = v }

abbrev pub example : List Setting → Question → Reply → Example
example s q a = record { settings = s; question = q; reply = a }

abbrev pub settled : List Setting → Dmac → Dmac
settled [] k = k
settled (s ∷ ss) k = settled ss (byte_written s.offset s.value k).state

abbrev pub value_reply : Result ℕ Refusal → Reply
value_reply (Ok v) = shows v
value_reply (Err r) = refuses (number_of r)

abbrev pub done_reply : Result (Unit {0}) Refusal → Reply
done_reply (Ok u) = done
done_reply (Err r) = refuses (number_of r)

abbrev pub asked : Question → Dmac → Reply
asked (byte_at o) k = value_reply (byte_read o k)
asked (word_at o) k = value_reply (word_read o k)
asked (word_to o v) k = done_reply (word_written o v k).answer

abbrev pub played : Example → Reply
played e = asked e.question (settled e.settings new_controller)

-- A start with a 16-bit port and both addresses counting up, and the settings given before it.
abbrev pub with_start : List Setting → List Setting
with_start [] = setting 0x04 0x08 ∷ setting 0x06 0x05 ∷ setting 0x07 0x80 ∷ []
with_start (s ∷ ss) = s ∷ with_start ss

abbrev pub examples : List Example
examples =
    example [] (byte_at 0x25) (shows 0x0F)
    ∷ example [] (word_at 0x25) (refuses 2)
    ∷ example [] (byte_at 0x02) (refuses 1)
    ∷ example [] (word_to 0x06 0x0080) (refuses 4)
    ∷ example (with_start (setting 0x05 0x01 ∷ setting 0x0A 0x00 ∷ setting 0x0B 0x00 ∷ [])) (byte_at 0x01) (shows 0x0D)
    ∷ example (with_start (setting 0x05 0x11 ∷ setting 0x0F 0x11 ∷ setting 0x0B 0x01 ∷ [])) (byte_at 0x01) (shows 0x05)
    ∷ example (with_start (setting 0x05 0x19 ∷ setting 0x1A 0x00 ∷ setting 0x1B 0x00 ∷ [])) (byte_at 0x01) (shows 0x0F)
    ∷ []

-- Each example, played, replies as the table says.
abbrev pub ExamplesHold : Type 0
ExamplesHold = map played examples ≡ map (λ e. e.reply) examples
