-- Register access: a byte or a word at an offset 0 to 255. Channel c has the offsets 64 × c to 64 × c + 63.
use Rattle.std.specs.Prelude.{ℕ, ◌+◌, ◌*◌, ◌/◌, ◌%◌, Bool, true, false, cond, ◌&&◌, [], ◌∷◌, Some, None, Ok, Err, Option, Result, ◌==◌, bit_and}
use Rattle.refusal.specs.declared.kinds.Refusal.{Refusal}
use Rattle.refusal.specs.declared.kinds.Refusal.TheVariants.{NoRegister, OddWord, StartByWord}
use Rattle.registers.specs.Bits.{any, odd}
use Rattle.registers.specs.Checks.{check, first_failing}
use Rattle.channel.specs.declared.decode.Access.{Access}
use Rattle.channel.specs.declared.decode.Access.TheVariants.{Nowhere, Barred, To, General}
use Rattle.channel.specs.declared.decode.Register.{Register}
use Rattle.channel.specs.declared.decode.Register.TheVariants.{Csr, Cer, Dcr, Ocr, Scr, Ccr, Mtc, Mar, Dar, Btc, Bar, Niv, Eiv, Mfc, Dfc, Bfc, Cpr}
use Rattle.channel.specs.Decode.{access_at}
use Rattle.channel.specs.Read.{register_read}
use Rattle.channel.specs.Write.{reached, written}
use Rattle.dmac.specs.Controller.{Dmac, channel_at, with_channel, with_general}

-- What a call that changes the controller leaves, and what it answers.
pub record Outcome (A : Type 0) : Type 0 where
  pub state : Dmac
  pub answer : A

-- The register byte at an offset, whatever its channel is doing.
abbrev pub register_of : ℕ → Access
register_of o = access_at (o / 64) (o % 64) false false

-- The register byte at the offset after this one, for the low half of a word; after $FF there is none.
abbrev pub register_after : ℕ → Access
register_after o = cond (o == 255) Nowhere (register_of (o + 1))

-- What a write at an offset reaches, with the bars of its channel as it now stands.
abbrev pub reach_of : ℕ → Dmac → Access
reach_of o k = reached (o / 64) (o % 64) (channel_at (o / 64) k)

abbrev pub reach_after : ℕ → Dmac → Access
reach_after o k = cond (o == 255) Nowhere (reach_of (o + 1) k)

abbrev pub is_nowhere : Access → Bool
is_nowhere Nowhere = true
is_nowhere Barred = false
is_nowhere (To r) = false
is_nowhere General = false

abbrev pub is_general : Access → Bool
is_general Nowhere = false
is_general Barred = false
is_general (To r) = false
is_general General = true

-- The channel control register, which has the start bit.
abbrev pub is_control_register : Register → Bool
is_control_register Csr = false
is_control_register Cer = false
is_control_register Dcr = false
is_control_register Ocr = false
is_control_register Scr = false
is_control_register Ccr = true
is_control_register (Mtc k) = false
is_control_register (Mar k) = false
is_control_register (Dar k) = false
is_control_register (Btc k) = false
is_control_register (Bar k) = false
is_control_register Niv = false
is_control_register Eiv = false
is_control_register Mfc = false
is_control_register Dfc = false
is_control_register Bfc = false
is_control_register Cpr = false

abbrev pub is_control : Access → Bool
is_control Nowhere = false
is_control Barred = false
is_control (To r) = is_control_register r
is_control General = false

-- Neither half of a word has a register.
abbrev pub is_no_word : ℕ → Bool
is_no_word o = is_nowhere (register_of o) && is_nowhere (register_after o)

-- The low half of a word write would set the start bit of a channel control register.
abbrev pub starts_by_word : ℕ → ℕ → Bool
starts_by_word o v = is_control (register_after o) && any 0x80 (v % 256)

-- When a word access is refused; a read never starts a channel.
abbrev pub word_refusal : ℕ → Bool → Option Refusal
word_refusal o starts =
    first_failing (check (is_no_word o) NoRegister ∷ check (odd o) OddWord ∷ check starts StartByWord ∷ [])

-- What a byte of a register reads; a half of a word without a register reads 0.
abbrev pub half_read : Access → ℕ → Dmac → ℕ
half_read Nowhere n k = 0
half_read Barred n k = 0
half_read (To r) n k = register_read r (channel_at n k)
half_read General n k = k.gcr

abbrev pub byte_read : ℕ → Dmac → Result ℕ Refusal
byte_read o k = cond (is_nowhere (register_of o)) (Err NoRegister) (Ok (half_read (register_of o) (o / 64) k))

-- The high byte of a word is at its offset, the low byte at the next one.
abbrev pub word_read_by : Option Refusal → ℕ → Dmac → Result ℕ Refusal
word_read_by (Some r) o k = Err r
word_read_by None o k = Ok (half_read (register_of o) (o / 64) k * 256 + half_read (register_after o) (o / 64) k)

abbrev pub word_read : ℕ → Dmac → Result ℕ Refusal
word_read o k = word_read_by (word_refusal o false) o k

-- A refused call changes nothing.
abbrev pub refused : Refusal → Dmac → Outcome (Result (Unit {0}) Refusal)
refused r k = record { state = k; answer = Err r }

abbrev pub accepted : Dmac → Outcome (Result (Unit {0}) Refusal)
accepted k = record { state = k; answer = Ok tt }

-- A write that is accepted, in channel n: of the general control register, which only stores bits 3 to 0, or of the
-- channel's registers.
abbrev pub taken_in : ℕ → Access → ℕ → Access → ℕ → Dmac → Dmac
taken_in n high vh low vl k =
    cond (is_general low) (with_general (bit_and vl 0x0F) k)
    (with_channel n (written high vh low vl (channel_at n k)) k)

abbrev pub byte_written : ℕ → ℕ → Dmac → Outcome (Result (Unit {0}) Refusal)
byte_written o v k =
    cond (is_nowhere (register_of o)) (refused NoRegister k)
    (accepted (taken_in (o / 64) Nowhere 0 (reach_of o k) v k))

-- Both halves of a word at an even offset are in one channel.
abbrev pub word_taken_in : ℕ → ℕ → Dmac → Dmac
word_taken_in o v k = taken_in (o / 64) (reach_of o k) (v / 256) (reach_after o k) (v % 256) k

abbrev pub word_written_by : Option Refusal → ℕ → ℕ → Dmac → Outcome (Result (Unit {0}) Refusal)
word_written_by (Some r) o v k = refused r k
word_written_by None o v k = accepted (word_taken_in o v k)

abbrev pub word_written : ℕ → ℕ → Dmac → Outcome (Result (Unit {0}) Refusal)
word_written o v k = word_written_by (word_refusal o (starts_by_word o v)) o v k
