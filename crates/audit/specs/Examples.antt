-- Worked histories, so that the definitions are seen at work.
use Rattle.std.specs.Prelude.{◌≡◌, ℕ, false, List, [], ◌∷◌, map, replicate}
use Rattle.bus.specs.Memory.{flat, byte_at}
use Rattle.devices.specs.Bank.{nothing}
use Rattle.audit.specs.Operand.{Place, in_memory, in_device, bare_device, Move, Operand}
use Rattle.audit.specs.Calls.{Call, WriteByte, Step, Store, Run}
use Rattle.audit.specs.History.{Past, registers_of, outcome}

-- The address of a place as sent.
abbrev pub address_of : Place → ℕ
address_of (in_memory f a) = a
address_of (in_device f a) = a
address_of bare_device = 0

-- What is looked at after a history, of channel 0: the address registers of each operand named; of each one delivered
-- the way of its bytes, by their addresses; then the counter, the address registers, the status and error registers, and
-- the bytes of memory at some addresses.
pub record Shown : Type 0 where
  pub named : List (ℕ × ℕ)
  pub delivered : List (List (ℕ × ℕ))
  pub mtc : ℕ
  pub mar : ℕ
  pub dar : ℕ
  pub csr : ℕ
  pub cer : ℕ
  pub bytes : List ℕ

abbrev pub shown_at : List ℕ → Past → Shown
shown_at places p = record {
  named = map (λ (o : Operand). (o.mar, o.dar)) (p.books 0).named;
  delivered = map (λ (o : Operand). map (λ (w : Move). (address_of w.from, address_of w.to)) o.moves) (p.books 0).delivered;
  mtc = (registers_of 0 p.machine).counters.mtc;
  mar = (registers_of 0 p.machine).counters.mar;
  dar = (registers_of 0 p.machine).counters.dar;
  csr = (registers_of 0 p.machine).status.csr;
  cer = (registers_of 0 p.machine).status.cer;
  bytes = map (λ (a : ℕ). byte_at 5 a p.machine.memory) places;
}

-- The calls of a history, each with room for 128 records, on a memory of 128 bytes of 0 and no devices.
abbrev pub after_calls : List Call → Past
after_calls cs = outcome (flat (replicate 128 0)) nothing (map (λ (c : Call). record { call = c; room = 128 }) cs)

-- A copy: two bytes from $10 to $20, up on both sides, through a 16-bit port that is memory.
abbrev pub copy : List Call
copy =
    Store 5 0x10 0x41 ∷ Store 5 0x11 0x42
    ∷ WriteByte 0x04 0x08 ∷ WriteByte 0x05 0x01 ∷ WriteByte 0x06 0x05 ∷ WriteByte 0x0B 0x02 ∷ WriteByte 0x0F 0x10 ∷ WriteByte 0x17 0x20
    ∷ WriteByte 0x07 0x80 ∷ Run 5 ∷ []

abbrev pub copy_shown : Shown
copy_shown = record {
  named = (0x10, 0x20) ∷ (0x11, 0x21) ∷ [];
  delivered = ((0x10, 0x20) ∷ []) ∷ ((0x11, 0x21) ∷ []) ∷ [];
  mtc = 0;
  mar = 0x12;
  dar = 0x22;
  csr = 0x80;
  cer = 0;
  bytes = 0x41 ∷ 0x42 ∷ [];
}

-- A linked chain of two blocks of words, one at $20 and two at $30, gathered at $40. Its entries are at $50 and $60.
abbrev pub chain : List Call
chain =
    Store 5 0x53 0x20 ∷ Store 5 0x55 0x01 ∷ Store 5 0x59 0x60 ∷ Store 5 0x63 0x30 ∷ Store 5 0x65 0x02
    ∷ Store 5 0x20 0x61 ∷ Store 5 0x21 0x62 ∷ Store 5 0x30 0x63 ∷ Store 5 0x31 0x64 ∷ Store 5 0x32 0x65 ∷ Store 5 0x33 0x66
    ∷ WriteByte 0x04 0x08 ∷ WriteByte 0x05 0x1D ∷ WriteByte 0x06 0x05 ∷ WriteByte 0x17 0x40 ∷ WriteByte 0x1F 0x50
    ∷ WriteByte 0x07 0x80 ∷ Run 20 ∷ []

abbrev pub chain_shown : Shown
chain_shown = record {
  named = (0x20, 0x40) ∷ (0x30, 0x42) ∷ (0x32, 0x44) ∷ [];
  delivered =
      ((0x20, 0x40) ∷ (0x21, 0x41) ∷ [])
      ∷ ((0x30, 0x42) ∷ (0x31, 0x43) ∷ [])
      ∷ ((0x32, 0x44) ∷ (0x33, 0x45) ∷ []) ∷ [];
  mtc = 0;
  mar = 0x34;
  dar = 0x46;
  csr = 0x80;
  cer = 0;
  bytes = 0x61 ∷ 0x62 ∷ 0x63 ∷ 0x64 ∷ 0x65 ∷ 0x66 ∷ [];
}

-- A bus error in the middle of a long operand: its first half was written, then the read of the second fails. Nothing is
-- delivered, the counter shows both operands, and the address registers stand at the first.
abbrev pub broken : List Call
broken =
    Store 5 0x10 0x71 ∷ Store 5 0x11 0x72 ∷ Store 5 0x12 0x73 ∷ Store 5 0x13 0x74
    ∷ WriteByte 0x04 0x08 ∷ WriteByte 0x05 0x21 ∷ WriteByte 0x06 0x05 ∷ WriteByte 0x0B 0x02 ∷ WriteByte 0x0F 0x10 ∷ WriteByte 0x17 0x20
    ∷ WriteByte 0x07 0x80 ∷ Step 7 false ∷ Step 7 false ∷ Step 5 false ∷ []

abbrev pub broken_shown : Shown
broken_shown = record {
  named = (0x10, 0x20) ∷ (0x14, 0x24) ∷ [];
  delivered = [];
  mtc = 2;
  mar = 0x10;
  dar = 0x20;
  csr = 0x90;
  cer = 9;
  bytes = 0x71 ∷ 0x72 ∷ 0 ∷ 0 ∷ [];
}

-- A worked history: its calls, the addresses that are looked at after them, and what is then shown.
pub record Worked : Type 0 where
  pub calls : List Call
  pub places : List ℕ
  pub shown : Shown

abbrev pub worked : List Call → List ℕ → Shown → Worked
worked cs places x = record { calls = cs; places = places; shown = x }

abbrev pub histories : List Worked
histories =
    worked copy (0x20 ∷ 0x21 ∷ []) copy_shown
    ∷ worked chain (0x40 ∷ 0x41 ∷ 0x42 ∷ 0x43 ∷ 0x44 ∷ 0x45 ∷ []) chain_shown
    ∷ worked broken (0x20 ∷ 0x21 ∷ 0x22 ∷ 0x23 ∷ []) broken_shown
    ∷ []

-- Each history comes to what is shown of it.
abbrev pub HistoriesHold : Type 0
HistoriesHold = map (λ (w : Worked). shown_at w.places (after_calls w.calls)) histories ≡ map (λ (w : Worked). w.shown) histories
