-- What a bus step of a chosen channel comes to: nothing, an error, a cycle of an operand, or a word of an entry.
use Rattle.std.proofs.Common.{◌≡◌, ℕ, ◌+◌, ◌*◌, Bool, true, false, cond, ◌&&◌, ◌||◌, ◌⊎◌, Some, None, Ok, Option, sym, refl, subst, inl, inr}
use Rattle.registers.specs.declared.fault.Fault.{Fault}
use Rattle.registers.specs.declared.fault.Fault.TheVariants.{BaseAddress, MemoryBus, DeviceBus, BaseBus}
use Rattle.bus.specs.Memory.{is_word_readable, byte_at, low_address}
use Rattle.channel.specs.declared.state.Channel.{Channel}
use Rattle.channel.specs.declared.state.Held.{Held}
use Rattle.channel.specs.declared.state.Held.TheVariants.{NoByte}
use Rattle.channel.specs.declared.state.Phase.{Phase}
use Rattle.channel.specs.declared.state.Phase.TheVariants.{Idle, Fetching, Inside}
use Rattle.channel.specs.declared.state.Words.{Words}
use Rattle.channel.specs.declared.state.Words.TheVariants.{NoWord, OneWord, TwoWords, ThreeWords, FourWords}
use Rattle.channel.specs.Operation.{entry_word_taken}
use Rattle.cycle.specs.declared.plan.Side.{Side}
use Rattle.cycle.specs.declared.plan.Side.TheVariants.{Memory, Device}
use Rattle.cycle.specs.declared.plan.Slot.{Slot}
use Rattle.cycle.specs.declared.record.Data.TheVariants.{Word as WordOf}
use Rattle.cycle.specs.declared.record.Kind.TheVariants.{Entry}
use Rattle.cycle.specs.declared.record.Record.{Record}
use Rattle.cycle.specs.declared.record.Record.TheVariants.{Cycle}
use Rattle.cycle.specs.declared.serve.Hindrance.TheVariants.{Waiting as StillWaiting, Failed as FailedBy}
use Rattle.cycle.specs.Plan.{plan}
use Rattle.cycle.specs.Carry.{slot_code, slot_address, is_device_cycle}
use Rattle.cycle.specs.Serve.{Served, not_served, kind_by, side_fault, slot_carried, slot_data, is_slot_ready, is_slot_answered, slot_at, next_served, entry_address, phase_served, next_fault, phase_fault, is_entry_misplaced_by}
use Rattle.dmac.specs.declared.answer.Answer.{Answer}
use Rattle.dmac.specs.declared.answer.Answer.TheVariants.{Reset, Idle as IdleAnswer, Halted, Retry, Waiting, Recorded}
use Rattle.dmac.specs.declared.step.Gate.{Gate}
use Rattle.dmac.specs.declared.step.Gate.TheVariants.{Passes, Halts, Retries, Fails}
use Rattle.dmac.specs.Controller.{channel_at}
use Rattle.dmac.specs.Step.{Machine, Stepped, step_quiet, step_failed, step_made, step_by, step_gated, step_on, gate_of}
use Rattle.audit.specs.Book.{Gathered}
use Rattle.audit.proofs.Basics.{no}
use Rattle.audit.proofs.Inv.{held_list, words_list, Phased, Operating, Reading}

-- k cycles into an operand, with h held; or inside an entry, with the words ws.
abbrev pub OpPhase : Phase → ℕ → Held → Type 0
OpPhase Idle k h = (k ≡ 0) × (h ≡ NoByte)
OpPhase (Inside j g d) k h = (k ≡ j) × (h ≡ g)
OpPhase (Fetching ws) k h = ⊥

abbrev pub EnPhase : Phase → Words → Type 0
EnPhase Idle ws = ⊥
EnPhase (Inside j g d) ws = ⊥
EnPhase (Fetching us) ws = ws ≡ us

pub operating : (ph : Phase) (k : ℕ) (h : Held) (x : Channel) (g : Gathered) → OpPhase ph k h
    → Phased ph x.registers.config x.registers.counters x.registers.table g → Operating x.registers.config x.registers.counters g k (held_list h)
operating Idle k h x g p q = rw (p.0, p.1) q
operating (Inside j i d) k h x g p q = rw (p.0, p.1) q
operating (Fetching ws) k h x g p q = absurd p

pub entering : (ph : Phase) (ws : Words) (x : Channel) (g : Gathered) → EnPhase ph ws
    → Phased ph x.registers.config x.registers.counters x.registers.table g
    → Reading x.registers.config x.registers.counters x.registers.table g (words_list ws)
entering Idle ws x g p q = absurd p
entering (Inside j i d) ws x g p q = absurd p
entering (Fetching us) ws x g p q = rw p q

-- Answers that tell of no cycle and no error, and of no reset.
abbrev pub Silent : Answer → Type 0
Silent IdleAnswer = Unit {0}
Silent Waiting = Unit {0}
Silent Halted = Unit {0}
Silent Retry = Unit {0}
Silent Reset = ⊥
Silent (Recorded r) = ⊥

-- Nothing but the bus flag changed.
pub record Quiet (s : Machine) (o : Stepped) : Type 0 where
  pub bus : Bool
  pub says : Answer
  pub silent : Silent says
  pub is : o ≡ step_quiet bus says s

-- An error of channel n.
pub record InOperand (s : Machine) (n : ℕ) (f : Fault) : Type 0 where
  pub k : ℕ
  pub h : Held
  pub phase : OpPhase (channel_at n s.dmac).phase k h
  pub code : (f ≡ MemoryBus) ⊎ (f ≡ DeviceBus)

pub record InEntry (s : Machine) (n : ℕ) (f : Fault) : Type 0 where
  pub ws : Words
  pub phase : EnPhase (channel_at n s.dmac).phase ws
  pub code : (f ≡ BaseAddress) ⊎ (f ≡ BaseBus)

pub record Failed (s : Machine) (n : ℕ) (o : Stepped) : Type 0 where
  pub fault : Fault
  pub where_at : InOperand s n fault ⊎ InEntry s n fault
  pub is : o ≡ step_failed n fault s

-- A cycle of an operand of channel n.
abbrev pub cycle_record : Machine → ℕ → Slot → Held → Record
cycle_record s n q h =
    let c = channel_at n s.dmac in
    Cycle n (kind_by q.way c.registers.config) (slot_code q c) (slot_address q c) (slot_data q n h c s.memory s.bank)

abbrev pub slot_made : Machine → ℕ → Slot → Bool → ℕ → Held → Bool → Served
slot_made s n q last k h done =
    let c = channel_at n s.dmac in
    slot_carried q last k h done (slot_data q n h c s.memory s.bank) n c s.memory s.bank

pub record Moved (s : Machine) (n : ℕ) (o : Stepped) : Type 0 where
  pub k : ℕ
  pub h : Held
  pub done : Bool
  pub q : Slot
  pub last : Bool
  pub bus : Bool
  pub phase : OpPhase (channel_at n s.dmac).phase k h
  pub slot : slot_at k (plan (channel_at n s.dmac).registers.config) ≡ Some (q, last)
  pub ready : is_slot_ready q n (channel_at n s.dmac).registers.config s.bank ≡ true
  pub answered : is_slot_answered q (channel_at n s.dmac) s.memory ≡ true
  pub is : o ≡ step_made n bus (cycle_record s n q h) (slot_made s n q last k h done) s

-- A word of an entry of channel n.
abbrev pub entry_high : Machine → ℕ → Words → ℕ
entry_high s n ws = let c = channel_at n s.dmac in byte_at c.registers.table.bfc (entry_address ws c) s.memory

abbrev pub entry_low : Machine → ℕ → Words → ℕ
entry_low s n ws = let c = channel_at n s.dmac in byte_at c.registers.table.bfc (low_address (entry_address ws c)) s.memory

abbrev pub entry_record : Machine → ℕ → Words → Record
entry_record s n ws =
    let c = channel_at n s.dmac in
    Cycle n Entry c.registers.table.bfc (entry_address ws c) (WordOf (entry_high s n ws) (entry_low s n ws))

abbrev pub entry_made : Machine → ℕ → Words → Served
entry_made s n ws = record {
  channel = entry_word_taken (entry_high s n ws * 256 + entry_low s n ws) ws (channel_at n s.dmac);
  memory = s.memory;
  bank = s.bank;
  outcome = Ok (entry_record s n ws);
}

pub record Fetched (s : Machine) (n : ℕ) (o : Stepped) : Type 0 where
  pub ws : Words
  pub bus : Bool
  pub phase : EnPhase (channel_at n s.dmac).phase ws
  pub is : o ≡ step_made n bus (entry_record s n ws) (entry_made s n ws) s

pub data Outcome (s : Machine) (n : ℕ) (o : Stepped) : Type 0 where
  quiet : Quiet s o → Outcome s n o
  failed : Failed s n o → Outcome s n o
  moved : Moved s n o → Outcome s n o
  fetched : Fetched s n o → Outcome s n o

side_code : (s : Side) → (side_fault s ≡ MemoryBus) ⊎ (side_fault s ≡ DeviceBus)
side_code Memory = inl refl
side_code Device = inr refl

next_code : (o : Option (Slot × Bool)) → (next_fault o ≡ MemoryBus) ⊎ (next_fault o ≡ DeviceBus)
next_code None = inl refl
next_code (Some p) = side_code p.0.side

operand_failed : (s : Machine) (n k : ℕ) (h : Held) (f : Fault) → OpPhase (channel_at n s.dmac).phase k h → (f ≡ MemoryBus) ⊎ (f ≡ DeviceBus)
    → Outcome s n (step_failed n f s)
operand_failed s n k h f p c = failed (record { fault = f; where_at = inl (record { k = k; h = h; phase = p; code = c }); is = refl })

entry_failed : (s : Machine) (n : ℕ) (ws : Words) (f : Fault) → EnPhase (channel_at n s.dmac).phase ws → (f ≡ BaseAddress) ⊎ (f ≡ BaseBus)
    → Outcome s n (step_failed n f s)
entry_failed s n ws f p c = failed (record { fault = f; where_at = inr (record { ws = ws; phase = p; code = c }); is = refl })

waits : (s : Machine) (n : ℕ) → Outcome s n (record { machine = s; answer = Waiting })
waits s n = quiet (record { bus = s.dmac.bus; says = Waiting; silent = tt; is = refl })

-- How serving went, by what the device and the memory say.
abbrev step_of : ℕ → Bool → Served → Machine → Stepped
step_of n held v s = step_by v.outcome n held v s

slot_is : (t u : Bool) (q : Slot) (last : Bool) (k : ℕ) (h : Held) (done : Bool) (held : Bool) (s : Machine) (n : ℕ)
    → OpPhase (channel_at n s.dmac).phase k h → slot_at k (plan (channel_at n s.dmac).registers.config) ≡ Some (q, last)
    → is_slot_ready q n (channel_at n s.dmac).registers.config s.bank ≡ t → is_slot_answered q (channel_at n s.dmac) s.memory ≡ u
    → Outcome s n (step_of n held (cond t (cond u (slot_made s n q last k h done) (not_served (FailedBy (side_fault q.side)) (channel_at n s.dmac) s.memory s.bank))
    (not_served StillWaiting (channel_at n s.dmac) s.memory s.bank)) s)
slot_is false u q last k h done held s n p e r a = waits s n
slot_is true false q last k h done held s n p e r a = operand_failed s n k h (side_fault q.side) p (side_code q.side)
slot_is true true q last k h done held s n p e r a =
    moved (record { k = k; h = h; done = done; q = q; last = last; bus = held; phase = p; slot = e; ready = r; answered = a; is = refl })

next_is : (o : Option (Slot × Bool)) (k : ℕ) (h : Held) (before line held : Bool) (s : Machine) (n : ℕ)
    → OpPhase (channel_at n s.dmac).phase k h → slot_at k (plan (channel_at n s.dmac).registers.config) ≡ o
    → Outcome s n (step_of n held (next_served o k h before line n (channel_at n s.dmac) s.memory s.bank) s)
next_is None k h before line held s n p e = waits s n
next_is (Some p) k h before line held s n q e =
    slot_is (is_slot_ready p.0 n (channel_at n s.dmac).registers.config s.bank) (is_slot_answered p.0 (channel_at n s.dmac) s.memory)
    p.0 p.1 k h (before || (line && is_device_cycle p.0 (channel_at n s.dmac).registers.config)) held s n q e refl refl

entry_is : (t : Bool) (ws : Words) (held : Bool) (s : Machine) (n : ℕ) → EnPhase (channel_at n s.dmac).phase ws
    → Outcome s n (step_of n held (cond t (entry_made s n ws) (not_served (FailedBy BaseBus) (channel_at n s.dmac) s.memory s.bank)) s)
entry_is true ws held s n p = fetched (record { ws = ws; bus = held; phase = p; is = refl })
entry_is false ws held s n p = entry_failed s n ws BaseBus p (inr refl)

phase_is : (ph : Phase) (line held : Bool) (s : Machine) (n : ℕ) → (channel_at n s.dmac).phase ≡ ph
    → Outcome s n (step_of n held (phase_served ph line n (channel_at n s.dmac) s.memory s.bank) s)
phase_is Idle line held s n e = next_is (slot_at 0 (plan (channel_at n s.dmac).registers.config)) 0 NoByte false line held s n (rw e (refl, refl)) refl
phase_is (Inside k h d) line held s n e = next_is (slot_at k (plan (channel_at n s.dmac).registers.config)) k h d line held s n (rw e (refl, refl)) refl
phase_is (Fetching ws) line held s n e =
    entry_is (is_word_readable (channel_at n s.dmac).registers.table.bfc (entry_address ws (channel_at n s.dmac)) s.memory) ws held s n (rw e refl)

fails_is : (ph : Phase) (s : Machine) (n : ℕ) → (channel_at n s.dmac).phase ≡ ph → Outcome s n (step_failed n (phase_fault ph (channel_at n s.dmac)) s)
fails_is Idle s n e = operand_failed s n 0 NoByte _ (rw e (refl, refl)) (next_code (slot_at 0 (plan (channel_at n s.dmac).registers.config)))
fails_is (Inside k h d) s n e = operand_failed s n k h _ (rw e (refl, refl)) (next_code (slot_at k (plan (channel_at n s.dmac).registers.config)))
fails_is (Fetching ws) s n e = entry_failed s n ws BaseBus (rw e refl) (inr refl)

abbrev gated : Gate → Phase → ℕ → Bool → Machine → Stepped
gated (Passes held) ph n done s = step_of n held (phase_served ph done n (channel_at n s.dmac) s.memory s.bank) s
gated Halts ph n done s = record { machine = s; answer = Halted }
gated (Retries held) ph n done s = step_quiet held Retry s
gated Fails ph n done s = step_failed n (phase_fault ph (channel_at n s.dmac)) s

gated_is : (g : Gate) (ph : Phase) (done : Bool) (s : Machine) (n : ℕ) → (channel_at n s.dmac).phase ≡ ph → Outcome s n (gated g ph n done s)
gated_is (Passes held) ph done s n e = phase_is ph done held s n e
gated_is Halts ph done s n e = quiet (record { bus = s.dmac.bus; says = Halted; silent = tt; is = refl })
gated_is (Retries held) ph done s n e = quiet (record { bus = held; says = Retry; silent = tt; is = refl })
gated_is Fails ph done s n e = fails_is ph s n e

-- An entry at an odd address.
misplaced_is : (ph : Phase) (s : Machine) (n : ℕ) → (channel_at n s.dmac).phase ≡ ph → is_entry_misplaced_by ph (channel_at n s.dmac) ≡ true
    → Outcome s n (step_failed n BaseAddress s)
misplaced_is Idle s n e t = no t
misplaced_is (Inside k h d) s n e t = no t
misplaced_is (Fetching NoWord) s n e t = entry_failed s n NoWord BaseAddress (rw e refl) (inl refl)
misplaced_is (Fetching (OneWord a)) s n e t = no t
misplaced_is (Fetching (TwoWords a b)) s n e t = no t
misplaced_is (Fetching (ThreeWords a b x)) s n e t = no t
misplaced_is (Fetching (FourWords a b x y)) s n e t = no t

on_is : (t : Bool) (g : Gate) (ph : Phase) (done : Bool) (s : Machine) (n : ℕ) → (channel_at n s.dmac).phase ≡ ph → is_entry_misplaced_by ph (channel_at n s.dmac) ≡ t
    → Outcome s n (cond t (step_failed n BaseAddress s) (gated g ph n done s))
on_is true g ph done s n e m = misplaced_is ph s n e m
on_is false g ph done s n e m = gated_is g ph done s n e

gated_same : (g : Gate) (n : ℕ) (done : Bool) (s : Machine) → step_gated g n done s ≡ gated g (channel_at n s.dmac).phase n done s
gated_same (Passes held) n done s = refl
gated_same Halts n done s = refl
gated_same (Retries held) n done s = refl
gated_same Fails n done s = refl

-- The step of channel n.
pub step_is : (n code : ℕ) (done : Bool) (s : Machine) → Outcome s n (step_on n code done s)
step_is n code done s =
    let ph = (channel_at n s.dmac).phase in
    let t = is_entry_misplaced_by ph (channel_at n s.dmac) in
    let g = gate_of code s.dmac.bus in
    subst (λ (o : Stepped). Outcome s n (cond t (step_failed n BaseAddress s) o)) (sym (gated_same g n done s)) (on_is t g ph done s n refl refl)
