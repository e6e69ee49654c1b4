-- What every step answers of a cycle is true.
use Rattle.std.proofs.Common.{◌≡◌, ℕ, ◌+◌, ◌<◌, Bool, true, false, cond, leb, List, ◌∷◌, ◌++◌, length, drop, Some, None, Option, sym, refl, ap, ◌∙◌, subst, append-nil, arith}
use Rattle.std.proofs.lemmas.Bool.{and_parts, cond_both}
use Rattle.registers.specs.Config.{is_single, is_inward}
use Rattle.registers.specs.Status.{is_active}
use Rattle.registers.specs.declared.groups.Config.{Config}
use Rattle.devices.specs.Bank.{BankMeaning, can_give, can_take}
use Rattle.channel.specs.declared.state.Channel.{Channel}
use Rattle.cycle.specs.declared.carry.End.{End}
use Rattle.cycle.specs.declared.carry.End.TheVariants.{InMemory, InDevice, InChannel}
use Rattle.cycle.specs.declared.plan.Way.{Way}
use Rattle.cycle.specs.declared.plan.Way.TheVariants.{Source, Destination, Through}
use Rattle.cycle.specs.declared.plan.Side.{Side}
use Rattle.cycle.specs.declared.plan.Side.TheVariants.{Memory, Device}
use Rattle.cycle.specs.declared.record.Data.{Data}
use Rattle.cycle.specs.declared.record.Kind.TheVariants.{Read, Write}
use Rattle.cycle.specs.Held.{data_bytes}
use Rattle.cycle.specs.Plan.{plan}
use Rattle.cycle.specs.Carry.{source_end, destination_end, count_of, is_destination_ready, bank_got, bank_put, slot_code, slot_address, slot_address_by}
use Rattle.cycle.specs.Serve.{kind_by, slot_data, entry_address}
use Rattle.dmac.specs.declared.answer.Answer.{Answer}
use Rattle.dmac.specs.declared.answer.Answer.TheVariants.{Reset, Idle, Halted, Retry, Waiting, Recorded}
use Rattle.dmac.specs.Controller.{channel_at}
use Rattle.dmac.specs.Choice.{chosen}
use Rattle.dmac.specs.Step.{Machine, Stepped as StepDone, step_made, step_chosen, step_on}
use Rattle.audit.specs.Calls.{Stepped, replied, step_called}
use Rattle.audit.specs.Book.{Book, bytes_told, places_read, places_written}
use Rattle.audit.specs.Truth.{Carried, CycleTrue, AnswerTrue, ReplyTrue, device_bytes}
use Rattle.audit.proofs.Plan.{runs}
use Rattle.audit.proofs.Inv.{held_list, InvX, Operating}
use Rattle.audit.proofs.Flow.{Slotted, slotted, length_got}
use Rattle.audit.proofs.Outcome.{Silent, Outcome, quiet, failed, moved, fetched, Moved, Fetched, cycle_record, slot_made, operating, entry_made, entry_record, step_is}
use Rattle.audit.proofs.Chosen.{Serves}
use Rattle.audit.proofs.Steps.{step_cases, Kept, serves, found}
use Rattle.audit.proofs.Truth.{gave_true, has_true, word_holds}

-- A cycle of an operand is told as a read or a write.
kind_true : (y : Way) (k : Config) (n f a : ℕ) (vs : List ℕ) (old new : Machine)
    → Carried n (places_read (is_single k) (is_inward k) k (kind_by y k) f a (length vs)) (places_written (is_single k) (is_inward k) k (kind_by y k) f a (length vs)) vs old new
    → CycleTrue (kind_by y k) k n f a vs old new
kind_true Source k n f a vs old new h = h
kind_true Destination k n f a vs old new h = h
kind_true Through k n f a vs old new h = go (is_inward k) h
  where
    go : (t : Bool) → Carried n (places_read (is_single k) (is_inward k) k (cond t Write Read) f a (length vs)) (places_written (is_single k) (is_inward k) k (cond t Write Read) f a (length vs)) vs old new
        → CycleTrue (cond t Write Read) k n f a vs old new
    go true q = q
    go false q = q

-- Taking leaves what waits, giving what is kept and the free places.
put_waiting : (e : End) (v : Data) (n : ℕ) (b : BankMeaning) → (bank_put e v n b).waiting ≡ b.waiting
put_waiting InMemory v n b = refl
put_waiting InChannel v n b = refl
put_waiting InDevice v n b = cond_both (can_take n (length (data_bytes v)) b) _ _ (λ (y : BankMeaning). y.waiting ≡ b.waiting) (λ _. refl) (λ _. refl)

got_kept : (e : End) (n : ℕ) (w : Bool) (b : BankMeaning) → (bank_got e n w b).kept ≡ b.kept
got_kept InMemory n w b = refl
got_kept InChannel n w b = refl
got_kept InDevice n w b = cond_both (can_give n (count_of w) b) _ _ (λ (y : BankMeaning). y.kept ≡ b.kept) (λ _. refl) (λ _. refl)

got_free : (e : End) (n : ℕ) (w : Bool) (b : BankMeaning) → (bank_got e n w b).free ≡ b.free
got_free InMemory n w b = refl
got_free InChannel n w b = refl
got_free InDevice n w b = cond_both (can_give n (count_of w) b) _ _ (λ (y : BankMeaning). y.free ≡ b.free) (λ _. refl) (λ _. refl)

ready_still : (d e : End) (n : ℕ) (w : Bool) (b : BankMeaning) → is_destination_ready d n w b ≡ true → is_destination_ready d n w (bank_got e n w b) ≡ true
ready_still InMemory e n w b h = h
ready_still InChannel e n w b h = h
ready_still InDevice e n w b h = ap (λ (free : ℕ → ℕ). leb (count_of w) (free n)) (got_free e n w b) ∙ h

-- Addresses are sent in 24 bits.
pub sent_below : (s : Side) (o : ℕ) (x : Channel) → slot_address_by s o x < 16777216
sent_below Memory o x = omega arith
sent_below Device o x = omega arith

-- The cycles to come of the operand that a moving channel is inside of.
pub moving : (s : Machine) (n : ℕ) (o : StepDone) (b : Book) (m : Moved s n o) → InvX (channel_at n s.dmac) b → is_active (channel_at n s.dmac).registers.status ≡ true
    → Operating (channel_at n s.dmac).registers.config (channel_at n s.dmac).registers.counters b.gathered m.k (held_list m.h)
moving s n o b m p a = operating (channel_at n s.dmac).phase m.k m.h (channel_at n s.dmac) b.gathered m.phase (p.active a).phased

pub moving_slot : (s : Machine) (n : ℕ) (o : StepDone) (b : Book) (m : Moved s n o) → InvX (channel_at n s.dmac) b → is_active (channel_at n s.dmac).registers.status ≡ true
    → Slotted (is_single (channel_at n s.dmac).registers.config) (is_inward (channel_at n s.dmac).registers.config) (length (held_list m.h))
    m.q.way m.q.side (count_of m.q.word) (drop (m.k + 1) (plan (channel_at n s.dmac).registers.config))
moving_slot s n o b m p a =
    let k = (channel_at n s.dmac).registers.config in
    let f = found m.k (plan k) m.q m.last m.slot in
    let u : runs (is_single k) (is_inward k) (length (held_list m.h)) (m.q ∷ drop (m.k + 1) (plan k)) ≡ true = rw f.first at (moving s n o b m p a).runs_to_come in
    slotted (is_single k) (is_inward k) (length (held_list m.h)) m.q (drop (m.k + 1) (plan k)) u

moved_true : (s : Machine) (n : ℕ) (o : StepDone) (b : Book) (m : Moved s n o) → InvX (channel_at n s.dmac) b → is_active (channel_at n s.dmac).registers.status ≡ true
    → AnswerTrue (Recorded (cycle_record s n m.q m.h)) s (step_made n m.bus (cycle_record s n m.q m.h) (slot_made s n m.q m.last m.k m.h m.done) s).machine
moved_true s n o b m p a =
    let x = channel_at n s.dmac in
    let k = x.registers.config in
    let q = m.q in
    let f = slot_code q x in
    let i = slot_address q x in
    let w = q.word in
    let v = slot_data q n m.h x s.memory s.bank in
    let t = moving_slot s n o b m p a in
    let l = length_got (source_end q k) n f i w m.h s.memory s.bank in
    let r = and_parts _ _ m.ready in
    let e = and_parts _ _ m.answered in
    let mid = bank_got (source_end q k) n w s.bank in
    let new = (step_made n m.bus (cycle_record s n q m.h) (slot_made s n q m.last m.k m.h m.done) s).machine in
    let below = sent_below q.side q.offset x in
    let g = gave_true (is_single k) q.way q.side k n f i w m.h s.memory s.bank t.fit below l r.0 e.0 in
    let h = has_true (is_single k) q.way q.side k n f i w v s.memory mid t.fit below l (ready_still (destination_end q k) (source_end q k) n w s.bank r.1) e.1 in
    let P : ℕ → Type 0 = λ j. Carried n (places_read (is_single k) (is_inward k) k (kind_by q.way k) f i j) (places_written (is_single k) (is_inward k) k (kind_by q.way k) f i j) (bytes_told v) s new in
    kind_true q.way k n f i (bytes_told v) s new
    (subst P (sym l) (record {
      memory_gave = g.memory;
      device_gave = g.device ∙ ap (λ (z : ℕ → List ℕ). device_bytes (places_read (is_single k) (is_inward k) k (kind_by q.way k) f i (count_of w)) (bytes_told v) ++ z n) (sym (put_waiting (destination_end q k) v n mid));
      memory_has = h.memory;
      device_kept = h.device ∙ ap (λ (z : ℕ → List ℕ). z n ++ device_bytes (places_written (is_single k) (is_inward k) k (kind_by q.way k) f i (count_of w)) (bytes_told v)) (got_kept (source_end q k) n w s.bank);
    }))

fetched_true : (s : Machine) (n : ℕ) (o : StepDone) (m : Fetched s n o)
    → AnswerTrue (Recorded (entry_record s n m.ws)) s (step_made n m.bus (entry_record s n m.ws) (entry_made s n m.ws) s).machine
fetched_true s n o m = record {
  memory_gave = word_holds (channel_at n s.dmac).registers.table.bfc (entry_address m.ws (channel_at n s.dmac)) s.memory (omega arith);
  device_gave = refl;
  memory_has = tt;
  device_kept = sym (append-nil (s.bank.kept n));
}

silent_true : (a : Answer) (old new : Machine) → Silent a → AnswerTrue a old new
silent_true Idle old new h = tt
silent_true Waiting old new h = tt
silent_true Halted old new h = tt
silent_true Retry old new h = tt
silent_true Reset old new h = tt
silent_true (Recorded r) old new h = absurd h

outcome_true : (s : Machine) (B : ℕ → Book) (n : ℕ) (o : StepDone) → Kept s B → Serves s.dmac n → Outcome s n o → AnswerTrue o.answer s o.machine
outcome_true s B n o g v (quiet m) = subst (λ (y : StepDone). AnswerTrue y.answer s y.machine) (sym m.is) (silent_true m.says s _ m.silent)
outcome_true s B n o g v (failed m) = subst (λ (y : StepDone). AnswerTrue y.answer s y.machine) (sym m.is) tt
outcome_true s B n o g v (moved m) = subst (λ (y : StepDone). AnswerTrue y.answer s y.machine) (sym m.is) (moved_true s n o (B n) m (g.each n v.is_channel) v.active)
outcome_true s B n o g v (fetched m) = subst (λ (y : StepDone). AnswerTrue y.answer s y.machine) (sym m.is) (fetched_true s n o m)

chosen_true : (h : Option ℕ) (code : ℕ) (done : Bool) (s : Machine) (B : ℕ → Book) → chosen s.dmac ≡ h → Kept s B
    → AnswerTrue (step_chosen h code done s).answer s (step_chosen h code done s).machine
chosen_true None code done s B e g = tt
chosen_true (Some n) code done s B e g = outcome_true s B n (step_on n code done s) g (serves s B n g e) (step_is n code done s)

pub step_true : (code : ℕ) (done : Bool) (s : Machine) (B : ℕ → Book) → Kept s B → ReplyTrue (step_called code done s).reply s (step_called code done s).machine
step_true code done s B g =
    step_cases code done s (λ y. ReplyTrue (replied Stepped y.answer) s y.machine) tt (chosen_true (chosen s.dmac) code done s B refl g) tt
