-- A bus step keeps the invariant of every channel.
use Rattle.std.proofs.Common.{◌≡◌, ℕ, zero, suc, ◌+◌, ◌<◌, Bool, true, false, cond, eqb, ltb, List, [], ◌∷◌, length, get_or, drop, set, Some, Err, None, Option, sym, refl, ap, ◌∙◌, subst, add-one, arith, length-set, drop_of_length-le, drop-cons}
use Rattle.std.proofs.lemmas.Bool.{eqb-true, eqb-false, ltb-true, cond_both}
use Rattle.refusal.specs.declared.kinds.Refusal.TheVariants.{NoException}
use Rattle.registers.specs.Status.{is_active}
use Rattle.registers.specs.declared.fault.Fault.{Fault}
use Rattle.registers.specs.declared.groups.Config.{Config}
use Rattle.registers.specs.declared.groups.Registers.{Registers}
use Rattle.bus.specs.Memory.{MemoryMeaning}
use Rattle.devices.specs.Bank.{BankMeaning}
use Rattle.channel.specs.declared.state.Channel.{Channel}
use Rattle.channel.specs.declared.state.Held.{Held}
use Rattle.channel.specs.State.{blank_channel, channel_failed, channel_reset}
use Rattle.cycle.specs.declared.plan.Way.{Way}
use Rattle.cycle.specs.declared.plan.Way.TheVariants.{Source, Destination, Through}
use Rattle.cycle.specs.declared.plan.Side.{Side}
use Rattle.cycle.specs.declared.plan.Side.TheVariants.{Memory}
use Rattle.cycle.specs.declared.plan.Slot.{Slot}
use Rattle.cycle.specs.Held.{held_first}
use Rattle.cycle.specs.Plan.{plan, slot}
use Rattle.cycle.specs.Carry.{data_got, source_end_by, source_end, slot_code, slot_address}
use Rattle.cycle.specs.Serve.{slot_at, kind_by, slot_data, entry_address}
use Rattle.dmac.specs.declared.answer.Answer.{Answer}
use Rattle.dmac.specs.declared.answer.Answer.TheVariants.{Reset, Idle as IdleAnswer, Halted, Retry, Waiting, Recorded}
use Rattle.dmac.specs.Controller.{channel_at, controller_reset}
use Rattle.dmac.specs.Choice.{chosen}
use Rattle.dmac.specs.Step.{Machine, Stepped, Called, called, step_taken, step_quiet, step_failed, step_chosen, step_on, step_reset, is_exception}
use Rattle.audit.specs.Book.{Book, answer_noted, cycle_noted, word_noted, bytes_told}
use Rattle.audit.specs.History.{registers_of}
use Rattle.audit.proofs.Basics.{at_set, at_set_alone}
use Rattle.audit.proofs.Inv.{InvX, inv_stop}
use Rattle.audit.proofs.Writes.{fail_inv}
use Rattle.audit.proofs.Flow.{length_got}
use Rattle.audit.proofs.Carry.{carried_inv}
use Rattle.audit.proofs.Entries.{entry_inv}
use Rattle.audit.proofs.Outcome.{Silent, Outcome, quiet, failed, moved, fetched, Moved, slot_made, entry_made, entry_high, entry_low, operating, entering, step_is}
use Rattle.audit.proofs.Chosen.{Serves, chosen_serves}

-- There are four channels, and the invariant holds of each with its book.
pub record Kept (s : Machine) (B : ℕ → Book) : Type 0 where
  pub four : length s.dmac.channels ≡ 4
  pub each : (n : ℕ) → n < 4 → InvX (channel_at n s.dmac) (B n)

-- After a step each book was fed with what the step answered.
abbrev pub Goes : Machine → (ℕ → Book) → Stepped → Type 0
Goes s B o = Kept o.machine (λ n. answer_noted o.answer n (registers_of n s) (B n))

pub within : (s : Machine) (B : ℕ → Book) (d : ℕ) → Kept s B → d < 4 → d < length s.dmac.channels
within s B d g h = subst (λ (m : ℕ). d < m) (sym g.four) h

silent_book : (a : Answer) (n : ℕ) (r : Registers) (b : Book) → Silent a → answer_noted a n r b ≡ b
silent_book IdleAnswer n r b h = refl
silent_book Waiting n r b h = refl
silent_book Halted n r b h = refl
silent_book Retry n r b h = refl
silent_book Reset n r b h = refl
silent_book (Recorded x) n r b h = absurd h

quiet_goes : (s : Machine) (B : ℕ → Book) (bus : Bool) (a : Answer) → Silent a → Kept s B → Goes s B (step_quiet bus a s)
quiet_goes s B bus a q g = record {
  four = g.four;
  each = λ n h. rw (silent_book a n (registers_of n s) (B n) q) (g.each n h);
}

failed_goes : (s : Machine) (B : ℕ → Book) (n : ℕ) (f : Fault) → Kept s B → Goes s B (step_failed n f s)
failed_goes s B n f g = record {
  four = length-set s.dmac.channels n (channel_failed f (channel_at n s.dmac)) ∙ g.four;
  each = λ d h. at_set_alone (λ x. InvX x (B d)) s.dmac.channels n d (channel_failed f (channel_at n s.dmac)) blank_channel (within s B d g h)
      (λ e. subst (λ (m : ℕ). InvX (channel_failed f (channel_at n s.dmac)) (B m)) e (fail_inv f (channel_at n s.dmac) (B n) (g.each n (subst (λ (m : ℕ). m < 4) (sym e) h))))
      (g.each d h);
}

-- A cycle of channel n: its new state, and its own book.
pub channel_goes : (s : Machine) (B : ℕ → Book) (n : ℕ) (x : Channel) (F : Registers → Book → Book) → Kept s B
    → (n < 4 → InvX x (F (registers_of n s) (B n)))
    → (d : ℕ) → d < 4 → InvX (get_or (set s.dmac.channels n x) d blank_channel) (cond (eqb n d) (F (registers_of d s) (B d)) (B d))
channel_goes s B n x F g k d h =
    at_set InvX s.dmac.channels n d x blank_channel (F (registers_of d s) (B d)) (B d) (within s B d g h)
    (λ e. subst (λ (m : ℕ). InvX x (F (registers_of m s) (B m))) e (k (subst (λ (m : ℕ). m < 4) (sym e) h))) (g.each d h)

-- The slot that was found is the first of those to come, and the last if none comes after it.
pub record Found (k : ℕ) (l : List Slot) (q : Slot) (last : Bool) : Type 0 where
  pub first : drop k l ≡ q ∷ drop (k + 1) l
  pub if_last : last ≡ true → drop (k + 1) l ≡ []
  pub if_not : last ≡ false → (q' : Slot) × (qs : List Slot) × (drop (k + 1) l ≡ q' ∷ qs)

found_by : (k : ℕ) (l : List Slot) (z : Slot) → k < length l → Found k l (get_or l k z) (eqb (k + 1) (length l))
found_by k l z h = record {
  first = drop-cons l k z h ∙ ap (λ (m : ℕ). get_or l k z ∷ drop m l) (sym (add-one k));
  if_last = λ e. let p = eqb-true (k + 1) (length l) e in drop_of_length-le l (omega arith);
  if_not = λ e. let p = eqb-false (k + 1) (length l) e in let more : k + 1 < length l = omega arith in (get_or l (k + 1) z, drop (suc (k + 1)) l, drop-cons l (k + 1) z more);
}

pub found : (k : ℕ) (l : List Slot) (q : Slot) (last : Bool) → slot_at k l ≡ Some (q, last) → Found k l q last
found k l q last e = go (ltb k (length l)) refl e
  where
    go : (t : Bool) → ltb k (length l) ≡ t → cond {A = Option (Slot × Bool)} t (Some (get_or l k (slot Source Memory 0 false), eqb (k + 1) (length l))) None ≡ Some (q, last) → Found k l q last
    go true p r =
        let pair : ◌≡◌ {A = Slot × Bool} (get_or l k (slot Source Memory 0 false), eqb (k + 1) (length l)) (q, last) = cc in
        let both : Slot × Bool → Type 0 = λ z. Found k l z.0 z.1 in
        subst both pair (found_by k l (slot Source Memory 0 false) (ltb-true k (length l) p))
    go false p r = absurd cc

-- A destination cycle writes what was held first.
held_data : (y : Way) (i : Side) (k : Config) (n f a : ℕ) (w : Bool) (h : Held) (m : MemoryMeaning) (b : BankMeaning)
    → y ≡ Destination → data_got (source_end_by y i k) n f a w h m b ≡ held_first w h
held_data Source i k n f a w h m b e = absurd cc
held_data Destination i k n f a w h m b e = refl
held_data Through i k n f a w h m b e = absurd cc

moved_inv : (s : Machine) (n : ℕ) (o : Stepped) (b : Book) (m : Moved s n o) → InvX (channel_at n s.dmac) b → is_active (channel_at n s.dmac).registers.status ≡ true
    → InvX (slot_made s n m.q m.last m.k m.h m.done).channel
    (cycle_noted (kind_by m.q.way (channel_at n s.dmac).registers.config) (slot_code m.q (channel_at n s.dmac)) (slot_address m.q (channel_at n s.dmac))
    (bytes_told (slot_data m.q n m.h (channel_at n s.dmac) s.memory s.bank)) (channel_at n s.dmac).registers b)
moved_inv s n o b m p a =
    let x = channel_at n s.dmac in
    let q = m.q in
    let f = found m.k (plan x.registers.config) q m.last m.slot in
    carried_inv m.last m.k m.h m.done q (slot_data q n m.h x s.memory s.bank) x b p a
    (operating x.phase m.k m.h x b.gathered m.phase (p.active a).phased)
    f.first f.if_last f.if_not
    (length_got (source_end q x.registers.config) n (slot_code q x) (slot_address q x) q.word m.h s.memory s.bank)
    (held_data q.way q.side x.registers.config n (slot_code q x) (slot_address q x) q.word m.h s.memory s.bank)

outcome_goes : (s : Machine) (B : ℕ → Book) (n : ℕ) (o : Stepped) → Kept s B → Serves s.dmac n → Outcome s n o → Goes s B o
outcome_goes s B n o g v (quiet m) = subst (λ (y : Stepped). Goes s B y) (sym m.is) (quiet_goes s B m.bus m.says m.silent g)
outcome_goes s B n o g v (failed m) = subst (λ (y : Stepped). Goes s B y) (sym m.is) (failed_goes s B n m.fault g)
outcome_goes s B n o g v (moved m) =
    let x = channel_at n s.dmac in
    let w = slot_data m.q n m.h x s.memory s.bank in
    subst (λ (y : Stepped). Goes s B y) (sym m.is) (record {
      four = length-set s.dmac.channels n (slot_made s n m.q m.last m.k m.h m.done).channel ∙ g.four;
      each = channel_goes s B n (slot_made s n m.q m.last m.k m.h m.done).channel
          (λ r b. cycle_noted (kind_by m.q.way x.registers.config) (slot_code m.q x) (slot_address m.q x) (bytes_told w) r b) g
          (λ h. moved_inv s n o (B n) m (g.each n h) v.active);
    })
outcome_goes s B n o g v (fetched m) =
    let x = channel_at n s.dmac in
    subst (λ (y : Stepped). Goes s B y) (sym m.is) (record {
      four = length-set s.dmac.channels n (entry_made s n m.ws).channel ∙ g.four;
      each = channel_goes s B n (entry_made s n m.ws).channel
          (λ r b. word_noted (entry_address m.ws x) (entry_high s n m.ws ∷ entry_low s n m.ws ∷ []) r b) g
          (λ h. entry_inv (entry_high s n m.ws) (entry_low s n m.ws) m.ws x (B n) (g.each n h) v.active
          (entering x.phase m.ws x (B n).gathered m.phase ((g.each n h).active v.active).phased));
    })

pub serves : (s : Machine) (B : ℕ → Book) (n : ℕ) → Kept s B → chosen s.dmac ≡ Some n → Serves s.dmac n
serves s B n g e = chosen_serves s.dmac n (λ d h. (g.each d h).quiet) e

-- A call of a step resets the controller, is the step of the chosen channel, or is refused.
pub step_cases : (code : ℕ) (done : Bool) (s : Machine) (P : Called Answer → Type 0)
    → P (called (step_reset s)) → P (called (step_chosen (chosen s.dmac) code done s)) → P (record { machine = s; answer = Err NoException })
    → P (step_taken code done s)
step_cases code done s P reset stepped refused =
    cond_both (is_exception code) _ _ P (λ _. cond_both (eqb code 0) _ _ P (λ _. reset) (λ _. stepped)) (λ _. refused)

pub chosen_goes : (o : Option ℕ) (code : ℕ) (done : Bool) (s : Machine) (B : ℕ → Book) → chosen s.dmac ≡ o → Kept s B → Goes s B (step_chosen o code done s)
chosen_goes None code done s B e g = quiet_goes s B false IdleAnswer tt g
chosen_goes (Some n) code done s B e g = outcome_goes s B n (step_on n code done s) g (serves s B n g e) (step_is n code done s)

-- A reset keeps the counters and stops every channel.
reset_inv : (x : Channel) (b : Book) → InvX x b → InvX (channel_reset x) b
reset_inv x b h = inv_stop _ _ _ refl h

pub reset_goes : (s : Machine) (B : ℕ → Book) → Kept s B → Kept (step_reset s).machine B
reset_goes s B g = record { four = refl; each = each }
  where
    each : (n : ℕ) → n < 4 → InvX (channel_at n (controller_reset s.dmac)) (B n)
    each zero h = reset_inv (channel_at 0 s.dmac) (B 0) (g.each 0 h)
    each (suc zero) h = reset_inv (channel_at 1 s.dmac) (B 1) (g.each 1 h)
    each (suc (suc zero)) h = reset_inv (channel_at 2 s.dmac) (B 2) (g.each 2 h)
    each (suc (suc (suc zero))) h = reset_inv (channel_at 3 s.dmac) (B 3) (g.each 3 h)
    each (suc (suc (suc (suc n)))) h = absurd (omega arith)
