-- An error is confined to its channel, which after a bus error stands at the operand or the entry.
use Rattle.std.proofs.Common.{◌≡◌, ℕ, zero, suc, ◌+◌, ◌<◌, Bool, true, ◌⊎◌, length, Some, None, Ok, Option, Result, sym, refl, ap, ◌∙◌, subst, inl, inr, ⊎_elim, add-one, arith, length-append, get_or-set_other, get_or-set_same}
use Rattle.refusal.specs.declared.kinds.Refusal.{Refusal}
use Rattle.registers.specs.Config.{next_mar, next_dar}
use Rattle.registers.specs.Status.{is_active}
use Rattle.registers.specs.declared.fault.Fault.{Fault}
use Rattle.registers.specs.declared.fault.Fault.TheVariants.{BaseAddress, MemoryBus, DeviceBus, BaseBus}
use Rattle.channel.specs.declared.state.Channel.{Channel}
use Rattle.channel.specs.State.{blank_channel, channel_failed}
use Rattle.cycle.specs.declared.record.Record.TheVariants.{Error}
use Rattle.dmac.specs.declared.answer.Answer.{Answer}
use Rattle.dmac.specs.declared.answer.Answer.TheVariants.{Recorded}
use Rattle.dmac.specs.Controller.{channel_at}
use Rattle.dmac.specs.Choice.{chosen}
use Rattle.dmac.specs.Step.{Machine, Stepped as StepDone, step_failed, step_chosen, step_on}
use Rattle.audit.specs.Operand.{operand, operands}
use Rattle.audit.specs.Calls.{Step, Reply, Stepped, replied, step_called}
use Rattle.audit.specs.Book.{Book, answer_noted, settled_before, book_fed}
use Rattle.audit.specs.History.{Past, registers_of, stepped, noted}
use Rattle.audit.specs.Law.{Stands, TouchesOnly, word_addresses}
use Rattle.audit.proofs.Inv.{words_list, InvX, reading_chained}
use Rattle.audit.proofs.Outcome.{Silent, Outcome, quiet, failed, moved, fetched, InOperand, InEntry, operating, entering, step_is}
use Rattle.audit.proofs.Chosen.{Serves}
use Rattle.audit.proofs.Steps.{step_cases, Kept, within, serves}
use Rattle.audit.proofs.Calls.{settled_kept}

addresses_length : (bar n : ℕ) → length (word_addresses bar n) ≡ n
addresses_length bar zero = refl
addresses_length bar (suc n) = length-append (word_addresses bar n) _ ∙ ap (λ (k : ℕ). k + 1) (addresses_length bar n) ∙ add-one n

-- The registers of a failed channel that the lists go by are as they were.
stands_operand : (s : Machine) (n : ℕ) (f : Fault) (b : Book) → InvX (channel_at n s.dmac) b → is_active (channel_at n s.dmac).registers.status ≡ true
    → InOperand s n f → Stands f b (registers_of n s) (channel_failed f (channel_at n s.dmac)).registers
unfolding operand
stands_operand s n f b p a w =
    let x = channel_at n s.dmac in
    let c = x.registers.config in
    let k = x.registers.counters in
    let o = operating x.phase w.k w.h x b.gathered w.phase (p.active a).phased in (
      λ t. record {
        next = operand c k.mfc k.mar k.dar;
        rest = operands c k.mfc (next_mar c k.mar) (next_dar c k.dar) o.left;
        first_left = rw o.some_left at (p.active a).lists;
        mar_stands = refl;
        dar_stands = refl;
      },
      λ t. absurd (off w.code t),
    )
  where
    off : (f ≡ MemoryBus) ⊎ (f ≡ DeviceBus) → f ≡ BaseBus → ⊥
    off (inl u) v = let z : ◌≡◌ {A = ℕ} 0 1 = cc in omega arith
    off (inr u) v = let z : ◌≡◌ {A = ℕ} 0 1 = cc in omega arith

stands_entry : (s : Machine) (n : ℕ) (f : Fault) (b : Book) → InvX (channel_at n s.dmac) b → is_active (channel_at n s.dmac).registers.status ≡ true
    → InEntry s n f → Stands f b (registers_of n s) (channel_failed f (channel_at n s.dmac)).registers
stands_entry s n f b p a w =
    let x = channel_at n s.dmac in
    let r = entering x.phase w.ws x b.gathered w.phase (p.active a).phased in (
      λ t. absurd (off t w.code),
      λ t. record {
        table_stands = refl;
        base_stands = (p.active a).base_stands (reading_chained x.registers.config (length (words_list w.ws)) r.short);
        read_there = r.words_at ∙ ap (λ (m : ℕ). word_addresses x.registers.table.bar m) (sym (ap length r.words_at ∙ addresses_length x.registers.table.bar (length (words_list w.ws))));
      },
    )
  where
    off : (f ≡ MemoryBus) ⊎ (f ≡ DeviceBus) → (f ≡ BaseAddress) ⊎ (f ≡ BaseBus) → ⊥
    off (inl u) (inl v) = let z : ◌≡◌ {A = ℕ} 0 1 = cc in omega arith
    off (inl u) (inr v) = let z : ◌≡◌ {A = ℕ} 0 1 = cc in omega arith
    off (inr u) (inl v) = let z : ◌≡◌ {A = ℕ} 0 1 = cc in omega arith
    off (inr u) (inr v) = let z : ◌≡◌ {A = ℕ} 0 1 = cc in omega arith

-- What an error of channel n says of a machine and its step.
record Struck (s : Machine) (B : ℕ → Book) (o : StepDone) (n : ℕ) (f : Fault) : Type 0 where
  is_channel : n < 4
  others : (d : ℕ) → (d ≡ n → ⊥) → channel_at d o.machine.dmac ≡ channel_at d s.dmac
  stands : Stands f (answer_noted o.answer n (registers_of n s) (B n)) (registers_of n s) (registers_of n o.machine)

struck : (s : Machine) (B : ℕ → Book) (n : ℕ) (f : Fault) → Kept s B → Serves s.dmac n → InOperand s n f ⊎ InEntry s n f → Struck s B (step_failed n f s) n f
struck s B n f g v w =
    let x = channel_at n s.dmac in
    let p = g.each n v.is_channel in
    record {
      is_channel = v.is_channel;
      others = λ d e. get_or-set_other s.dmac.channels n d (channel_failed f x) blank_channel e;
      stands = subst (λ (y : Channel). Stands f (B n) (registers_of n s) y.registers)
          (sym (get_or-set_same s.dmac.channels n (channel_failed f x) blank_channel (within s B n g v.is_channel)))
          (⊎_elim (stands_operand s n f (B n) p v.active) (stands_entry s n f (B n) p v.active) w);
    }

-- An answer that is an error.
silent_no : {A : Type 0} (a : Answer) (n : ℕ) (f : Fault) → Silent a → a ≡ Recorded (Error n f) → A
silent_no a n f h e = absurd (subst (λ (y : Answer). Silent y) e h)

outcome_struck : (s : Machine) (B : ℕ → Book) (d : ℕ) (o : StepDone) (n : ℕ) (f : Fault) → Kept s B → Serves s.dmac d → Outcome s d o
    → o.answer ≡ Recorded (Error n f) → Struck s B o n f
outcome_struck s B d o n f g v (quiet m) e = silent_no m.says n f m.silent (sym (ap (λ (y : StepDone). y.answer) m.is) ∙ e)
outcome_struck s B d o n f g v (moved m) e = let q = ap (λ (y : StepDone). y.answer) m.is in let z : ◌≡◌ {A = ℕ} 0 1 = cc (q, e) in absurd (omega arith)
outcome_struck s B d o n f g v (fetched m) e = let q = ap (λ (y : StepDone). y.answer) m.is in let z : ◌≡◌ {A = ℕ} 0 1 = cc (q, e) in absurd (omega arith)
outcome_struck s B d o n f g v (failed m) e =
    let q : Recorded (Error d m.fault) ≡ Recorded (Error n f) = sym (ap (λ (y : StepDone). y.answer) m.is) ∙ e in
    let a : d ≡ n = cc in
    let b : m.fault ≡ f = cc in
    subst (λ (y : StepDone). Struck s B y n f) (sym m.is)
    (subst (λ (k : ℕ). Struck s B (step_failed d m.fault s) k f) a
    (subst (λ (k : Fault). Struck s B (step_failed d m.fault s) d k) b (struck s B d m.fault g v m.where_at)))

chosen_struck : (h : Option ℕ) (code : ℕ) (done : Bool) (s : Machine) (B : ℕ → Book) (n : ℕ) (f : Fault) → chosen s.dmac ≡ h → Kept s B
    → (step_chosen h code done s).answer ≡ Recorded (Error n f) → Struck s B (step_chosen h code done s) n f
chosen_struck None code done s B n f q g e = absurd cc
chosen_struck (Some d) code done s B n f q g e = outcome_struck s B d (step_on d code done s) n f g (serves s B d g q) (step_is d code done s) e

pub errors_touch : (code : ℕ) (done : Bool) (n : ℕ) (f : Fault) (p : Past) → Kept p.machine p.books
    → (step_called code done p.machine).reply ≡ Ok (Stepped (Recorded (Error n f))) → TouchesOnly n f p (stepped code done p)
unfolding book_fed
errors_touch code done n f p g e =
    step_cases code done p.machine
    (λ y. replied Stepped y.answer ≡ Ok (Stepped (Recorded (Error n f))) → TouchesOnly n f p (noted (Step code done) (record { machine = y.machine; reply = replied Stepped y.answer }) p))
    (λ q. absurd cc) chosen_one (λ q. absurd cc) e
  where
    chosen_one : ◌≡◌ {A = Result Reply Refusal} (Ok (Stepped (step_chosen (chosen p.machine.dmac) code done p.machine).answer)) (Ok (Stepped (Recorded (Error n f))))
        → TouchesOnly n f p (noted (Step code done) (record {
          machine = (step_chosen (chosen p.machine.dmac) code done p.machine).machine;
          reply = Ok (Stepped (step_chosen (chosen p.machine.dmac) code done p.machine).answer);
        }) p)
    chosen_one q =
        let k = chosen_struck (chosen p.machine.dmac) code done p.machine (λ d. settled_before (registers_of d p.machine) (p.books d)) n f refl (settled_kept p.machine p.books g) cc in
        record { is_channel = k.is_channel; others = k.others; stands = k.stands }
