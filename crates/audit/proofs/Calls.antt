-- Every call keeps the invariant of every channel.
use Rattle.std.proofs.Common.{◌≡◌, ℕ, zero, suc, ◌+◌, ◌/◌, ◌%◌, ◌<◌, Bool, true, false, cond, ◌&&◌, eqb, ltb, List, [], ◌∷◌, length, get_or, set, Some, None, Option, Result, sym, refl, ap, ◌∙◌, subst, arith, length-set}
use Rattle.std.proofs.lemmas.Bool.{cond_both}
use lib.Bits.{bit_and}
use Rattle.refusal.specs.declared.kinds.Refusal.{Refusal}
use Rattle.refusal.specs.declared.kinds.Refusal.TheVariants.{NoRegister, OddWord, StartByWord}
use Rattle.registers.specs.Bits.{any, odd}
use Rattle.registers.specs.Checks.{check}
use Rattle.registers.specs.Config.{is_chained}
use Rattle.registers.specs.Status.{is_active}
use Rattle.registers.specs.declared.groups.Registers.{Registers}
use Rattle.bus.specs.Memory.{MemoryMeaning}
use Rattle.devices.specs.Bank.{BankMeaning}
use Rattle.channel.specs.declared.decode.Access.{Access}
use Rattle.channel.specs.declared.decode.Access.TheVariants.{Nowhere, General}
use Rattle.channel.specs.declared.state.Channel.{Channel}
use Rattle.channel.specs.Decode.{register_at, barred_by}
use Rattle.channel.specs.Requests.{line_set}
use Rattle.channel.specs.State.{blank_channel}
use Rattle.channel.specs.Write.{written}
use Rattle.dmac.specs.declared.controller.Dmac.{Dmac}
use Rattle.dmac.specs.Controller.{new_controller, channel_at}
use Rattle.dmac.specs.Access.{Outcome as Answered, register_of, register_after, reach_of, reach_after, is_nowhere, is_general, is_control, is_no_word, starts_by_word, word_refusal, taken_in, word_taken_in, word_written_by}
use Rattle.dmac.specs.Choice.{chosen}
use Rattle.dmac.specs.Step.{Machine}
use Rattle.audit.specs.Calls.{Call, ReadByte, ReadWord, WriteByte, WriteWord, SetLine, Step, Store, Called, Stepped, done_replied, replied, with_dmac, byte_write_called, word_write_called, line_called, step_called, store_called}
use Rattle.audit.specs.Book.{Book, half_noted, is_done, step_noted, call_noted, settled_before, book_fed}
use Rattle.audit.specs.History.{Past, beginning, registers_of, noted}
use Rattle.audit.proofs.Basics.{no, at_set_alone}
use Rattle.audit.proofs.Inv.{InvX, inv_settled}
use Rattle.audit.proofs.Writes.{passes}
use Rattle.audit.proofs.Words.{Calm, byte_inv, word_inv}
use Rattle.audit.proofs.Map.{not_barred, even_no_control, before_general, general_barred, register_low, reach_low, even_within}
use Rattle.audit.proofs.Steps.{Kept, step_cases, within, channel_goes, chosen_goes, reset_goes}

-- The registers of the channel that a write reaches, and the books of a write into it.
abbrev act : Dmac → ℕ → Bool
act k i = is_active (channel_at i k).registers.status

abbrev chd : Dmac → ℕ → Bool
chd k i = is_chained (channel_at i k).registers.config

abbrev Written : Machine → (ℕ → Book) → ℕ → (Registers → Book → Book) → Dmac → Type 0
Written s B i F k = Kept (with_dmac k s) (λ n. cond (eqb i n) (F (registers_of n s) (B n)) (B n))

-- A write that reaches the general control register leaves every channel and book.
general_goes : (s : Machine) (B : ℕ → Book) (i : ℕ) (F : Registers → Book → Book) (k : Dmac) → k.channels ≡ s.dmac.channels
    → ((r : Registers) (b : Book) → F r b ≡ b) → Kept s B → Written s B i F k
general_goes s B i F k e f g = record {
  four = ap length e ∙ g.four;
  each = λ n h.
      subst (λ (l : List Channel). InvX (get_or l n blank_channel) (cond (eqb i n) (F (registers_of n s) (B n)) (B n))) (sym e)
      (subst (λ (b : Book). InvX (channel_at n s.dmac) b) (sym (ap (λ (y : Book). cond (eqb i n) y (B n)) (f (registers_of n s) (B n)) ∙ cond_both (eqb i n) _ _ (λ (y : Book). y ≡ B n) (λ _. refl) (λ _. refl))) (g.each n h));
}

-- A write into channel i: of the general control register, or of the channel's own.
taken_goes : (i : ℕ) (high low : Access) (vh vl : ℕ) (F : Registers → Book → Book) (s : Machine) (B : ℕ → Book) → Kept s B
    → (is_general low ≡ true → (r : Registers) (b : Book) → F r b ≡ b)
    → (i < 4 → InvX (written high vh low vl (channel_at i s.dmac)) (F (registers_of i s) (B i)))
    → Written s B i F (taken_in i high vh low vl s.dmac)
taken_goes i high low vh vl F s B g f h = go (is_general low) refl
  where
    go : (t : Bool) → is_general low ≡ t
        → Written s B i F (cond t (record { channels = s.dmac.channels; gcr = bit_and vl 0x0F; last = s.dmac.last; bus = s.dmac.bus })
        (record { channels = set s.dmac.channels i (written high vh low vl (channel_at i s.dmac)); gcr = s.dmac.gcr; last = s.dmac.last; bus = s.dmac.bus }))
    go true e = general_goes s B i F _ refl (f e) g
    go false e = record {
      four = length-set s.dmac.channels i (written high vh low vl (channel_at i s.dmac)) ∙ g.four;
      each = channel_goes s B i (written high vh low vl (channel_at i s.dmac)) F g h;
    }

-- A byte.
byte_general : (a : Access) (p q : Bool) (v : ℕ) (r : Registers) (b : Book) → is_general (barred_by a p q) ≡ true → half_noted (barred_by a false false) v r b ≡ b
byte_general a p q v r b e = subst (λ (z : Access). half_noted (barred_by z false false) v r b ≡ b) (sym (general_barred a p q e)) refl

byte_goes : (o v : ℕ) (s : Machine) (B : ℕ → Book) → Kept s B
    → Kept (byte_write_called o v s).machine (λ n. call_noted (WriteByte o v) (byte_write_called o v s).reply n (registers_of n s) (B n))
byte_goes o v s B g =
    cond_both (is_nowhere (register_of o)) _ _
    (λ (y : Answered (Result (Unit {0}) Refusal)). Kept (with_dmac y.state s) (λ n. cond (is_done (done_replied y.answer) && eqb (o / 64) n) (half_noted (register_of o) v (registers_of n s) (B n)) (B n)))
    (λ _. record { four = g.four; each = g.each })
    (λ _. taken_goes (o / 64) Nowhere (reach_of o s.dmac) 0 v (λ r b. half_noted (register_of o) v r b) s B g
    (λ e r b. byte_general (register_at (o / 64) (o % 64)) _ _ v r b e)
    (λ h. byte_inv (register_at (o / 64) (o % 64)) v (channel_at (o / 64) s.dmac) (B (o / 64)) (g.each (o / 64) h)))

-- A word that was not refused.
word_made : (o v : ℕ) (s : Machine) (B : ℕ → Book) → odd o ≡ false → starts_by_word o v ≡ false → Kept s B
    → Written s B (o / 64) (λ r b. half_noted (register_after o) (v % 256) r (half_noted (register_of o) (v / 256) r b)) (word_taken_in o v s.dmac)
word_made o v s B e c g =
    let i = o / 64 in
    let n = o % 64 in
    let x = channel_at i s.dmac in
    let h = register_at i n in
    let l = register_at i (n + 1) in
    let F : Access → Registers → Book → Book = λ a r b. half_noted a (v % 256) r (half_noted (barred_by h false false) (v / 256) r b) in
    let calm : Calm (barred_by l false false) (v % 256) = subst (λ (a : Access). (is_control a && any 0x80 (v % 256)) ≡ false) (register_low o e) c in
    let quiet : is_general (barred_by l (act s.dmac i) (chd s.dmac i)) ≡ true → (r : Registers) (b : Book) → F (barred_by l false false) r b ≡ b =
    λ q r b. both r b (general_barred l _ _ q) in
    subst (λ (a : Access). Written s B i (F a) (taken_in i (reach_of o s.dmac) (v / 256) (reach_after o s.dmac) (v % 256) s.dmac)) (sym (register_low o e))
    (subst (λ (a : Access). Written s B i (F (barred_by l false false)) (taken_in i (reach_of o s.dmac) (v / 256) a (v % 256) s.dmac)) (sym (reach_low o s.dmac e))
    (taken_goes i (barred_by h (act s.dmac i) (chd s.dmac i)) (barred_by l (act s.dmac i) (chd s.dmac i)) (v / 256) (v % 256) (F (barred_by l false false)) s B g quiet
    (λ j. word_inv h l (v / 256) (v % 256) x (B i) (not_barred i n) (not_barred i (n + 1)) (even_no_control i n (even_within o e)) calm (g.each i j))))
  where
    both : (r : Registers) (b : Book) → register_at (o / 64) (o % 64 + 1) ≡ General
        → half_noted (barred_by (register_at (o / 64) (o % 64 + 1)) false false) (v % 256) r (half_noted (barred_by (register_at (o / 64) (o % 64)) false false) (v / 256) r b) ≡ b
    both r b q =
        let p : register_at (o / 64) (o % 64) ≡ Nowhere = before_general (o / 64) (o % 64) (ap is_general q) in
        ap (λ (a : Access). half_noted (barred_by a false false) (v % 256) r (half_noted (barred_by (register_at (o / 64) (o % 64)) false false) (v / 256) r b)) q
        ∙ ap (λ (a : Access). half_noted (barred_by a false false) (v / 256) r b) p

word_goes : (o v : ℕ) (s : Machine) (B : ℕ → Book) → Kept s B
    → Kept (word_write_called o v s).machine (λ n. call_noted (WriteWord o v) (word_write_called o v s).reply n (registers_of n s) (B n))
word_goes o v s B g = go (word_refusal o (starts_by_word o v)) refl
  where
    go : (f : Option Refusal) → word_refusal o (starts_by_word o v) ≡ f
        → Kept (with_dmac (word_written_by f o v s.dmac).state s)
        (λ n. cond (is_done (done_replied (word_written_by f o v s.dmac).answer) && eqb (o / 64) n) (half_noted (register_after o) (v % 256) (registers_of n s) (half_noted (register_of o) (v / 256) (registers_of n s) (B n))) (B n))
    go (Some f) e = record { four = g.four; each = g.each }
    go None e =
        let p = passes (check (is_no_word o) NoRegister ∷ check (odd o) OddWord ∷ check (starts_by_word o v) StartByWord ∷ []) e in
        word_made o v s B p.1.0 p.1.1.0 g

-- A request line.
line_goes : (n : ℕ) (on : Bool) (s : Machine) (B : ℕ → Book) → Kept s B → Kept (line_called n on s).machine B
line_goes n on s B g =
    cond_both (ltb n 4) _ _ (λ (y : Answered (Result (Unit {0}) Refusal)). Kept (with_dmac y.state s) B)
    (λ _. record {
      four = length-set s.dmac.channels n (line_set on (channel_at n s.dmac)) ∙ g.four;
      each = λ d h. at_set_alone (λ x. InvX x (B d)) s.dmac.channels n d (line_set on (channel_at n s.dmac)) blank_channel (within s B d g h)
          (λ e. subst (λ (m : ℕ). InvX (channel_at m s.dmac) (B d)) (sym e) (g.each d h)) (g.each d h);
    })
    (λ _. record { four = g.four; each = g.each })

-- A step.
step_goes : (code : ℕ) (done : Bool) (s : Machine) (B : ℕ → Book) → Kept s B
    → Kept (step_called code done s).machine (λ n. step_noted (step_called code done s).reply n (registers_of n s) (B n))
step_goes code done s B g =
    step_cases code done s (λ y. Kept y.machine (λ n. step_noted (replied Stepped y.answer) n (registers_of n s) (B n)))
    (reset_goes s B g) (chosen_goes (chosen s.dmac) code done s B refl g) (record { four = g.four; each = g.each })

-- The books before the call, with nothing gathered where the channel is not active.
pub settled_kept : (s : Machine) (B : ℕ → Book) → Kept s B → Kept s (λ n. settled_before (registers_of n s) (B n))
settled_kept s B g = record { four = g.four; each = λ n h. inv_settled (channel_at n s.dmac) (B n) (g.each n h) }

-- Each call, as the history notes it.
abbrev After : Call → Called → Past → Type 0
After c o p = Kept (noted c o p).machine (noted c o p).books

pub read_byte_kept : (o : ℕ) (x : Called) (p : Past) → x.machine ≡ p.machine → Kept p.machine p.books → After (ReadByte o) x p
unfolding book_fed
read_byte_kept o x p e g = subst (λ (s : Machine). Kept s (λ n. settled_before (registers_of n p.machine) (p.books n))) (sym e) (settled_kept p.machine p.books g)

pub read_word_kept : (o : ℕ) (x : Called) (p : Past) → x.machine ≡ p.machine → Kept p.machine p.books → After (ReadWord o) x p
unfolding book_fed
read_word_kept o x p e g = subst (λ (s : Machine). Kept s (λ n. settled_before (registers_of n p.machine) (p.books n))) (sym e) (settled_kept p.machine p.books g)

pub write_byte_kept : (o v : ℕ) (p : Past) → Kept p.machine p.books → After (WriteByte o v) (byte_write_called o v p.machine) p
unfolding book_fed
write_byte_kept o v p g = byte_goes o v p.machine _ (settled_kept p.machine p.books g)

pub write_word_kept : (o v : ℕ) (p : Past) → Kept p.machine p.books → After (WriteWord o v) (word_write_called o v p.machine) p
unfolding book_fed
write_word_kept o v p g = word_goes o v p.machine _ (settled_kept p.machine p.books g)

pub line_kept : (n : ℕ) (on : Bool) (p : Past) → Kept p.machine p.books → After (SetLine n on) (line_called n on p.machine) p
unfolding book_fed
line_kept n on p g = line_goes n on p.machine _ (settled_kept p.machine p.books g)

pub step_kept : (code : ℕ) (done : Bool) (p : Past) → Kept p.machine p.books → After (Step code done) (step_called code done p.machine) p
unfolding book_fed
step_kept code done p g = step_goes code done p.machine _ (settled_kept p.machine p.books g)

pub store_kept : (c a v : ℕ) (p : Past) → Kept p.machine p.books → After (Store c a v) (store_called c a v p.machine) p
unfolding book_fed
store_kept c a v p g = let k = settled_kept p.machine p.books g in record { four = k.four; each = k.each }

-- At the beginning.
pub beginning_kept : (m : MemoryMeaning) (b : BankMeaning) → Kept (beginning m b).machine (beginning m b).books
beginning_kept m b = record { four = refl; each = each }
  where
    each : (n : ℕ) → n < 4 → InvX (channel_at n new_controller) ((beginning m b).books n)
    each zero h = record { lacks = λ s. no s; active = λ f. no f; quiet = λ f. refl; faithful = tt; past = []; ever = refl }
    each (suc zero) h = record { lacks = λ s. no s; active = λ f. no f; quiet = λ f. refl; faithful = tt; past = []; ever = refl }
    each (suc (suc zero)) h = record { lacks = λ s. no s; active = λ f. no f; quiet = λ f. refl; faithful = tt; past = []; ever = refl }
    each (suc (suc (suc zero))) h = record { lacks = λ s. no s; active = λ f. no f; quiet = λ f. refl; faithful = tt; past = []; ever = refl }
    each (suc (suc (suc (suc n)))) h = absurd (omega arith)
