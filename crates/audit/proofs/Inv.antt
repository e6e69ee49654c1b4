-- The invariant of a channel and its book. It goes by groups of registers, so that a change of any other needs no proof.
use Rattle.std.proofs.Common.{◌≡◌, ℕ, zero, suc, ◌/◌, ◌<◌, ◌≤◌, Bool, true, false, cond, not, ◌&&◌, eqb, List, [], ◌∷◌, ◌++◌, length, drop, sym, refl, ap, ◌∙◌, subst, append-nil, arith, length-append}
use lib.Bits.{and_le_r}
use Rattle.std.proofs.lemmas.Bool.{eqb-false, leb-true, leb-false, ne_eqb}
use Rattle.registers.specs.Config.{is_single, is_inward, is_port16, is_chained, is_misplaced, chain_field, chain_of, next_mar, next_dar}
use Rattle.registers.specs.Status.{is_active}
use Rattle.registers.specs.declared.groups.Config.{Config}
use Rattle.registers.specs.declared.groups.Counters.{Counters}
use Rattle.registers.specs.declared.groups.Table.{Table}
use Rattle.registers.specs.declared.groups.Registers.{Registers}
use Rattle.registers.specs.declared.groups.Chain.TheVariants.{Plain, Array, Linked}
use Rattle.channel.specs.declared.state.Channel.{Channel}
use Rattle.channel.specs.declared.state.Phase.{Phase}
use Rattle.channel.specs.declared.state.Phase.TheVariants.{Idle, Fetching, Inside}
use Rattle.channel.specs.declared.state.Held.{Held}
use Rattle.channel.specs.declared.state.Held.TheVariants.{NoByte, OneByte, TwoBytes}
use Rattle.channel.specs.declared.state.Words.{Words}
use Rattle.channel.specs.declared.state.Words.TheVariants.{NoWord, OneWord, TwoWords, ThreeWords, FourWords}
use Rattle.cycle.specs.Plan.{plan}
use Rattle.audit.specs.Operand.{Operand, operands, dar_after}
use Rattle.audit.specs.Book.{Book, Gathered, nothing_gathered, with_gathered, recounted, settled_before, words_of_entry}
use Rattle.audit.specs.Law.{EachOf, Faithful, DeliveredBeginsNamed, word_addresses}
use Rattle.audit.proofs.Basics.{no}
use Rattle.audit.proofs.Plan.{all_froms, all_tos, runs}

-- What a channel holds, as lists.
abbrev pub held_list : Held → List ℕ
held_list NoByte = []
held_list (OneByte a) = a ∷ []
held_list (TwoBytes a b) = a ∷ b ∷ []

abbrev pub words_list : Words → List ℕ
words_list NoWord = []
words_list (OneWord a) = a ∷ []
words_list (TwoWords a b) = a ∷ b ∷ []
words_list (ThreeWords a b x) = a ∷ b ∷ x ∷ []
words_list (FourWords a b x y) = a ∷ b ∷ x ∷ y ∷ []

-- k cycles into an operand with the bytes hs held: what was gathered and what is to come are the whole plan, what was
-- written and what is held is what was given, and the cycles to come can be carried out.
pub record Operating (c : Config) (n : Counters) (g : Gathered) (k : ℕ) (hs : List ℕ) : Type 0 where
  pub left : ℕ
  pub some_left : n.mtc ≡ suc left
  pub memory_even : is_misplaced c n.mar ≡ false
  pub at_from : g.froms ++ all_froms c n (is_single c) (is_inward c) (drop k (plan c)) ≡ all_froms c n (is_single c) (is_inward c) (plan c)
  pub at_to : g.tos ++ all_tos c n (is_single c) (is_inward c) (drop k (plan c)) ≡ all_tos c n (is_single c) (is_inward c) (plan c)
  pub flow : g.wrote ++ hs ≡ g.gave
  pub wrote_all : length g.wrote ≡ length g.tos
  pub gave_all : length g.gave ≡ length g.froms
  pub runs_to_come : runs (is_single c) (is_inward c) (length hs) (drop k (plan c)) ≡ true
  pub no_words : g.words ≡ []
  pub no_addresses : g.words_at ≡ []

-- Inside a table entry, with the words ws read.
pub record Reading (c : Config) (n : Counters) (t : Table) (g : Gathered) (ws : List ℕ) : Type 0 where
  pub none_left : n.mtc ≡ 0
  pub words_are : g.words ≡ ws
  pub words_at : g.words_at ≡ word_addresses t.bar (length ws)
  pub short : length ws < words_of_entry (chain_of c)

abbrev pub Phased : Phase → Config → Counters → Table → Gathered → Type 0
Phased Idle c n t g = Operating c n g 0 []
Phased (Inside k h done) c n t g = Operating c n g k (held_list h)
Phased (Fetching ws) c n t g = Reading c n t g (words_list ws)

-- An active channel: what is named and not delivered are the operands from its address registers on, as many as its
-- counter shows, and its DAR is the start's, moved on once for each delivery.
pub record Active (c : Config) (n : Counters) (t : Table) (ph : Phase) (b : Book) : Type 0 where
  pub counted : b.counted ≡ true
  pub lists : b.named ≡ b.delivered ++ operands c n.mfc n.mar n.dar n.mtc
  pub dar_stands : n.dar ≡ dar_after c b.start_dar (length b.delivered)
  pub device_even : (not (is_single c) && (is_port16 c && is_misplaced c n.dar)) ≡ false
  pub base_stands : is_chained c ≡ true → t.bar ≡ b.entry_at
  pub phased : Phased ph c n t b.gathered

-- The delivered list begins the named one and lacks m operands.
pub record Lacks (named delivered : List Operand) (m : ℕ) : Type 0 where
  pub rest : List Operand
  pub begins : named ≡ delivered ++ rest
  pub lacks : length rest ≡ m

pub record Inv (c : Config) (n : Counters) (t : Table) (a : Bool) (ph : Phase) (b : Book) : Type 0 where
  pub lacks : b.counted ≡ true → Lacks b.named b.delivered n.mtc
  pub active : a ≡ true → Active c n t ph b
  pub quiet : a ≡ false → ph ≡ Idle
  pub faithful : EachOf Faithful b.log
  pub past : List Operand
  pub ever : b.ever ≡ past ++ b.named

abbrev pub InvX : Channel → Book → Type 0
InvX x b = Inv x.registers.config x.registers.counters x.registers.table (is_active x.registers.status) x.phase b

-- The activity of a channel, told another way.
pub inv_active : {c : Config} {n : Counters} {t : Table} {a a' : Bool} {ph : Phase} {b : Book} → a' ≡ a → Inv c n t a ph b → Inv c n t a' ph b
inv_active {c} {n} {t} {a} {a'} {ph} {b} e h = subst (λ (z : Bool). Inv c n t z ph b) (sym e) h

-- A channel that stops keeps its counter; all else may change.
pub inv_stop : {c : Config} {n : Counters} {t : Table} {a : Bool} {ph : Phase} {b : Book} (c' : Config) (n' : Counters) (t' : Table)
    → n'.mtc ≡ n.mtc → Inv c n t a ph b → Inv c' n' t' false Idle b
inv_stop {b = b} c' n' t' e h = record {
  lacks = λ s. subst (λ (m : ℕ). Lacks b.named b.delivered m) (sym e) (h.lacks s);
  active = λ f. no f;
  quiet = λ f. refl;
  faithful = h.faithful;
  past = h.past;
  ever = h.ever;
}

-- While a channel is not active its registers may change, the counter apart.
pub inv_quiet : {c : Config} {n : Counters} {t : Table} {a : Bool} {ph : Phase} {b : Book} (c' : Config) (n' : Counters) (t' : Table)
    → n'.mtc ≡ n.mtc → a ≡ false → Inv c n t a ph b → Inv c' n' t' a ph b
inv_quiet {b = b} c' n' t' e q h = record {
  lacks = λ s. subst (λ (m : ℕ). Lacks b.named b.delivered m) (sym e) (h.lacks s);
  active = λ f. no (sym q ∙ f);
  quiet = h.quiet;
  faithful = h.faithful;
  past = h.past;
  ever = h.ever;
}

-- A write made to the counter.
pub inv_recounted : {c : Config} {n : Counters} {t : Table} {a : Bool} {ph : Phase} {b : Book} (n' : Counters)
    → a ≡ false → Inv c n t a ph b → Inv c n' t a ph (recounted b)
inv_recounted n' q h = record {
  lacks = λ s. no s;
  active = λ f. no (sym q ∙ f);
  quiet = h.quiet;
  faithful = h.faithful;
  past = h.past;
  ever = h.ever;
}

-- An entry has words exactly under chaining.
unchained_words : (c : Config) → is_chained c ≡ false → words_of_entry (chain_of c) ≡ 0
unchained_words c e = go (chain_field c) (leb-false 2 (chain_field c) e)
  where
    go : (f : ℕ) → f < 2 → words_of_entry (cond (eqb f 2) Array (cond (eqb f 3) Linked Plain)) ≡ 0
    go f h = rw (ne_eqb f 2 (λ q. omega arith), ne_eqb f 3 (λ q. omega arith)) refl

pub some_words : (c : Config) → is_chained c ≡ true → 0 < words_of_entry (chain_of c)
some_words c e = go (chain_field c) (leb-true 2 (chain_field c) e) (and_le_r (c.ocr / 4) 3)
  where
    go : (f : ℕ) → 2 ≤ f → f ≤ 3 → 0 < words_of_entry (cond (eqb f 2) Array (cond (eqb f 3) Linked Plain))
    go f h l = by (eqb f 2) refl (eqb f 3) refl
      where
        by : (s : Bool) → eqb f 2 ≡ s → (t : Bool) → eqb f 3 ≡ t → 0 < words_of_entry (cond s Array (cond t Linked Plain))
        by true p t q = omega arith
        by false p true q = omega arith
        by false p false q = let u = eqb-false f 2 p in let v = eqb-false f 3 q in absurd (omega arith)

pub reading_chained : (c : Config) (m : ℕ) → m < words_of_entry (chain_of c) → is_chained c ≡ true
reading_chained c m l = go (is_chained c) refl
  where
    go : (t : Bool) → is_chained c ≡ t → t ≡ true
    go true e = refl
    go false e = let z = unchained_words c e in absurd (omega arith)

-- The table registers of an unchained channel matter to no phase.
phased_table : (ph : Phase) (c : Config) (n : Counters) (t t' : Table) (g : Gathered) → is_chained c ≡ false → Phased ph c n t g → Phased ph c n t' g
phased_table Idle c n t t' g e h = h
phased_table (Inside k hs d) c n t t' g e h = h
phased_table (Fetching ws) c n t t' g e h = let z = unchained_words c e in let s = h.short in absurd (omega arith)

pub inv_table : {c : Config} {n : Counters} {t : Table} {a : Bool} {ph : Phase} {b : Book} (t' : Table)
    → (a && is_chained c) ≡ false → Inv c n t a ph b → Inv c n t' a ph b
inv_table {c} {n} {t} {a = true} {ph} {b} t' e h = record {
  lacks = h.lacks;
  active = λ f. let v = h.active f in record {
    counted = v.counted;
    lists = v.lists;
    dar_stands = v.dar_stands;
    device_even = v.device_even;
    base_stands = λ q. no (sym e ∙ q);
    phased = phased_table ph c n t t' b.gathered e v.phased;
  };
  quiet = h.quiet;
  faithful = h.faithful;
  past = h.past;
  ever = h.ever;
}
inv_table {c} {n} {t} {a = false} {ph} {b} t' e h = inv_quiet c n t' refl refl h

-- The book drops what it gathered while the channel is not active.
pub inv_settled : (x : Channel) (b : Book) → InvX x b → InvX x (settled_before x.registers b)
inv_settled x b h = go (is_active x.registers.status) h
  where
    go : (a : Bool) → Inv x.registers.config x.registers.counters x.registers.table a x.phase b
        → Inv x.registers.config x.registers.counters x.registers.table a x.phase (cond a b (with_gathered nothing_gathered b))
    go true k = k
    go false k = record {
      lacks = k.lacks;
      active = λ f. no f;
      quiet = k.quiet;
      faithful = k.faithful;
      past = k.past;
      ever = k.ever;
    }

pub length_operands : (c : Config) (f m d n : ℕ) → length (operands c f m d n) ≡ n
length_operands c f m d zero = refl
length_operands c f m d (suc n) = ap (λ (k : ℕ). suc k) (length_operands c f (next_mar c m) (next_dar c d) n)

-- What an active channel lacks.
pub lacks_active : (c : Config) (n : Counters) {named delivered : List Operand}
    → named ≡ delivered ++ operands c n.mfc n.mar n.dar n.mtc → Lacks named delivered n.mtc
lacks_active c n e = record {
  rest = operands c n.mfc n.mar n.dar n.mtc;
  begins = e;
  lacks = length_operands c n.mfc n.mar n.dar n.mtc;
}

-- The law's form.
pub begins_named : (b : Book) (r : Registers) → Lacks b.named b.delivered r.counters.mtc → DeliveredBeginsNamed b r
begins_named b r o = record {
  rest = o.rest;
  begins = o.begins;
  lacks = o.lacks;
  equal_at_zero = λ z. go o.rest o.begins (o.lacks ∙ z);
  zero_if_equal = λ e. back e;
}
  where
    go : (rest : List Operand) → b.named ≡ b.delivered ++ rest → length rest ≡ 0 → b.named ≡ b.delivered
    go [] e l = e ∙ append-nil b.delivered
    go (x ∷ xs) e l = absurd (omega arith)

    back : b.named ≡ b.delivered → r.counters.mtc ≡ 0
    back e =
        let p : length b.delivered ≡ length (b.delivered ++ o.rest) = ap length (sym e ∙ o.begins) in
        let q = length-append b.delivered o.rest in
        let l = o.lacks in
        omega arith
