-- Deliveries and block loads keep the invariant.
use Rattle.std.proofs.Common.{◌≡◌, ℕ, zero, suc, ◌<◌, Bool, true, false, cond, not, ◌&&◌, eqb, List, [], ◌++◌, length, sym, refl, ap, ◌∙◌, subst, append_assoc, append-nil, arith}
use lib.Dec.{eqb-suc-zero}
use Rattle.registers.specs.Config.{is_single, is_port16, is_chained, is_misplaced, chain_of}
use Rattle.registers.specs.Control.{is_continuing}
use Rattle.registers.specs.Status.{is_active}
use Rattle.registers.specs.declared.fault.Fault.TheVariants.{MemoryAddress, MemoryCount, BaseCount}
use Rattle.registers.specs.declared.groups.Config.{Config}
use Rattle.registers.specs.declared.groups.Counters.{Counters}
use Rattle.registers.specs.declared.groups.Table.{Table}
use Rattle.registers.specs.declared.groups.Registers.{Registers}
use Rattle.registers.specs.declared.groups.Chain.{Chain}
use Rattle.registers.specs.declared.groups.Chain.TheVariants.{Plain, Array, Linked}
use Rattle.channel.specs.declared.state.Channel.{Channel}
use Rattle.channel.specs.declared.state.Phase.TheVariants.{Idle, Fetching}
use Rattle.channel.specs.declared.state.Words.TheVariants.{NoWord}
use Rattle.channel.specs.State.{with_phase, with_counters, channel_failed}
use Rattle.channel.specs.Operation.{channel_completed, channel_ended, base_loaded, block_continued, chain_continued, block_ended, table_moved, entry_set, entry_loaded}
use Rattle.audit.specs.Operand.{Operand, operands, dar_after}
use Rattle.audit.specs.Book.{Book, Gathered, nothing_gathered, block_named, block_continued as block_noted, words_of_entry, with_entry}
use Rattle.audit.specs.Law.{EachOf, Faithful}
use Rattle.audit.proofs.Basics.{no}
use Rattle.audit.proofs.Status.{failed_inactive, completed_inactive, ended_inactive, block_done_active}
use Rattle.audit.proofs.Plan.{runs_planned}
use Rattle.audit.proofs.Inv.{Inv, InvX, Operating, Reading, inv_active, inv_stop, lacks_active}

-- Between operands, with nothing gathered.
pub record Between (c : Config) (n : Counters) (t : Table) (b : Book) : Type 0 where
  pub counted : b.counted ≡ true
  pub lists : b.named ≡ b.delivered ++ operands c n.mfc n.mar n.dar n.mtc
  pub dar_stands : n.dar ≡ dar_after c b.start_dar (length b.delivered)
  pub device_even : (not (is_single c) && (is_port16 c && is_misplaced c n.dar)) ≡ false
  pub base_stands : is_chained c ≡ true → t.bar ≡ b.entry_at
  pub faithful : EachOf Faithful b.log
  pub past : List Operand
  pub ever : b.ever ≡ past ++ b.named
  pub nothing : b.gathered ≡ nothing_gathered

-- The channel stops there, ..
pub between_stop : {c : Config} {n : Counters} {b : Book} (t : Table) → Between c n t b → Inv c n t false Idle b
between_stop {c} {n} {b} t h = record {
  lacks = λ s. lacks_active c n h.lists;
  active = λ f. no f;
  quiet = λ f. refl;
  faithful = h.faithful;
  past = h.past;
  ever = h.ever;
}

-- .. goes on with the next operand, ..
pub between_on : {c : Config} {n : Counters} {b : Book} (t : Table) (m : ℕ) → n.mtc ≡ suc m → is_misplaced c n.mar ≡ false
    → Between c n t b → Inv c n t true Idle b
between_on {c} {n} {b} t m e even h = record {
  lacks = λ s. lacks_active c n h.lists;
  active = λ f. record {
    counted = h.counted;
    lists = h.lists;
    dar_stands = h.dar_stands;
    device_even = h.device_even;
    base_stands = h.base_stands;
    phased = subst (λ (g : Gathered). Operating c n g 0 []) (sym h.nothing) (record {
      left = m;
      some_left = e;
      memory_even = even;
      at_from = refl;
      at_to = refl;
      flow = refl;
      wrote_all = refl;
      gave_all = refl;
      runs_to_come = runs_planned c;
      no_words = refl;
      no_addresses = refl;
    });
  };
  quiet = λ f. no (sym f);
  faithful = h.faithful;
  past = h.past;
  ever = h.ever;
}

-- .. or with the next entry.
pub between_fetch : {c : Config} {n : Counters} {b : Book} (t : Table) → n.mtc ≡ 0 → 0 < words_of_entry (chain_of c)
    → Between c n t b → Inv c n t true (Fetching NoWord) b
between_fetch {c} {n} {b} t e some h = record {
  lacks = λ s. lacks_active c n h.lists;
  active = λ f. record {
    counted = h.counted;
    lists = h.lists;
    dar_stands = h.dar_stands;
    device_even = h.device_even;
    base_stands = h.base_stands;
    phased = subst (λ (g : Gathered). Reading c n t g []) (sym h.nothing) (record {
      none_left = e;
      words_are = refl;
      words_at = refl;
      short = some;
    });
  };
  quiet = λ f. no (sym f);
  faithful = h.faithful;
  past = h.past;
  ever = h.ever;
}

-- At counter 0 everything named is delivered.
all_delivered : {c : Config} {n : Counters} {t : Table} {b : Book} → Between c n t b → n.mtc ≡ 0 → b.named ≡ b.delivered
all_delivered {c} {n} {t} {b} h e =
    h.lists ∙ ap (λ (m : ℕ). b.delivered ++ operands c n.mfc n.mar n.dar m) e ∙ append-nil b.delivered

-- A block is named when all before is delivered.
abbrev block_at : ℕ → ℕ → ℕ → Counters → Counters
block_at f m k n = record { mtc = k; mar = m; dar = n.dar; mfc = f }

pub named_between : (f m k : ℕ) (r : Registers) (n : Counters) (t : Table) (b : Book) → b.named ≡ b.delivered → b.counted ≡ true
    → n.dar ≡ dar_after r.config b.start_dar (length b.delivered)
    → (not (is_single r.config) && (is_port16 r.config && is_misplaced r.config n.dar)) ≡ false
    → (is_chained r.config ≡ true → t.bar ≡ b.entry_at)
    → EachOf Faithful b.log → (past : List Operand) → b.ever ≡ past ++ b.named
    → Between r.config (block_at f m k n) t (block_named f m k r b)
unfolding block_named
named_between f m k r n t b all counted place even base faithful past ever =
    let block = operands r.config f m (dar_after r.config b.start_dar (length b.named)) k in
    record {
      counted = counted;
      lists = rw (all, place) refl;
      dar_stands = place;
      device_even = even;
      base_stands = base;
      faithful = faithful;
      past = past;
      ever = rw ever (append_assoc past b.named block);
      nothing = refl;
    }

-- A block that is loaded: a failed check stops the channel, otherwise it goes on.
checked_inv : (t : Bool) (m : ℕ) (x : Channel) (b : Book) → x.registers.counters.mtc ≡ suc m → is_active x.registers.status ≡ true → x.phase ≡ Idle
    → is_misplaced x.registers.config x.registers.counters.mar ≡ t
    → Between x.registers.config x.registers.counters x.registers.table b → InvX (cond t (channel_failed MemoryAddress x) x) b
checked_inv true m x b e a p q h = inv_active (failed_inactive MemoryAddress x.registers.status) (between_stop x.registers.table h)
checked_inv false m x b e a p q h = rw (a, p) (between_on x.registers.table m e q h)

-- The channel x with the counters n, between operands.
abbrev pub at_counters : Counters → Channel → Channel
at_counters n x = with_phase Idle (with_counters n x)

-- Continue mode.
base_inv : (k : ℕ) (n : Counters) (x : Channel) (b : Book) → n.mtc ≡ 0 → is_active x.registers.status ≡ true → x.registers.table.btc ≡ k
    → Between x.registers.config n x.registers.table b
    → InvX (cond (eqb k 0) (channel_failed BaseCount (at_counters n x))
    (cond (is_misplaced x.registers.config x.registers.table.bar) (channel_failed MemoryAddress (base_loaded (at_counters n x))) (base_loaded (at_counters n x))))
    (block_named x.registers.table.bfc x.registers.table.bar x.registers.table.btc x.registers b)
base_inv k n x b e a q h = go k q
  where
    named : Between x.registers.config (block_at x.registers.table.bfc x.registers.table.bar x.registers.table.btc n) x.registers.table
        (block_named x.registers.table.bfc x.registers.table.bar x.registers.table.btc x.registers b)
    named = named_between x.registers.table.bfc x.registers.table.bar x.registers.table.btc x.registers n x.registers.table b
        (all_delivered h e) h.counted h.dar_stands h.device_even h.base_stands h.faithful h.past h.ever

    go : (j : ℕ) → x.registers.table.btc ≡ j
        → InvX (cond (eqb j 0) (channel_failed BaseCount (at_counters n x))
        (cond (is_misplaced x.registers.config x.registers.table.bar) (channel_failed MemoryAddress (base_loaded (at_counters n x))) (base_loaded (at_counters n x))))
        (block_named x.registers.table.bfc x.registers.table.bar x.registers.table.btc x.registers b)
    go zero z =
        inv_active (failed_inactive BaseCount x.registers.status)
        (inv_stop x.registers.config n x.registers.table (e ∙ sym z) (between_stop x.registers.table named))
    go (suc j) z =
        rw (eqb-suc-zero j)
        (checked_inv (is_misplaced x.registers.config x.registers.table.bar) j (base_loaded (at_counters n x)) _ z (block_done_active x.registers.status ∙ a) refl refl named)

plain_inv : (t : Bool) (n : Counters) (x : Channel) (b : Book) → n.mtc ≡ 0 → is_active x.registers.status ≡ true
    → Between x.registers.config n x.registers.table b
    → InvX (cond t (block_continued (at_counters n x)) (channel_completed (at_counters n x))) (block_noted zero Plain t x.registers b)
plain_inv true n x b e a h = base_inv x.registers.table.btc n x b e a refl h
plain_inv false n x b e a h = inv_active (completed_inactive x.registers.status) (between_stop x.registers.table h)

-- A chain.
chain_inv : (left : ℕ) (done : Bool) (x : Channel) (b : Book) → x.registers.counters.mtc ≡ 0 → is_active x.registers.status ≡ true
    → 0 < words_of_entry (chain_of x.registers.config)
    → Between x.registers.config x.registers.counters x.registers.table b → InvX (chain_continued left done x) b
chain_inv zero done x b e a some h = inv_active (completed_inactive x.registers.status) (between_stop x.registers.table h)
chain_inv (suc left) true x b e a some h = rw (eqb-suc-zero left) (inv_active (ended_inactive x.registers.status) (between_stop x.registers.table h))
chain_inv (suc left) false x b e a some h = rw (eqb-suc-zero left, a) (between_fetch x.registers.table e some h)

ended_inv : (k : Chain) (done : Bool) (n : Counters) (x : Channel) (b : Book) → n.mtc ≡ 0 → chain_of x.registers.config ≡ k → is_active x.registers.status ≡ true
    → Between x.registers.config n x.registers.table b
    → InvX (block_ended k done (at_counters n x)) (block_noted zero k (is_continuing x.registers.control) x.registers b)
ended_inv Plain done n x b e c a h = plain_inv (is_continuing x.registers.control) n x b e a h
ended_inv Array done n x b e c a h = chain_inv x.registers.table.btc done (at_counters n x) b e a (subst (λ (k : Chain). 0 < words_of_entry k) (sym c) (omega arith)) h
ended_inv Linked done n x b e c a h = chain_inv x.registers.table.bar done (at_counters n x) b e a (subst (λ (k : Chain). 0 < words_of_entry k) (sym c) (omega arith)) h

-- After a delivery.
pub settled_inv : (m : ℕ) (done : Bool) (n : Counters) (x : Channel) (b : Book) → n.mtc ≡ m → is_active x.registers.status ≡ true
    → is_misplaced x.registers.config n.mar ≡ false
    → Between x.registers.config n x.registers.table b
    → InvX (cond (eqb m 0) (block_ended (chain_of x.registers.config) done (at_counters n x)) (cond done (channel_ended (at_counters n x)) (at_counters n x)))
    (block_noted m (chain_of x.registers.config) (is_continuing x.registers.control) x.registers b)
settled_inv (suc m) true n x b e a even h = rw (eqb-suc-zero m) (inv_active (ended_inactive x.registers.status) (between_stop x.registers.table h))
settled_inv (suc m) false n x b e a even h = rw (eqb-suc-zero m, a) (between_on x.registers.table m e even h)
settled_inv zero done n x b e a even h = ended_inv (chain_of x.registers.config) done n x b e refl a h

-- An entry that is loaded.
counted_inv : (m : ℕ) (x : Channel) (b : Book) → x.registers.counters.mtc ≡ m → is_active x.registers.status ≡ true → x.phase ≡ Idle
    → is_misplaced x.registers.config x.registers.counters.mar ≡ false
    → Between x.registers.config x.registers.counters x.registers.table b → InvX (cond (eqb m 0) (channel_failed MemoryCount x) x) b
counted_inv zero x b e a p even h = inv_active (failed_inactive MemoryCount x.registers.status) (between_stop x.registers.table h)
counted_inv (suc m) x b e a p even h = rw (eqb-suc-zero m, a, p) (between_on x.registers.table m e even h)

pub loaded_inv : (mar mtc link next : ℕ) (x : Channel) (b : Book) → b.named ≡ b.delivered → is_active x.registers.status ≡ true
    → (is_chained x.registers.config ≡ true → (table_moved (chain_of x.registers.config) link x.registers.table).bar ≡ next)
    → InvX x b → InvX (entry_loaded mar mtc link x) (block_named x.registers.counters.mfc mar mtc x.registers (with_entry next b))
loaded_inv mar mtc link next x b all a base h = go (is_misplaced x.registers.config mar) refl
  where
    between : Between x.registers.config (block_at x.registers.counters.mfc mar mtc x.registers.counters)
        (table_moved (chain_of x.registers.config) link x.registers.table)
        (block_named x.registers.counters.mfc mar mtc x.registers (with_entry next b))
    between =
        let v = h.active a in
        named_between x.registers.counters.mfc mar mtc x.registers x.registers.counters _ (with_entry next b) all v.counted v.dar_stands v.device_even base h.faithful h.past h.ever

    go : (t : Bool) → is_misplaced x.registers.config mar ≡ t
        → InvX (cond t (channel_failed MemoryAddress (entry_set mar mtc link x)) (cond (eqb mtc 0) (channel_failed MemoryCount (entry_set mar mtc link x)) (entry_set mar mtc link x)))
        (block_named x.registers.counters.mfc mar mtc x.registers (with_entry next b))
    go true q = inv_active (failed_inactive MemoryAddress x.registers.status) (between_stop _ between)
    go false q = counted_inv mtc (entry_set mar mtc link x) _ refl a refl q between
