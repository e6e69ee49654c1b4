-- A word of a table entry keeps the invariant.
use Rattle.std.proofs.Common.{◌≡◌, ℕ, ◌+◌, ◌*◌, ◌%◌, ◌<◌, true, eqb, List, [], ◌∷◌, ◌++◌, length, sym, refl, ap, ◌∙◌, subst, append-nil, arith}
use Rattle.registers.specs.Config.{is_chained, chain_of}
use Rattle.registers.specs.Status.{is_active}
use Rattle.registers.specs.declared.groups.Chain.{Chain}
use Rattle.registers.specs.declared.groups.Chain.TheVariants.{Plain, Array, Linked}
use Rattle.channel.specs.declared.state.Channel.{Channel}
use Rattle.channel.specs.declared.state.Phase.TheVariants.{Fetching}
use Rattle.channel.specs.declared.state.Words.{Words}
use Rattle.channel.specs.declared.state.Words.TheVariants.{NoWord, OneWord, TwoWords, ThreeWords, FourWords}
use Rattle.channel.specs.State.{with_phase}
use Rattle.channel.specs.Operation.{word_taken, long_of, table_moved}
use Rattle.cycle.specs.Serve.{entry_address}
use Rattle.audit.specs.Book.{Book, with_gathered, words_gathered, words_of_entry, entry_noted, word_noted}
use Rattle.audit.specs.Law.{word_addresses}
use Rattle.audit.proofs.Basics.{no}
use Rattle.audit.proofs.Inv.{words_list, InvX, Reading}
use Rattle.audit.proofs.Blocks.{loaded_inv}

-- Before a load everything named is delivered.
all_delivered : (x : Channel) (b : Book) (ws : List ℕ) → InvX x b → is_active x.registers.status ≡ true
    → Reading x.registers.config x.registers.counters x.registers.table b.gathered ws → b.named ≡ b.delivered
all_delivered x b ws p a h = rw (h.none_left, append-nil) at (p.active a).lists

-- The words read so far, and one more that is not the last.
more_inv : (w : ℕ) (ws more : Words) (x : Channel) (b : Book) → InvX x b → is_active x.registers.status ≡ true
    → Reading x.registers.config x.registers.counters x.registers.table b.gathered (words_list ws)
    → words_list more ≡ words_list ws ++ w ∷ []
    → word_addresses x.registers.table.bar (length (words_list ws)) ++ entry_address ws x ∷ [] ≡ word_addresses x.registers.table.bar (length (words_list more))
    → length (words_list more) < words_of_entry (chain_of x.registers.config)
    → InvX (with_phase (Fetching more) x) (with_gathered (words_gathered (words_list ws ++ w ∷ []) (entry_address ws x) b.gathered) b)
more_inv w ws more x b p a h e at short = record {
  lacks = p.lacks;
  active = λ t. let u = p.active a in record {
    counted = u.counted;
    lists = u.lists;
    dar_stands = u.dar_stands;
    device_even = u.device_even;
    base_stands = u.base_stands;
    phased = record {
      none_left = h.none_left;
      words_are = sym e;
      words_at = ap (λ (l : List ℕ). l ++ entry_address ws x ∷ []) h.words_at ∙ at;
      short = short;
    };
  };
  quiet = λ t. no (sym t ∙ a);
  faithful = p.faithful;
  past = p.past;
  ever = p.ever;
}

-- Where the next entry lies.
array_next : (x : Channel) (b : Book) → chain_of x.registers.config ≡ Array → InvX x b → is_active x.registers.status ≡ true
    → is_chained x.registers.config ≡ true → (table_moved (chain_of x.registers.config) 0 x.registers.table).bar ≡ (b.entry_at + 6) % 4294967296
array_next x b c p a q =
    ap (λ (k : Chain). (table_moved k 0 x.registers.table).bar) c ∙ ap (λ (n : ℕ). (n + 6) % 4294967296) ((p.active a).base_stands q)

linked_next : (link : ℕ) (x : Channel) → chain_of x.registers.config ≡ Linked → is_chained x.registers.config ≡ true
    → (table_moved (chain_of x.registers.config) link x.registers.table).bar ≡ link
linked_next link x c q = ap (λ (k : Chain). (table_moved k link x.registers.table).bar) c

-- An entry's word, by the kind of chain.
taken_inv : (k : Chain) (w : ℕ) (ws : Words) (x : Channel) (b : Book) → chain_of x.registers.config ≡ k → InvX x b → is_active x.registers.status ≡ true
    → Reading x.registers.config x.registers.counters x.registers.table b.gathered (words_list ws)
    → InvX (word_taken k w ws x)
    (entry_noted (eqb (length (words_list ws ++ w ∷ [])) (words_of_entry k)) k (words_list ws ++ w ∷ []) (entry_address ws x) x.registers b)
taken_inv Plain w ws x b c p a h = let s : length (words_list ws) < 0 = rw c at h.short in absurd (omega arith)
taken_inv Array w NoWord x b c p a h = more_inv w NoWord (OneWord w) x b p a h refl refl (rw c (omega arith))
taken_inv Array w (OneWord u) x b c p a h = more_inv w (OneWord u) (TwoWords u w) x b p a h refl refl (rw c (omega arith))
taken_inv Array w (TwoWords u v) x b c p a h = loaded_inv (long_of u v) w 0 _ x b (all_delivered x b _ p a h) a (array_next x b c p a) p
taken_inv Array w (ThreeWords u v y) x b c p a h = let s : 3 < 3 = rw c at h.short in absurd (omega arith)
taken_inv Array w (FourWords u v y z) x b c p a h = let s : 4 < 3 = rw c at h.short in absurd (omega arith)
taken_inv Linked w NoWord x b c p a h = more_inv w NoWord (OneWord w) x b p a h refl refl (rw c (omega arith))
taken_inv Linked w (OneWord u) x b c p a h = more_inv w (OneWord u) (TwoWords u w) x b p a h refl refl (rw c (omega arith))
taken_inv Linked w (TwoWords u v) x b c p a h = more_inv w (TwoWords u v) (ThreeWords u v w) x b p a h refl refl (rw c (omega arith))
taken_inv Linked w (ThreeWords u v y) x b c p a h = more_inv w (ThreeWords u v y) (FourWords u v y w) x b p a h refl refl (rw c (omega arith))
taken_inv Linked w (FourWords u v y z) x b c p a h = loaded_inv (long_of u v) y (long_of z w) _ x b (all_delivered x b _ p a h) a (linked_next (long_of z w) x c) p

-- The book reads the same words.
pub entry_inv : (high low : ℕ) (ws : Words) (x : Channel) (b : Book) → InvX x b → is_active x.registers.status ≡ true
    → Reading x.registers.config x.registers.counters x.registers.table b.gathered (words_list ws)
    → InvX (word_taken (chain_of x.registers.config) (high * 256 + low) ws x)
    (word_noted (entry_address ws x) (high ∷ low ∷ []) x.registers b)
entry_inv high low ws x b p a h =
    let w = high * 256 + low in
    let new = word_taken (chain_of x.registers.config) w ws x in
    let P : List ℕ → Type 0 = λ l. InvX new (entry_noted (eqb (length (l ++ w ∷ [])) (words_of_entry (chain_of x.registers.config))) (chain_of x.registers.config) (l ++ w ∷ []) (entry_address ws x) x.registers b) in
    subst P (sym h.words_are) (taken_inv (chain_of x.registers.config) w ws x b refl p a h)
