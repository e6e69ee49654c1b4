-- A carried-out cycle of an operand keeps the invariant.
use Rattle.std.proofs.Common.{◌≡◌, ℕ, suc, ◌+◌, ◌-◌, Bool, true, false, eqb, List, [], ◌∷◌, ◌++◌, length, drop, sym, refl, ap, ◌∙◌, subst, ap₂, append_assoc, append-nil, add-one, arith, length-append}
use Rattle.std.proofs.lemmas.List.{nil_from_length, length-replicate}
use Rattle.std.proofs.lemmas.Bool.{eqb-true, eq-eqb, ne_eqb, and_parts, cond_both}
use Rattle.registers.specs.Config.{is_single, is_inward, is_misplaced, size_of, bytes_of, next_mar, next_dar}
use Rattle.registers.specs.Status.{is_active}
use Rattle.registers.specs.declared.groups.Config.{Config}
use Rattle.registers.specs.declared.groups.Counters.{Counters}
use Rattle.registers.specs.declared.groups.Registers.{Registers}
use Rattle.channel.specs.declared.state.Channel.{Channel}
use Rattle.channel.specs.declared.state.Held.{Held}
use Rattle.channel.specs.declared.state.Phase.TheVariants.{Inside}
use Rattle.channel.specs.State.{with_phase}
use Rattle.channel.specs.Operation.{counters_moved, operand_delivered}
use Rattle.cycle.specs.declared.plan.Way.{Way}
use Rattle.cycle.specs.declared.plan.Way.TheVariants.{Source, Destination, Through}
use Rattle.cycle.specs.declared.plan.Side.{Side}
use Rattle.cycle.specs.declared.plan.Side.TheVariants.{Memory, Device}
use Rattle.cycle.specs.declared.plan.Slot.{Slot}
use Rattle.cycle.specs.declared.record.Data.{Data}
use Rattle.cycle.specs.Plan.{plan}
use Rattle.cycle.specs.Held.{held_first}
use Rattle.cycle.specs.Carry.{count_of, held_after, slot_code_by, slot_address_by, slot_code, slot_address}
use Rattle.cycle.specs.Serve.{kind_by, begun_at, operand_moved}
use Rattle.audit.specs.Operand.{Place, bare_device, Move, Operand, paired, operand, operands}
use Rattle.audit.specs.Book.{Book, Gathered, with_gathered, bytes_told, gathered_more, operand_gathered, operand_added, operand_noted, move_noted, cycle_noted, places_written}
use Rattle.audit.specs.Law.{Faithful}
use Rattle.audit.proofs.Basics.{no, each_more, length_join}
use Rattle.audit.proofs.Plan.{code_at, address_at, slot_tos, all_froms, all_tos, fits, runs_on, runs, written_by, total_written, moves_planned, even_planned, runs_planned, total_planned}
use Rattle.audit.proofs.Inv.{held_list, InvX, Operating}
use Rattle.audit.proofs.Even.{next_mar_even, next_dar_even}
use Rattle.audit.proofs.Blocks.{Between, settled_inv}
use Rattle.audit.proofs.Flow.{slotted, flow_on, length_from}

-- The bytes that the cycles to come write are as many as the plan says.
tos_length : (k : Config) (si i : Bool) (y : Way) (s : Side) (f a n : ℕ) → fits si i y s ≡ true → length (places_written si i k (kind_by y k) f a n) ≡ written_by y n
tos_length k true i Source s f a n e = no e
tos_length k true i Destination s f a n e = no e
tos_length k false i Through s f a n e = no e
tos_length k true true Through s f a n e = length_from _ a n
tos_length k true false Through s f a n e = length-replicate n bare_device
tos_length k false true Source s f a n e = refl
tos_length k false false Source s f a n e = refl
tos_length k false true Destination s f a n e = length_from _ a n
tos_length k false false Destination s f a n e = length_from _ a n

runs_rest : (si i : Bool) (h n : ℕ) (y : Way) (qs : List Slot) → runs_on (λ m. runs si i m qs) h y n ≡ true → (m : ℕ) × (runs si i m qs ≡ true)
runs_rest si i h n Source qs e = (h + n, e)
runs_rest si i h n Destination qs e = (h - n, (and_parts _ _ e).1)
runs_rest si i h n Through qs e = (h, (and_parts _ _ e).1)

all_length : (k : Config) (n : Counters) (si i : Bool) (h : ℕ) (qs : List Slot) → runs si i h qs ≡ true → length (all_tos k n si i qs) ≡ total_written qs
all_length k n si i h [] e = refl
all_length k n si i h (q ∷ qs) e =
    let t = slotted si i h q qs e in
    let r = runs_rest si i h (count_of q.word) q.way qs t.rest in
    let g = all_length k n si i r.0 qs r.1 in
    let p = tos_length k si i q.way q.side (code_at q.side k n) (address_at q.side q.offset n) (count_of q.word) t.fit in
    length-append (slot_tos k n si i q) (all_tos k n si i qs) ∙ cc

plan_length : (k : Config) (n : Counters) → length (all_tos k n (is_single k) (is_inward k) (plan k)) ≡ bytes_of (size_of k)
plan_length k n = all_length k n (is_single k) (is_inward k) 0 (plan k) (runs_planned k) ∙ total_planned k

-- What was gathered, with the cycles qs to come and the bytes hs held.
pub record Ahead (c : Config) (n : Counters) (g : Gathered) (qs : List Slot) (hs : List ℕ) : Type 0 where
  pub at_from : g.froms ++ all_froms c n (is_single c) (is_inward c) qs ≡ all_froms c n (is_single c) (is_inward c) (plan c)
  pub at_to : g.tos ++ all_tos c n (is_single c) (is_inward c) qs ≡ all_tos c n (is_single c) (is_inward c) (plan c)
  pub flow : g.wrote ++ hs ≡ g.gave
  pub wrote_all : length g.wrote ≡ length g.tos
  pub gave_all : length g.gave ≡ length g.froms
  pub runs_to_come : runs (is_single c) (is_inward c) (length hs) qs ≡ true
  pub no_words : g.words ≡ []
  pub no_addresses : g.words_at ≡ []

-- The cycle q, gathered.
abbrev pub slot_gathered : Slot → Data → Config → Counters → Gathered → Gathered
slot_gathered q v c n g = gathered_more (kind_by q.way c) (code_at q.side c n) (address_at q.side q.offset n) (bytes_told v) c g

ahead : (k : ℕ) (h : Held) (q : Slot) (qs : List Slot) (v : Data) (c : Config) (n : Counters) (g : Gathered)
    → Operating c n g k (held_list h) → drop k (plan c) ≡ q ∷ qs → length (bytes_told v) ≡ count_of q.word → (q.way ≡ Destination → v ≡ held_first q.word h)
    → Ahead c n (slot_gathered q v c n g) qs (held_list (held_after q.way v q.word h))
unfolding gathered_more
ahead k h q qs v c n g o e l d =
    let si = is_single c in
    let i = is_inward c in
    let u : runs si i (length (held_list h)) (q ∷ qs) ≡ true = rw e at o.runs_to_come in
    let t = slotted si i (length (held_list h)) q qs u in
    let f = flow_on c si i q.way q.side q.word (code_at q.side c n) (address_at q.side q.offset n) qs v h g.wrote g.gave t l d o.flow in
    record {
      at_from = rw (l, append_assoc) (rw e at o.at_from);
      at_to = rw (l, append_assoc) (rw e at o.at_to);
      flow = f.flow;
      wrote_all = rw l (length_join g.wrote _ g.tos _ o.wrote_all f.put_all);
      gave_all = rw l (length_join g.gave _ g.froms _ o.gave_all f.given_all);
      runs_to_come = f.runs_to_come;
      no_words = o.no_words;
      no_addresses = o.no_addresses;
    }

-- The channel is inside the operand, one cycle further.
inside_inv : (k : ℕ) (done : Bool) (q : Slot) (qs : List Slot) (h : Held) (x : Channel) (b : Book) (g : Gathered) (left : ℕ) → InvX x b → is_active x.registers.status ≡ true
    → x.registers.counters.mtc ≡ suc left → is_misplaced x.registers.config x.registers.counters.mar ≡ false
    → drop (k + 1) (plan x.registers.config) ≡ q ∷ qs → Ahead x.registers.config x.registers.counters g (q ∷ qs) (held_list h)
    → InvX (with_phase (Inside (k + 1) h done) (begun_at k x)) (operand_noted x.registers (with_gathered g b))
inside_inv k done q qs h x b g left p a m even dr w =
    let c = x.registers.config in
    let n = x.registers.counters in
    let si = is_single c in
    let i = is_inward c in
    let t = slotted si i (length (held_list h)) q qs w.runs_to_come in
    let u = all_length c n si i (length (held_list h)) (q ∷ qs) w.runs_to_come in
    let v : length g.tos + length (all_tos c n si i (q ∷ qs)) ≡ bytes_of (size_of c) =
    sym (length-append g.tos (all_tos c n si i (q ∷ qs))) ∙ ap length w.at_to ∙ plan_length c n in
    let z : eqb (length g.tos) (bytes_of (size_of c)) ≡ false = ne_eqb _ _ (λ s. let j = t.more in omega arith) in
    let r : InvX (with_phase (Inside (k + 1) h done) (begun_at k x)) (with_gathered g b) = record {
      lacks = p.lacks;
      active = λ s. let y = p.active a in record {
        counted = y.counted;
        lists = y.lists;
        dar_stands = y.dar_stands;
        device_even = y.device_even;
        base_stands = y.base_stands;
        phased = record {
          left = left;
          some_left = m;
          memory_even = even;
          at_from = rw dr w.at_from;
          at_to = rw dr w.at_to;
          flow = w.flow;
          wrote_all = w.wrote_all;
          gave_all = w.gave_all;
          runs_to_come = rw dr w.runs_to_come;
          no_words = w.no_words;
          no_addresses = w.no_addresses;
        };
      };
      quiet = λ s. no (sym s ∙ a);
      faithful = p.faithful;
      past = p.past;
      ever = p.ever;
    } in
    rw z r

-- The operand is delivered.
paired_length : (fs ts : List Place) → length fs ≡ length ts → length (paired fs ts) ≡ length ts
paired_length [] [] e = refl
paired_length [] (t ∷ ts) e = absurd (omega arith)
paired_length (f ∷ fs) [] e = absurd (omega arith)
paired_length (f ∷ fs) (t ∷ ts) e = ap (λ (n : ℕ). suc n) (paired_length fs ts (omega arith))

none_held : (si i : Bool) (hs : List ℕ) → runs si i (length hs) [] ≡ true → hs ≡ []
unfolding runs
none_held si i hs e = nil_from_length hs (eqb-true (length hs) 0 e)

sub_one : (n : ℕ) → suc n - 1 ≡ n
sub_one n = omega arith

operand_is : (c : Config) (f m d : ℕ) (l : List Move) → l ≡ (operand c f m d).moves → ◌≡◌ {A = Operand} (record { mar = m; dar = d; moves = l }) (operand c f m d)
unfolding operand
operand_is c f m d l e = ap (λ (y : List Move). record { mar = m; dar = d; moves = y }) e

delivered_between : (hs : List ℕ) (x : Channel) (b : Book) (g : Gathered) (left : ℕ) → InvX x b → is_active x.registers.status ≡ true
    → x.registers.counters.mtc ≡ suc left → is_misplaced x.registers.config x.registers.counters.mar ≡ false
    → Ahead x.registers.config x.registers.counters g [] hs
    → Between x.registers.config (counters_moved x.registers.config x.registers.counters) x.registers.table (operand_added x.registers (with_gathered g b))
unfolding operand_added
delivered_between hs x b g left p a m even w =
    let c = x.registers.config in
    let n = x.registers.counters in
    let v = p.active a in
    let fa : g.froms ≡ all_froms c n (is_single c) (is_inward c) (plan c) = sym (append-nil g.froms) ∙ w.at_from in
    let ta : g.tos ≡ all_tos c n (is_single c) (is_inward c) (plan c) = sym (append-nil g.tos) ∙ w.at_to in
    let op : operand_gathered x.registers g ≡ operand c n.mfc n.mar n.dar =
    operand_is c n.mfc n.mar n.dar (paired g.froms g.tos) (ap₂ paired fa ta ∙ moves_planned c n even v.device_even) in
    let ev : length g.froms ≡ length g.tos = ap length fa ∙ even_planned c n ∙ ap length (sym ta) in
    let nh : hs ≡ [] = none_held (is_single c) (is_inward c) hs w.runs_to_come in
    let fl : g.wrote ≡ g.gave = sym (append-nil g.wrote) ∙ ap (λ (l : List ℕ). g.wrote ++ l) (sym nh) ∙ w.flow in
    let ls : b.named ≡ b.delivered ++ operand c n.mfc n.mar n.dar ∷ operands c n.mfc (next_mar c n.mar) (next_dar c n.dar) left = rw m at v.lists in
    record {
      counted = v.counted;
      lists = rw (m, sub_one left, op, append_assoc) ls;
      dar_stands = rw (length-append, add-one) (ap (λ (d : ℕ). next_dar c d) v.dar_stands);
      device_even = next_dar_even c n.dar v.device_even;
      base_stands = v.base_stands;
      faithful = each_more Faithful b.log _ p.faithful (record { same_bytes = fl; all_bytes = w.wrote_all ∙ sym (paired_length g.froms g.tos ev) });
      past = p.past;
      ever = p.ever;
      nothing = refl;
    }

delivered_inv : (k : ℕ) (done : Bool) (hs : List ℕ) (x : Channel) (b : Book) (g : Gathered) (left : ℕ) → InvX x b → is_active x.registers.status ≡ true
    → x.registers.counters.mtc ≡ suc left → is_misplaced x.registers.config x.registers.counters.mar ≡ false
    → Ahead x.registers.config x.registers.counters g [] hs
    → InvX (operand_delivered done (begun_at k x)) (operand_noted x.registers (with_gathered g b))
delivered_inv k done hs x b g left p a m even w =
    let c = x.registers.config in
    let n = x.registers.counters in
    let ta : g.tos ≡ all_tos c n (is_single c) (is_inward c) (plan c) = sym (append-nil g.tos) ∙ w.at_to in
    let z : eqb (length g.tos) (bytes_of (size_of c)) ≡ true = eq-eqb _ _ (ap length ta ∙ plan_length c n) in
    rw z (settled_inv (n.mtc - 1) done (counters_moved c n) (begun_at k x) (operand_added x.registers (with_gathered g b)) refl a
    (next_mar_even c n.mar even) (delivered_between hs x b g left p a m even w))

-- The code and the address of a cycle are those that the registers say.
pub code_same : (s : Side) (x : Channel) → slot_code_by s x ≡ code_at s x.registers.config x.registers.counters
code_same Memory x = refl
code_same Device x = refl

pub address_same : (s : Side) (o : ℕ) (x : Channel) → slot_address_by s o x ≡ address_at s o x.registers.counters
address_same Memory o x = refl
address_same Device o x = refl

-- A cycle of an operand is told as a read or a write.
pub cycle_moves : (y : Way) (k : Config) (f a : ℕ) (vs : List ℕ) (r : Registers) (b : Book) → cycle_noted (kind_by y k) f a vs r b ≡ move_noted (kind_by y k) f a vs r b
cycle_moves Source k f a vs r b = refl
cycle_moves Destination k f a vs r b = refl
cycle_moves Through k f a vs r b =
    cond_both (is_inward k) _ _ (λ y. cycle_noted y f a vs r b ≡ move_noted y f a vs r b) (λ _. refl) (λ _. refl)

-- A carried-out cycle: number k of the plan, and whether it is the last.
pub carried_inv : (last : Bool) (k : ℕ) (h : Held) (done : Bool) (q : Slot) (v : Data) (x : Channel) (b : Book)
    → InvX x b → is_active x.registers.status ≡ true → Operating x.registers.config x.registers.counters b.gathered k (held_list h)
    → drop k (plan x.registers.config) ≡ q ∷ drop (k + 1) (plan x.registers.config)
    → (last ≡ true → drop (k + 1) (plan x.registers.config) ≡ [])
    → (last ≡ false → (q' : Slot) × (qs : List Slot) × (drop (k + 1) (plan x.registers.config) ≡ q' ∷ qs))
    → length (bytes_told v) ≡ count_of q.word → (q.way ≡ Destination → v ≡ held_first q.word h)
    → InvX (operand_moved last k (held_after q.way v q.word h) done x)
    (cycle_noted (kind_by q.way x.registers.config) (slot_code q x) (slot_address q x) (bytes_told v) x.registers b)
carried_inv last k h done q v x b p a o e yes_last not_last l d =
    let c = x.registers.config in
    let n = x.registers.counters in
    let w = ahead k h q (drop (k + 1) (plan c)) v c n b.gathered o e l d in
    subst (λ (y : Book). InvX (operand_moved last k (held_after q.way v q.word h) done x) y)
    (sym (cycle_moves q.way c (slot_code q x) (slot_address q x) (bytes_told v) x.registers b))
    (rw (code_same q.side x, address_same q.side q.offset x) (by last yes_last not_last w))
  where
    by : (last : Bool) → (last ≡ true → drop (k + 1) (plan x.registers.config) ≡ [])
        → (last ≡ false → (q' : Slot) × (qs : List Slot) × (drop (k + 1) (plan x.registers.config) ≡ q' ∷ qs))
        → Ahead x.registers.config x.registers.counters (slot_gathered q v x.registers.config x.registers.counters b.gathered) (drop (k + 1) (plan x.registers.config)) (held_list (held_after q.way v q.word h))
        → InvX (operand_moved last k (held_after q.way v q.word h) done x)
        (operand_noted x.registers (with_gathered (slot_gathered q v x.registers.config x.registers.counters b.gathered) b))
    by true f g w =
        delivered_inv k done (held_list (held_after q.way v q.word h)) x b _ o.left p a o.some_left o.memory_even
        (subst (λ (z : List Slot). Ahead x.registers.config x.registers.counters (slot_gathered q v x.registers.config x.registers.counters b.gathered) z (held_list (held_after q.way v q.word h))) (f refl) w)
    by false f g w =
        let r = g refl in
        inside_inv k done r.0 r.1 (held_after q.way v q.word h) x b _ o.left p a o.some_left o.memory_even r.2
        (subst (λ (z : List Slot). Ahead x.registers.config x.registers.counters (slot_gathered q v x.registers.config x.registers.counters b.gathered) z (held_list (held_after q.way v q.word h))) r.2 w)
