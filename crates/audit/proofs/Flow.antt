-- What a cycle of the plan gives, writes and leaves held.
use Rattle.std.proofs.Common.{◌≡◌, ℕ, zero, suc, ◌+◌, ◌-◌, ◌<◌, ◌≤◌, Bool, true, false, List, [], ◌∷◌, ◌++◌, length, Some, None, Option, sym, refl, ap, ◌∙◌, subst, append_assoc, append-nil, arith, length-append}
use Rattle.std.proofs.lemmas.List.{nil_from_length, length-replicate}
use Rattle.std.proofs.lemmas.Bool.{eqb-true, leb-true, ltb-true, and_parts}
use Rattle.registers.specs.declared.groups.Config.{Config}
use Rattle.bus.specs.Memory.{MemoryMeaning, byte_read, word_read}
use Rattle.devices.specs.Bank.{BankMeaning, byte_handed, word_handed}
use Rattle.channel.specs.declared.state.Held.{Held}
use Rattle.channel.specs.declared.state.Held.TheVariants.{NoByte, OneByte, TwoBytes}
use Rattle.cycle.specs.declared.carry.End.{End}
use Rattle.cycle.specs.declared.carry.End.TheVariants.{InMemory, InDevice, InChannel}
use Rattle.cycle.specs.declared.plan.Way.{Way}
use Rattle.cycle.specs.declared.plan.Way.TheVariants.{Source, Destination, Through}
use Rattle.cycle.specs.declared.plan.Side.{Side}
use Rattle.cycle.specs.declared.plan.Slot.{Slot}
use Rattle.cycle.specs.declared.record.Data.{Data}
use Rattle.cycle.specs.declared.record.Data.TheVariants.{Byte as ByteOf, Word as WordOf}
use Rattle.cycle.specs.declared.record.Kind.{Kind}
use Rattle.cycle.specs.declared.record.Kind.TheVariants.{Read, Write}
use Rattle.cycle.specs.Held.{byte_data, word_data, held_first, held_rest, held_more}
use Rattle.cycle.specs.Carry.{count_of, data_got, held_after}
use Rattle.cycle.specs.Serve.{kind_by}
use Rattle.audit.specs.Operand.{Place, in_memory, bare_device, device_place}
use Rattle.audit.specs.Book.{bytes_told, bytes_from, places_read, places_written, bytes_given, bytes_put}
use Rattle.audit.proofs.Basics.{no}
use Rattle.audit.proofs.Plan.{fits, runs_on, runs, written_by, total_written}
use Rattle.audit.proofs.Inv.{held_list}

pub length_from : (at : ℕ → Place) (a n : ℕ) → length (bytes_from at a n) ≡ n
length_from at a zero = refl
length_from at a (suc n) = ap (λ (k : ℕ). suc k) (length_from at (a + 1) n)

-- A cycle has as many bytes as it should.
byte_length : (o : Option ℕ) → length (bytes_told (byte_data o)) ≡ 1
byte_length None = refl
byte_length (Some a) = refl

word_length : (o : Option (ℕ × ℕ)) → length (bytes_told (word_data o)) ≡ 2
word_length None = refl
word_length (Some p) = refl

first_length : (w : Bool) (h : Held) → length (bytes_told (held_first w h)) ≡ count_of w
first_length false NoByte = refl
first_length false (OneByte a) = refl
first_length false (TwoBytes a b) = refl
first_length true NoByte = refl
first_length true (OneByte a) = refl
first_length true (TwoBytes a b) = refl

pub length_got : (e : End) (n f a : ℕ) (w : Bool) (h : Held) (m : MemoryMeaning) (b : BankMeaning)
    → length (bytes_told (data_got e n f a w h m b)) ≡ count_of w
length_got InMemory n f a true h m b = word_length (word_read f a m)
length_got InMemory n f a false h m b = byte_length (byte_read f a m)
length_got InDevice n f a true h m b = word_length (word_handed n b)
length_got InDevice n f a false h m b = byte_length (byte_handed n b)
length_got InChannel n f a w h m b = first_length w h

-- Bytes that are read are held behind the others, and the first ones held are written first.
held_more_list : (v : Data) (h : Held) → length (held_list h) + length (bytes_told v) ≤ 2 → held_list (held_more v h) ≡ held_list h ++ bytes_told v
held_more_list (ByteOf a) NoByte l = refl
held_more_list (ByteOf a) (OneByte x) l = refl
held_more_list (ByteOf a) (TwoBytes x y) l = absurd (omega arith)
held_more_list (WordOf a b) NoByte l = refl
held_more_list (WordOf a b) (OneByte x) l = absurd (omega arith)
held_more_list (WordOf a b) (TwoBytes x y) l = absurd (omega arith)

held_rest_list : (w : Bool) (h : Held) → count_of w ≤ length (held_list h) → bytes_told (held_first w h) ++ held_list (held_rest w h) ≡ held_list h
held_rest_list false NoByte l = absurd (omega arith)
held_rest_list false (OneByte a) l = refl
held_rest_list false (TwoBytes a b) l = refl
held_rest_list true NoByte l = absurd (omega arith)
held_rest_list true (OneByte a) l = absurd (omega arith)
held_rest_list true (TwoBytes a b) l = refl

-- What the check of the cycles to come says of the first.
pub record Slotted (si i : Bool) (h : ℕ) (y : Way) (s : Side) (n : ℕ) (qs : List Slot) : Type 0 where
  pub fit : fits si i y s ≡ true
  pub more : 0 < written_by y n + total_written qs
  pub few : h ≤ 2
  pub rest : runs_on (λ m. runs si i m qs) h y n ≡ true

pub slotted : (si i : Bool) (h : ℕ) (q : Slot) (qs : List Slot) → runs si i h (q ∷ qs) ≡ true
    → Slotted si i h q.way q.side (count_of q.word) qs
unfolding runs
slotted si i h q qs e =
    let p = and_parts _ _ e in
    let r = and_parts _ _ p.1 in
    let t = and_parts _ _ r.1 in
    record { fit = p.0; more = ltb-true _ _ r.0; few = leb-true _ _ t.0; rest = t.1 }

pub runs_few : (si i : Bool) (h : ℕ) (qs : List Slot) → runs si i h qs ≡ true → h ≤ 2
unfolding runs
runs_few si i h [] e = let z = eqb-true h 0 e in omega arith
runs_few si i h (q ∷ qs) e = (slotted si i h q qs e).few

-- After a cycle: what was written and what is held is what was given, and the cycles to come can be carried out.
pub record Flow (k : Config) (si i : Bool) (y : Way) (f a n : ℕ) (qs : List Slot) (vs held wrote gave : List ℕ) : Type 0 where
  pub flow : (wrote ++ bytes_put si (kind_by y k) vs) ++ held ≡ gave ++ bytes_given si (kind_by y k) vs
  pub runs_to_come : runs si i (length held) qs ≡ true
  pub put_all : length (bytes_put si (kind_by y k) vs) ≡ length (places_written si i k (kind_by y k) f a n)
  pub given_all : length (bytes_given si (kind_by y k) vs) ≡ length (places_read si i k (kind_by y k) f a n)

read_length : (k : Config) (i : Bool) (f a n : ℕ) → length (places_read false i k Read f a n) ≡ n
read_length k true f a n = length_from (device_place k f) a n
read_length k false f a n = length_from (in_memory f) a n

write_length : (k : Config) (i : Bool) (f a n : ℕ) → length (places_written false i k Write f a n) ≡ n
write_length k true f a n = length_from (in_memory f) a n
write_length k false f a n = length_from (device_place k f) a n

read_none : (k : Config) (i : Bool) (f a n : ℕ) → length (places_read false i k Write f a n) ≡ 0
read_none k true f a n = refl
read_none k false f a n = refl

write_none : (k : Config) (i : Bool) (f a n : ℕ) → length (places_written false i k Read f a n) ≡ 0
write_none k true f a n = refl
write_none k false f a n = refl

single_read : (k : Config) (i : Bool) (kind : Kind) (f a n : ℕ) → length (places_read true i k kind f a n) ≡ n
single_read k true kind f a n = length-replicate n bare_device
single_read k false kind f a n = length_from (in_memory f) a n

single_written : (k : Config) (i : Bool) (kind : Kind) (f a n : ℕ) → length (places_written true i k kind f a n) ≡ n
single_written k true kind f a n = length_from (in_memory f) a n
single_written k false kind f a n = length-replicate n bare_device

pub flow_on : (k : Config) (si i : Bool) (y : Way) (s : Side) (w : Bool) (f a : ℕ) (qs : List Slot) (v : Data) (h : Held) (wrote gave : List ℕ)
    → Slotted si i (length (held_list h)) y s (count_of w) qs → length (bytes_told v) ≡ count_of w → (y ≡ Destination → v ≡ held_first w h)
    → wrote ++ held_list h ≡ gave
    → Flow k si i y f a (count_of w) qs (bytes_told v) (held_list (held_after y v w h)) wrote gave
flow_on k true i Source s w f a qs v h wrote gave t l d e = no t.fit
flow_on k true i Destination s w f a qs v h wrote gave t l d e = no t.fit
flow_on k false i Through s w f a qs v h wrote gave t l d e = no t.fit
flow_on k false i Source s w f a qs v h wrote gave t l d e =
    let few = runs_few false i (length (held_list h) + count_of w) qs t.rest in
    let m : held_list (held_more v h) ≡ held_list h ++ bytes_told v = held_more_list v h (omega arith) in
    let n : length (held_list h) + count_of w ≡ length (held_list (held_more v h)) =
    ap (λ (j : ℕ). length (held_list h) + j) (sym l) ∙ sym (length-append (held_list h) (bytes_told v)) ∙ ap length (sym m) in
    record {
      flow = rw (m, ← e) (simp (append-nil, append_assoc));
      runs_to_come = subst (λ (j : ℕ). runs false i j qs ≡ true) n t.rest;
      put_all = sym (write_none k i f a (count_of w));
      given_all = l ∙ sym (read_length k i f a (count_of w));
    }
flow_on k false i Destination s w f a qs v h wrote gave t l d e =
    let p = and_parts _ _ t.rest in
    let enough = leb-true (count_of w) (length (held_list h)) p.0 in
    let m : bytes_told v ++ held_list (held_rest w h) ≡ held_list h =
    ap (λ (x : Data). bytes_told x ++ held_list (held_rest w h)) (d refl) ∙ held_rest_list w h enough in
    let n : count_of w + length (held_list (held_rest w h)) ≡ length (held_list h) =
    ap (λ (j : ℕ). j + length (held_list (held_rest w h))) (sym l) ∙ sym (length-append (bytes_told v) (held_list (held_rest w h))) ∙ ap length m in
    let less : length (held_list h) - count_of w ≡ length (held_list (held_rest w h)) = omega arith in
    record {
      flow = append_assoc wrote (bytes_told v) (held_list (held_rest w h)) ∙ ap (λ (x : List ℕ). wrote ++ x) m ∙ e ∙ sym (append-nil gave);
      runs_to_come = subst (λ (j : ℕ). runs false i j qs ≡ true) less p.1;
      put_all = l ∙ sym (write_length k i f a (count_of w));
      given_all = sym (read_none k i f a (count_of w));
    }
flow_on k true i Through s w f a qs v h wrote gave t l d e =
    let p = and_parts _ _ t.rest in
    let z : held_list h ≡ [] = nil_from_length (held_list h) (eqb-true (length (held_list h)) 0 p.0) in
    let g : wrote ≡ gave = sym (append-nil wrote) ∙ ap (λ (x : List ℕ). wrote ++ x) (sym z) ∙ e in
    record {
      flow = ap (λ (x : List ℕ). (wrote ++ bytes_told v) ++ x) z ∙ append-nil (wrote ++ bytes_told v) ∙ ap (λ (x : List ℕ). x ++ bytes_told v) g;
      runs_to_come = p.1;
      put_all = l ∙ sym (single_written k i (kind_by Through k) f a (count_of w));
      given_all = l ∙ sym (single_read k i (kind_by Through k) f a (count_of w));
    }
