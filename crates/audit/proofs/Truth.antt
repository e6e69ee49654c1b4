-- What a cycle tells is true: what its source gave, and what its destination then has.
use Rattle.std.proofs.Common.{◌≡◌, ℕ, zero, suc, ◌+◌, ◌<◌, ◌≤◌, Bool, true, false, cond, List, [], ◌∷◌, ◌++◌, length, get_or, drop, sym, refl, ap, ◌∙◌, append-nil, arith}
use Rattle.std.proofs.lemmas.Bool.{eq-eqb, ne_eqb, leb-true}
use Rattle.registers.specs.Config.{is_inward, is_device_memory}
use Rattle.registers.specs.declared.groups.Config.{Config}
use Rattle.bus.specs.Memory.{MemoryMeaning, byte_at, byte_set, low_address}
use Rattle.devices.specs.Bank.{BankMeaning, with_at, can_give, can_take, taken}
use Rattle.channel.specs.declared.state.Held.{Held}
use Rattle.cycle.specs.declared.carry.End.{End}
use Rattle.cycle.specs.declared.carry.End.TheVariants.{InMemory, InDevice, InChannel}
use Rattle.cycle.specs.declared.plan.Way.{Way}
use Rattle.cycle.specs.declared.plan.Way.TheVariants.{Source, Destination, Through}
use Rattle.cycle.specs.declared.plan.Side.{Side}
use Rattle.cycle.specs.declared.plan.Side.TheVariants.{Memory, Device}
use Rattle.cycle.specs.declared.record.Data.{Data}
use Rattle.cycle.specs.declared.record.Data.TheVariants.{Byte as ByteOf, Word as WordOf}
use Rattle.cycle.specs.declared.record.Kind.{Kind}
use Rattle.cycle.specs.declared.record.Kind.TheVariants.{Read, Write}
use Rattle.cycle.specs.Held.{data_bytes}
use Rattle.cycle.specs.Carry.{side_end, source_end_by, destination_end_by, count_of, is_source_ready, is_destination_ready, is_source_answered, is_destination_answered, data_got, bank_got, memory_put, bank_put}
use Rattle.cycle.specs.Serve.{kind_by}
use Rattle.audit.specs.Operand.{Place, in_memory, in_device, bare}
use Rattle.audit.specs.Book.{bytes_told, bytes_from, places_read, places_written}
use Rattle.audit.specs.Truth.{MemoryHolds, device_bytes}
use Rattle.audit.proofs.Basics.{no}
use Rattle.audit.proofs.Plan.{fits}

-- No address that is sent is the last of 32 bits.
low_next : (a : ℕ) → a < 16777216 → low_address a ≡ a + 1
low_next a h = omega arith

-- Places of memory have no device's bytes, and places of a device hold no memory's.
memory_no_device : (f a n : ℕ) (vs : List ℕ) → device_bytes (bytes_from (in_memory f) a n) vs ≡ []
memory_no_device f a zero vs = refl
memory_no_device f a (suc n) [] = refl
memory_no_device f a (suc n) (v ∷ vs) = memory_no_device f (a + 1) n vs

device_holds : (m : MemoryMeaning) (f a n : ℕ) (vs : List ℕ) → length vs ≡ n → MemoryHolds m (bytes_from (in_device f) a n) vs
device_holds m f a zero vs e = tt
device_holds m f a (suc n) [] e = absurd (omega arith)
device_holds m f a (suc n) (v ∷ vs) e = device_holds m f (a + 1) n vs (omega arith)

device_all : (f a n : ℕ) (vs : List ℕ) → length vs ≡ n → device_bytes (bytes_from (in_device f) a n) vs ≡ vs
device_all f a zero [] e = refl
device_all f a zero (v ∷ vs) e = absurd (omega arith)
device_all f a (suc n) [] e = absurd (omega arith)
device_all f a (suc n) (v ∷ vs) e = ap (λ (l : List ℕ). v ∷ l) (device_all f (a + 1) n vs (omega arith))

bare_holds : (m : MemoryMeaning) (n : ℕ) (vs : List ℕ) → length vs ≡ n → MemoryHolds m (bare n) vs
bare_holds m zero vs e = tt
bare_holds m (suc n) [] e = absurd (omega arith)
bare_holds m (suc n) (v ∷ vs) e = bare_holds m n vs (omega arith)

bare_all : (n : ℕ) (vs : List ℕ) → length vs ≡ n → device_bytes (bare n) vs ≡ vs
bare_all zero [] e = refl
bare_all zero (v ∷ vs) e = absurd (omega arith)
bare_all (suc n) [] e = absurd (omega arith)
bare_all (suc n) (v ∷ vs) e = ap (λ (l : List ℕ). v ∷ l) (bare_all n vs (omega arith))

pub told_bytes : (v : Data) → data_bytes v ≡ bytes_told v
told_bytes (ByteOf x) = refl
told_bytes (WordOf x y) = refl

-- What an end gave.
pub record Gave (e : End) (n : ℕ) (w : Bool) (ps : List Place) (vs : List ℕ) (m : MemoryMeaning) (b : BankMeaning) : Type 0 where
  pub memory : MemoryHolds m ps vs
  pub device : b.waiting n ≡ device_bytes ps vs ++ (bank_got e n w b).waiting n

-- Memory gives what stands there.
pub word_holds : (f a : ℕ) (m : MemoryMeaning) → a < 16777216 → MemoryHolds m (bytes_from (in_memory f) a 2) (byte_at f a m ∷ byte_at f (low_address a) m ∷ [])
word_holds f a m h = (refl, (ap (λ (i : ℕ). byte_at f i m) (sym (low_next a h)), tt))

memory_gave : (n f a : ℕ) (w : Bool) (h : Held) (m : MemoryMeaning) (b : BankMeaning) → a < 16777216 → is_source_answered InMemory f a w m ≡ true
    → Gave InMemory n w (bytes_from (in_memory f) a (count_of w)) (bytes_told (data_got InMemory n f a w h m b)) m b
memory_gave n f a true h m b l e = record {
  memory = rw e (word_holds f a m l);
  device = ap (λ (x : List ℕ). x ++ b.waiting n) (sym (memory_no_device f a 2 (bytes_told (data_got InMemory n f a true h m b))));
}
memory_gave n f a false h m b l e = record {
  memory = rw e (refl, tt);
  device = ap (λ (x : List ℕ). x ++ b.waiting n) (sym (memory_no_device f a 1 (bytes_told (data_got InMemory n f a false h m b))));
}

-- A device gives what waited first.
first_two : (l : List ℕ) → 2 ≤ length l → l ≡ get_or l 0 0 ∷ get_or l 1 0 ∷ drop 2 l
first_two [] h = absurd (omega arith)
first_two (x ∷ []) h = absurd (omega arith)
first_two (x ∷ y ∷ l) h = refl

first_one : (l : List ℕ) → 1 ≤ length l → l ≡ get_or l 0 0 ∷ drop 1 l
first_one [] h = absurd (omega arith)
first_one (x ∷ l) h = refl

at_itself : {X : Type 0} (n : ℕ) (x : X) (all : ℕ → X) → with_at n x all n ≡ x
at_itself n x all = rw (eq-eqb n n refl) refl

device_gave : (n f a : ℕ) (w : Bool) (h : Held) (m : MemoryMeaning) (b : BankMeaning) → can_give n (count_of w) b ≡ true
    → b.waiting n ≡ bytes_told (data_got InDevice n f a w h m b) ++ (bank_got InDevice n w b).waiting n
device_gave n f a true h m b e =
    rw (e, at_itself n (drop 2 (b.waiting n)) b.waiting) (first_two (b.waiting n) (leb-true 2 (length (b.waiting n)) e))
device_gave n f a false h m b e =
    rw (e, at_itself n (drop 1 (b.waiting n)) b.waiting) (first_one (b.waiting n) (leb-true 1 (length (b.waiting n)) e))

dual_gave : (n f a : ℕ) (w : Bool) (h : Held) (m : MemoryMeaning) (b : BankMeaning) → length (bytes_told (data_got InDevice n f a w h m b)) ≡ count_of w → can_give n (count_of w) b ≡ true
    → Gave InDevice n w (bytes_from (in_device f) a (count_of w)) (bytes_told (data_got InDevice n f a w h m b)) m b
dual_gave n f a w h m b l e =
    let vs = bytes_told (data_got InDevice n f a w h m b) in
    record {
      memory = device_holds m f a (count_of w) vs l;
      device = device_gave n f a w h m b e ∙ ap (λ (x : List ℕ). x ++ (bank_got InDevice n w b).waiting n) (sym (device_all f a (count_of w) vs l));
    }

bare_gave : (n f a : ℕ) (w : Bool) (h : Held) (m : MemoryMeaning) (b : BankMeaning) → length (bytes_told (data_got InDevice n f a w h m b)) ≡ count_of w → can_give n (count_of w) b ≡ true
    → Gave InDevice n w (bare (count_of w)) (bytes_told (data_got InDevice n f a w h m b)) m b
bare_gave n f a w h m b l e =
    let vs = bytes_told (data_got InDevice n f a w h m b) in
    record {
      memory = bare_holds m (count_of w) vs l;
      device = device_gave n f a w h m b e ∙ ap (λ (x : List ℕ). x ++ (bank_got InDevice n w b).waiting n) (sym (bare_all (count_of w) vs l));
    }

-- The device side under dual addressing.
side_gave : (t : Bool) (n f a : ℕ) (w : Bool) (h : Held) (m : MemoryMeaning) (b : BankMeaning) → a < 16777216
    → length (bytes_told (data_got (cond t InMemory InDevice) n f a w h m b)) ≡ count_of w
    → is_source_ready (cond t InMemory InDevice) n w b ≡ true → is_source_answered (cond t InMemory InDevice) f a w m ≡ true
    → Gave (cond t InMemory InDevice) n w (bytes_from (λ x. cond t (in_memory f x) (in_device f x)) a (count_of w)) (bytes_told (data_got (cond t InMemory InDevice) n f a w h m b)) m b
side_gave true n f a w h m b i l r e = memory_gave n f a w h m b i e
side_gave false n f a w h m b i l r e = dual_gave n f a w h m b l r

source_gave : (t : Bool) (s : Side) (k : Config) (n f a : ℕ) (w : Bool) (h : Held) (m : MemoryMeaning) (b : BankMeaning) → fits false t Source s ≡ true → a < 16777216
    → length (bytes_told (data_got (side_end s k) n f a w h m b)) ≡ count_of w
    → is_source_ready (side_end s k) n w b ≡ true → is_source_answered (side_end s k) f a w m ≡ true
    → Gave (side_end s k) n w (places_read false t k Read f a (count_of w)) (bytes_told (data_got (side_end s k) n f a w h m b)) m b
source_gave true Memory k n f a w h m b u i l r e = no u
source_gave true Device k n f a w h m b u i l r e = side_gave (is_device_memory k) n f a w h m b i l r e
source_gave false Memory k n f a w h m b u i l r e = memory_gave n f a w h m b i e
source_gave false Device k n f a w h m b u i l r e = no u

through_gave : (t : Bool) (k : Config) (kind : Kind) (n f a : ℕ) (w : Bool) (h : Held) (m : MemoryMeaning) (b : BankMeaning) → a < 16777216
    → length (bytes_told (data_got (cond t InDevice InMemory) n f a w h m b)) ≡ count_of w
    → is_source_ready (cond t InDevice InMemory) n w b ≡ true → is_source_answered (cond t InDevice InMemory) f a w m ≡ true
    → Gave (cond t InDevice InMemory) n w (places_read true t k kind f a (count_of w)) (bytes_told (data_got (cond t InDevice InMemory) n f a w h m b)) m b
through_gave true k kind n f a w h m b i l r e = bare_gave n f a w h m b l r
through_gave false k kind n f a w h m b i l r e = memory_gave n f a w h m b i e

held_gave : (t : Bool) (k : Config) (n f a : ℕ) (w : Bool) (vs : List ℕ) (m : MemoryMeaning) (b : BankMeaning)
    → Gave InChannel n w (places_read false t k Write f a (count_of w)) vs m b
held_gave true k n f a w vs m b = record { memory = tt; device = refl }
held_gave false k n f a w vs m b = record { memory = tt; device = refl }

-- The source of every cycle.
pub gave_true : (si : Bool) (y : Way) (s : Side) (k : Config) (n f a : ℕ) (w : Bool) (h : Held) (m : MemoryMeaning) (b : BankMeaning) → fits si (is_inward k) y s ≡ true → a < 16777216
    → length (bytes_told (data_got (source_end_by y s k) n f a w h m b)) ≡ count_of w
    → is_source_ready (source_end_by y s k) n w b ≡ true → is_source_answered (source_end_by y s k) f a w m ≡ true
    → Gave (source_end_by y s k) n w (places_read si (is_inward k) k (kind_by y k) f a (count_of w)) (bytes_told (data_got (source_end_by y s k) n f a w h m b)) m b
gave_true true Source s k n f a w h m b u i l r e = no u
gave_true true Destination s k n f a w h m b u i l r e = no u
gave_true true Through s k n f a w h m b u i l r e = through_gave (is_inward k) k (kind_by Through k) n f a w h m b i l r e
gave_true false Source s k n f a w h m b u i l r e = source_gave (is_inward k) s k n f a w h m b u i l r e
gave_true false Destination s k n f a w h m b u i l r e = held_gave (is_inward k) k n f a w _ m b
gave_true false Through s k n f a w h m b u i l r e = no u

-- What an end has after the cycle.
pub record Has (e : End) (n f a : ℕ) (ps : List Place) (v : Data) (m : MemoryMeaning) (b : BankMeaning) : Type 0 where
  pub memory : MemoryHolds (memory_put e v f a m) ps (bytes_told v)
  pub device : (bank_put e v n b).kept n ≡ b.kept n ++ device_bytes ps (bytes_told v)

-- A byte that is set is there, and the one after it leaves it.
set_here : (f a v : ℕ) (m : MemoryMeaning) → byte_at f a (byte_set f a v m) ≡ v
set_here f a v m = rw (eq-eqb (m.space f) (m.space f) refl, eq-eqb a a refl) refl

set_before : (f a b v : ℕ) (m : MemoryMeaning) → (a ≡ b → ⊥) → byte_at f a (byte_set f b v m) ≡ byte_at f a m
set_before f a b v m h = rw (eq-eqb (m.space f) (m.space f) refl, ne_eqb a b h) refl

memory_has : (n f a : ℕ) (w : Bool) (v : Data) (m : MemoryMeaning) (b : BankMeaning) → a < 16777216 → length (bytes_told v) ≡ count_of w → is_destination_answered InMemory f a w m ≡ true
    → Has InMemory n f a (bytes_from (in_memory f) a (count_of w)) v m b
memory_has n f a true (ByteOf x) m b i l e = absurd (omega arith)
memory_has n f a false (WordOf x y) m b i l e = absurd (omega arith)
memory_has n f a false (ByteOf x) m b i l e = record {
  memory = rw e (set_here f a x m, tt);
  device = sym (append-nil (b.kept n)) ∙ ap (λ (z : List ℕ). b.kept n ++ z) (sym (memory_no_device f a 1 (x ∷ [])));
}
memory_has n f a true (WordOf x y) m b i l e = record {
  memory = rw e (
    set_before f a (low_address a) y (byte_set f a x m) (λ q. let z = low_next a i in omega arith) ∙ set_here f a x m,
    (
      ap (λ (j : ℕ). byte_at f j (byte_set f (low_address a) y (byte_set f a x m))) (sym (low_next a i)) ∙ set_here f (low_address a) y (byte_set f a x m),
      tt,
    ),
  );
  device = sym (append-nil (b.kept n)) ∙ ap (λ (z : List ℕ). b.kept n ++ z) (sym (memory_no_device f a 2 (x ∷ y ∷ [])));
}

-- A device keeps bytes last.
device_kept : (n : ℕ) (w : Bool) (v : Data) (b : BankMeaning) → length (bytes_told v) ≡ count_of w → can_take n (count_of w) b ≡ true
    → (bank_put InDevice v n b).kept n ≡ b.kept n ++ bytes_told v
device_kept n w v b l e =
    let p : can_take n (length (data_bytes v)) b ≡ true = ap (λ (j : ℕ). can_take n j b) (ap length (told_bytes v) ∙ l) ∙ e in
    ap (λ (t : Bool). (cond t (taken n (data_bytes v) b) b).kept n) p
    ∙ at_itself n (b.kept n ++ data_bytes v) b.kept ∙ ap (λ (z : List ℕ). b.kept n ++ z) (told_bytes v)

dual_has : (n f a : ℕ) (w : Bool) (v : Data) (m : MemoryMeaning) (b : BankMeaning) → length (bytes_told v) ≡ count_of w → can_take n (count_of w) b ≡ true
    → Has InDevice n f a (bytes_from (in_device f) a (count_of w)) v m b
dual_has n f a w v m b l e = record {
  memory = device_holds m f a (count_of w) (bytes_told v) l;
  device = device_kept n w v b l e ∙ ap (λ (z : List ℕ). b.kept n ++ z) (sym (device_all f a (count_of w) (bytes_told v) l));
}

bare_has : (n f a : ℕ) (w : Bool) (v : Data) (m : MemoryMeaning) (b : BankMeaning) → length (bytes_told v) ≡ count_of w → can_take n (count_of w) b ≡ true
    → Has InDevice n f a (bare (count_of w)) v m b
bare_has n f a w v m b l e = record {
  memory = bare_holds m (count_of w) (bytes_told v) l;
  device = device_kept n w v b l e ∙ ap (λ (z : List ℕ). b.kept n ++ z) (sym (bare_all (count_of w) (bytes_told v) l));
}

side_has : (t : Bool) (n f a : ℕ) (w : Bool) (v : Data) (m : MemoryMeaning) (b : BankMeaning) → a < 16777216 → length (bytes_told v) ≡ count_of w
    → is_destination_ready (cond t InMemory InDevice) n w b ≡ true → is_destination_answered (cond t InMemory InDevice) f a w m ≡ true
    → Has (cond t InMemory InDevice) n f a (bytes_from (λ x. cond t (in_memory f x) (in_device f x)) a (count_of w)) v m b
side_has true n f a w v m b i l r e = memory_has n f a w v m b i l e
side_has false n f a w v m b i l r e = dual_has n f a w v m b l r

destination_has : (t : Bool) (s : Side) (k : Config) (n f a : ℕ) (w : Bool) (v : Data) (m : MemoryMeaning) (b : BankMeaning) → fits false t Destination s ≡ true → a < 16777216
    → length (bytes_told v) ≡ count_of w → is_destination_ready (side_end s k) n w b ≡ true → is_destination_answered (side_end s k) f a w m ≡ true
    → Has (side_end s k) n f a (places_written false t k Write f a (count_of w)) v m b
destination_has true Memory k n f a w v m b u i l r e = memory_has n f a w v m b i l e
destination_has true Device k n f a w v m b u i l r e = no u
destination_has false Memory k n f a w v m b u i l r e = no u
destination_has false Device k n f a w v m b u i l r e = side_has (is_device_memory k) n f a w v m b i l r e

through_has : (t : Bool) (k : Config) (kind : Kind) (n f a : ℕ) (w : Bool) (v : Data) (m : MemoryMeaning) (b : BankMeaning) → a < 16777216 → length (bytes_told v) ≡ count_of w
    → is_destination_ready (cond t InMemory InDevice) n w b ≡ true → is_destination_answered (cond t InMemory InDevice) f a w m ≡ true
    → Has (cond t InMemory InDevice) n f a (places_written true t k kind f a (count_of w)) v m b
through_has true k kind n f a w v m b i l r e = memory_has n f a w v m b i l e
through_has false k kind n f a w v m b i l r e = bare_has n f a w v m b l r

held_has : (t : Bool) (k : Config) (n f a : ℕ) (w : Bool) (v : Data) (m : MemoryMeaning) (b : BankMeaning)
    → Has InChannel n f a (places_written false t k Read f a (count_of w)) v m b
held_has true k n f a w v m b = record { memory = tt; device = sym (append-nil (b.kept n)) }
held_has false k n f a w v m b = record { memory = tt; device = sym (append-nil (b.kept n)) }

-- The destination of every cycle.
pub has_true : (si : Bool) (y : Way) (s : Side) (k : Config) (n f a : ℕ) (w : Bool) (v : Data) (m : MemoryMeaning) (b : BankMeaning) → fits si (is_inward k) y s ≡ true → a < 16777216
    → length (bytes_told v) ≡ count_of w → is_destination_ready (destination_end_by y s k) n w b ≡ true → is_destination_answered (destination_end_by y s k) f a w m ≡ true
    → Has (destination_end_by y s k) n f a (places_written si (is_inward k) k (kind_by y k) f a (count_of w)) v m b
has_true true Source s k n f a w v m b u i l r e = no u
has_true true Destination s k n f a w v m b u i l r e = no u
has_true true Through s k n f a w v m b u i l r e = through_has (is_inward k) k (kind_by Through k) n f a w v m b i l r e
has_true false Source s k n f a w v m b u i l r e = held_has (is_inward k) k n f a w v m b
has_true false Destination s k n f a w v m b u i l r e = destination_has (is_inward k) s k n f a w v m b u i l r e
has_true false Through s k n f a w v m b u i l r e = no u
