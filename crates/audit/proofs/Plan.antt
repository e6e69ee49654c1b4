-- The plan of an operand's cycles, as the book reads them.
use Rattle.std.proofs.Common.{◌≡◌, ℕ, ◌+◌, ◌-◌, ◌%◌, Bool, true, false, cond, not, ◌&&◌, eqb, ltb, leb, List, [], ◌∷◌, ◌++◌, length, refl, ap, ◌∙◌, ap₂, arith}
use Rattle.std.proofs.lemmas.Bool.{eqb-false}
use Rattle.registers.specs.Bits.{odd}
use Rattle.registers.specs.Config.{is_single, is_inward, is_port16, is_misplaced, size_field, size_of, bytes_of}
use Rattle.registers.specs.declared.groups.Config.{Config}
use Rattle.registers.specs.declared.groups.Counters.{Counters}
use Rattle.registers.specs.declared.groups.Size.{Size}
use Rattle.registers.specs.declared.groups.Size.TheVariants.{Byte, Word, Long}
use Rattle.cycle.specs.declared.plan.Way.{Way}
use Rattle.cycle.specs.declared.plan.Way.TheVariants.{Source, Destination, Through}
use Rattle.cycle.specs.declared.plan.Side.{Side}
use Rattle.cycle.specs.declared.plan.Side.TheVariants.{Memory, Device}
use Rattle.cycle.specs.declared.plan.Slot.{Slot}
use Rattle.cycle.specs.Plan.{plan_by, plan}
use Rattle.cycle.specs.Carry.{count_of}
use Rattle.cycle.specs.Serve.{kind_by}
use Rattle.audit.specs.Operand.{Place, in_memory, device_place, bare, paired, sent_at, spread, device_places_by, directed, operand}
use Rattle.audit.specs.Book.{places_read, places_written, bytes_from}

-- The function code and the address that a cycle sends, by the registers.
abbrev pub code_at : Side → Config → Counters → ℕ
code_at Memory k n = n.mfc
code_at Device k n = k.dfc

abbrev pub address_at : Side → ℕ → Counters → ℕ
address_at Memory o n = sent_at n.mar o
address_at Device o n = sent_at n.dar o

-- Where the bytes of a cycle come from and go to, under single addressing or not, inward or not.
abbrev pub slot_froms : Config → Counters → Bool → Bool → Slot → List Place
slot_froms k n si i q = places_read si i k (kind_by q.way k) (code_at q.side k n) (address_at q.side q.offset n) (count_of q.word)

abbrev pub slot_tos : Config → Counters → Bool → Bool → Slot → List Place
slot_tos k n si i q = places_written si i k (kind_by q.way k) (code_at q.side k n) (address_at q.side q.offset n) (count_of q.word)

abbrev pub all_froms : Config → Counters → Bool → Bool → List Slot → List Place
all_froms k n si i [] = []
all_froms k n si i (q ∷ qs) = slot_froms k n si i q ++ all_froms k n si i qs

abbrev pub all_tos : Config → Counters → Bool → Bool → List Slot → List Place
all_tos k n si i [] = []
all_tos k n si i (q ∷ qs) = slot_tos k n si i q ++ all_tos k n si i qs

-- How many bytes a cycle writes to the operand's destination, and how many all do.
abbrev pub written_by : Way → ℕ → ℕ
written_by Source n = 0
written_by Destination n = n
written_by Through n = n

abbrev pub total_written : List Slot → ℕ
total_written [] = 0
total_written (q ∷ qs) = written_by q.way (count_of q.word) + total_written qs

-- A cycle is on the side of its way.
abbrev pub is_on_side : Side → Bool → Bool
is_on_side Memory memory = memory
is_on_side Device memory = not memory

abbrev pub fits : Bool → Bool → Way → Side → Bool
fits true i Source s = false
fits true i Destination s = false
fits true i Through s = is_on_side s true
fits false i Through s = false
fits false i Source s = is_on_side s (not i)
fits false i Destination s = is_on_side s i

-- With h bytes held the cycles can be carried out and hold none at the end, and each has a destination at it or after it.
abbrev pub runs_on : (ℕ → Bool) → ℕ → Way → ℕ → Bool
runs_on f h Source n = f (h + n)
runs_on f h Destination n = leb n h && f (h - n)
runs_on f h Through n = eqb h 0 && f h

unfoldable pub runs : Bool → Bool → ℕ → List Slot → Bool
runs si i h [] = eqb h 0
runs si i h (q ∷ qs) =
    fits si i q.way q.side
    && (ltb 0 (total_written (q ∷ qs)) && (leb h 2 && runs_on (λ m. runs si i m qs) h q.way (count_of q.word)))

-- A side of two bytes a cycle, as the cycles tell it: the second byte is at the address after the first.
abbrev pub told_wide : (ℕ → Place) → ℕ → Size → List Place
told_wide at r Byte = bytes_from at (sent_at r 0) 1
told_wide at r Word = bytes_from at (sent_at r 0) 2
told_wide at r Long = bytes_from at (sent_at r 0) 2 ++ bytes_from at (sent_at r 2) 2

abbrev pub told_device : Bool → Bool → Config → ℕ → Size → List Place
told_device true p k dar z = bare (bytes_of z)
told_device false true k dar z = told_wide (device_place k k.dfc) dar z
told_device false false k dar z = spread (device_place k k.dfc) dar 0 2 (bytes_of z)

-- Each of the 24 plans.
pub plan_runs : (si p i : Bool) (z : Size) → runs si i 0 (plan_by si p i z) ≡ true
unfolding runs
plan_runs true true true Byte = refl
plan_runs true true true Word = refl
plan_runs true true true Long = refl
plan_runs true true false Byte = refl
plan_runs true true false Word = refl
plan_runs true true false Long = refl
plan_runs true false true Byte = refl
plan_runs true false true Word = refl
plan_runs true false true Long = refl
plan_runs true false false Byte = refl
plan_runs true false false Word = refl
plan_runs true false false Long = refl
plan_runs false true true Byte = refl
plan_runs false true true Word = refl
plan_runs false true true Long = refl
plan_runs false true false Byte = refl
plan_runs false true false Word = refl
plan_runs false true false Long = refl
plan_runs false false true Byte = refl
plan_runs false false true Word = refl
plan_runs false false true Long = refl
plan_runs false false false Byte = refl
plan_runs false false false Word = refl
plan_runs false false false Long = refl

pub plan_total : (si p i : Bool) (z : Size) → total_written (plan_by si p i z) ≡ bytes_of z
plan_total true true true Byte = refl
plan_total true true true Word = refl
plan_total true true true Long = refl
plan_total true true false Byte = refl
plan_total true true false Word = refl
plan_total true true false Long = refl
plan_total true false true Byte = refl
plan_total true false true Word = refl
plan_total true false true Long = refl
plan_total true false false Byte = refl
plan_total true false false Word = refl
plan_total true false false Long = refl
plan_total false true true Byte = refl
plan_total false true true Word = refl
plan_total false true true Long = refl
plan_total false true false Byte = refl
plan_total false true false Word = refl
plan_total false true false Long = refl
plan_total false false true Byte = refl
plan_total false false true Word = refl
plan_total false false true Long = refl
plan_total false false false Byte = refl
plan_total false false false Word = refl
plan_total false false false Long = refl

plan_moves : (k : Config) (n : Counters) (si p i : Bool) (z : Size)
    → paired (all_froms k n si i (plan_by si p i z)) (all_tos k n si i (plan_by si p i z))
    ≡ directed i (told_wide (in_memory n.mfc) n.mar z) (told_device si p k n.dar z)
plan_moves k n true true true Byte = refl
plan_moves k n true true true Word = refl
plan_moves k n true true true Long = refl
plan_moves k n true true false Byte = refl
plan_moves k n true true false Word = refl
plan_moves k n true true false Long = refl
plan_moves k n true false true Byte = refl
plan_moves k n true false true Word = refl
plan_moves k n true false true Long = refl
plan_moves k n true false false Byte = refl
plan_moves k n true false false Word = refl
plan_moves k n true false false Long = refl
plan_moves k n false true true Byte = refl
plan_moves k n false true true Word = refl
plan_moves k n false true true Long = refl
plan_moves k n false true false Byte = refl
plan_moves k n false true false Word = refl
plan_moves k n false true false Long = refl
plan_moves k n false false true Byte = refl
plan_moves k n false false true Word = refl
plan_moves k n false false true Long = refl
plan_moves k n false false false Byte = refl
plan_moves k n false false false Word = refl
plan_moves k n false false false Long = refl

plan_even : (k : Config) (n : Counters) (si p i : Bool) (z : Size)
    → length (all_froms k n si i (plan_by si p i z)) ≡ length (all_tos k n si i (plan_by si p i z))
plan_even k n true true true Byte = refl
plan_even k n true true true Word = refl
plan_even k n true true true Long = refl
plan_even k n true true false Byte = refl
plan_even k n true true false Word = refl
plan_even k n true true false Long = refl
plan_even k n true false true Byte = refl
plan_even k n true false true Word = refl
plan_even k n true false true Long = refl
plan_even k n true false false Byte = refl
plan_even k n true false false Word = refl
plan_even k n true false false Long = refl
plan_even k n false true true Byte = refl
plan_even k n false true true Word = refl
plan_even k n false true true Long = refl
plan_even k n false true false Byte = refl
plan_even k n false true false Word = refl
plan_even k n false true false Long = refl
plan_even k n false false true Byte = refl
plan_even k n false false true Word = refl
plan_even k n false false true Long = refl
plan_even k n false false false Byte = refl
plan_even k n false false false Word = refl
plan_even k n false false false Long = refl

-- At an even address the second byte's own address is the one after the first's.
next_sent : (r o : ℕ) → odd r ≡ false → o % 2 ≡ 0 → sent_at r o + 1 ≡ sent_at r (o + 1)
next_sent r o e f = let h = eqb-false (r % 2) 1 e in omega arith

wide_told : (at : ℕ → Place) (r : ℕ) (z : Size) → odd r ≡ false → told_wide at r z ≡ spread at r 0 1 (bytes_of z)
wide_told at r Byte e = refl
wide_told at r Word e = ap (λ (a : ℕ). at (sent_at r 0) ∷ at a ∷ []) (next_sent r 0 e refl)
wide_told at r Long e =
    ap₂ (λ (a b : ℕ). at (sent_at r 0) ∷ at a ∷ at (sent_at r 2) ∷ at b ∷ []) (next_sent r 0 e refl) (next_sent r 2 e refl)

-- An operand above a byte is at an even address; a byte may be anywhere.
side_told : (at : ℕ → Place) (k : Config) (r : ℕ) → is_misplaced k r ≡ false → told_wide at r (size_of k) ≡ spread at r 0 1 (bytes_of (size_of k))
side_told at k r e = go (eqb (size_field k) 0) e
  where
    go : (t : Bool) → (not t && odd r) ≡ false
        → told_wide at r (cond t Byte (cond (eqb (size_field k) 1) Word Long)) ≡ spread at r 0 1 (bytes_of (cond t Byte (cond (eqb (size_field k) 1) Word Long)))
    go true f = refl
    go false f = wide_told at r (cond (eqb (size_field k) 1) Word Long) f

device_told : (si p : Bool) (k : Config) (r : ℕ) → (not si && (p && is_misplaced k r)) ≡ false
    → told_device si p k r (size_of k) ≡ device_places_by si p k r (bytes_of (size_of k))
device_told true p k r e = refl
device_told false true k r e = side_told (device_place k k.dfc) k r e
device_told false false k r e = refl

-- What all cycles of the plan move is the operand at the address registers.
pub moves_planned : (k : Config) (n : Counters) → is_misplaced k n.mar ≡ false
    → (not (is_single k) && (is_port16 k && is_misplaced k n.dar)) ≡ false
    → paired (all_froms k n (is_single k) (is_inward k) (plan k)) (all_tos k n (is_single k) (is_inward k) (plan k))
    ≡ (operand k n.mfc n.mar n.dar).moves
unfolding operand
moves_planned k n e f =
    plan_moves k n (is_single k) (is_port16 k) (is_inward k) (size_of k)
    ∙ ap₂ (λ (a b : List Place). directed (is_inward k) a b)
    (side_told (in_memory n.mfc) k n.mar e) (device_told (is_single k) (is_port16 k) k n.dar f)

pub even_planned : (k : Config) (n : Counters)
    → length (all_froms k n (is_single k) (is_inward k) (plan k)) ≡ length (all_tos k n (is_single k) (is_inward k) (plan k))
even_planned k n = plan_even k n (is_single k) (is_port16 k) (is_inward k) (size_of k)

pub runs_planned : (k : Config) → runs (is_single k) (is_inward k) 0 (plan k) ≡ true
runs_planned k = plan_runs (is_single k) (is_port16 k) (is_inward k) (size_of k)

pub total_planned : (k : Config) → total_written (plan k) ≡ bytes_of (size_of k)
total_planned k = plan_total (is_single k) (is_port16 k) (is_inward k) (size_of k)
