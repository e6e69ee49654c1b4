-- The slots of a ring in their order from the head on: how many are taken, which is where, and what a write and a later head leave.
use Rattle.std.proofs.Common.{◌≡◌, ℕ, ◌+◌, ◌-◌, ◌<◌, ◌≤◌, min, List, [], ◌∷◌, ◌++◌, length, take, drop, set, arith, length-append, length-drop, length-take, rules}
use Rattle.std.proofs.lemmas.List.{places, same_lists, length-set, get_or-set_same, get_or-set_other, take_more_set}
use Rattle.std.proofs.lemmas.Bool.{cases_eq}
use Rattle.std.proofs.lemmas.Bool.Decides.{nat_tests}
use borrow.Rule.Slice.PartMut.{put_mid}
use Rattle.queue.specs.Queue.{from_head, slot_of, held, capacity_of}
use Rattle.queue.specs.declared.ring.Queue.{Queue}

length_from_head : {T : Type 0} (head : ℕ) (xs : List T) → length (from_head head xs) ≡ length xs
length_from_head head xs = simp (length-append, length-drop, length-take) (omega arith)

pub length_held : {T : Type 0} (q : Queue T) → length (held q) ≡ q.len
length_held q = simp (length-take, length_from_head) (omega (arith, q.fits))

-- the part after the head, and what is left of the part before it
pub parts : {T : Type 0} (n : ℕ) (xs ys : List T) → take (min n (length xs)) xs ++ take (n - min n (length xs)) ys ≡ take n (xs ++ ys)
parts n xs ys = same_lists _ _ (search (rules, places)) (λ k d b. grind (arith, places, nat_tests))

-- the beginning of two parts, written one after the other over the beginning of `to`
pub written : {T : Type 0} (n k : ℕ) (first rest to : List T) → k ≡ min n (length first) → n ≤ length (first ++ rest) → n ≤ length to →
    put_mid k (n - k) (take k first ++ drop k to) (take (n - k) rest) ≡ take n (first ++ rest) ++ drop n to
written n k first rest to e h l = same_lists _ _ (search (rules, places)) (λ i d b. grind (arith, places, nat_tests))

set_from_head : {T : Type 0} (head : ℕ) (xs : List T) (k : ℕ) (x : T) → k < length xs →
    from_head head (set xs (slot_of head k (length xs)) x) ≡ set (from_head head xs) k x
set_from_head head xs k x h =
    same_lists _ _ (search (rules, places))
    (λ i d b. grind (arith, places, nat_tests, length-set, get_or-set_same, get_or-set_other, cases_eq i k))

-- a write behind the newest adds it at the end
pub added : {T : Type 0} (head : ℕ) (xs : List T) (len : ℕ) (x : T) → len < length xs →
    take (len + 1) (from_head head (set xs (slot_of head len (length xs)) x)) ≡ take len (from_head head xs) ++ (x ∷ [])
added head xs len x h =
    rw (set_from_head head xs len x h) (take_more_set (from_head head xs) len x (simp length_from_head (omega arith)))

-- a head that is moved on leaves the elements before it out
pub skipped : {T : Type 0} (q : Queue T) (n head : ℕ) → n ≤ length (held q) → head ≡ slot_of q.head n (capacity_of q) →
    take (q.len - n) (from_head head q.slots.now) ≡ drop n (held q)
skipped q n head h f =
    let m = length_held q in
    let b = q.begins in
    same_lists _ _ (search (rules, places)) (λ k d b. grind (arith, places, nat_tests))
