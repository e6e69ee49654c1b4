-- Each byte of a fill is spelt by a pair of its digits, and there are half as many bytes as digits.
use Rattle.std.proofs.Common.{◌≡◌, ℕ, zero, suc, ◌+◌, ◌*◌, ◌/◌, ◌<◌, List, [], ◌∷◌, length, get_or, map, refl, ap, ◌∙◌, arith}
use Rattle.std.specs.List.{slice_index}
use Rattle.std.specs.Simd.{first_chunks}
use Rattle.script.specs.Digits.{digit_value, data_bytes}

pub data_count : (s : List ℕ) → length s / 2 ≡ length (data_bytes s)
data_count [] = refl
data_count (high ∷ []) = refl
data_count (high ∷ low ∷ s) = omega (arith, data_count s)

pub data_byte : (s : List ℕ) (i : ℕ) → 2 * i + 1 < length s →
    16 * digit_value (get_or s (2 * i) 0) + digit_value (get_or s (2 * i + 1) 0) ≡ get_or (data_bytes s) i 0
data_byte [] i h = absurd (omega arith)
data_byte (high ∷ []) i h = absurd (omega arith)
data_byte (high ∷ low ∷ s) zero h = refl
data_byte (high ∷ low ∷ s) (suc i) h =
    let e : 2 * suc i ≡ suc (suc (2 * i)) = omega arith in
    let f : 2 * suc i + 1 ≡ suc (suc (2 * i + 1)) = omega arith in
    rw (f, e) (data_byte s i (omega arith))

-- the byte that a pair spells
abbrev spelled : List ℕ → ℕ
spelled pair = 16 * digit_value (get_or pair 0 0) + digit_value (get_or pair 1 0)

each_spelled : (s : List ℕ) → data_bytes s ≡ map spelled (first_chunks 2 (length s / 2) s)
each_spelled [] = refl
each_spelled (high ∷ []) = refl
each_spelled (high ∷ low ∷ s) =
    let e : length (high ∷ low ∷ s) / 2 ≡ suc (length s / 2) = omega arith in
    rw e (ap (λ (bs : List ℕ). (16 * digit_value high + digit_value low) ∷ bs) (each_spelled s))

one_spelled : (pairs : List (List ℕ)) (i : ℕ) → get_or (map spelled pairs) i 0 ≡ spelled (get_or pairs i [])
one_spelled [] i = refl
one_spelled (pair ∷ pairs) zero = refl
one_spelled (pair ∷ pairs) (suc i) = one_spelled pairs i

pub pair_byte : (s : List ℕ) (i : ℕ) (pair : List ℕ) → pair ≡ get_or (first_chunks 2 (length s / 2) s) i []
    → slice_index (data_bytes s) i ≡ 16 * digit_value (get_or pair 0 0) + digit_value (get_or pair 1 0)
pair_byte s i pair e = rw e (ap (λ (bs : List ℕ). get_or bs i 0) (each_spelled s) ∙ one_spelled (first_chunks 2 (length s / 2) s) i)
