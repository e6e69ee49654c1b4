-- Addresses that are even stay even as they move on.
use Rattle.std.proofs.Common.{◌≡◌, ℕ, ◌+◌, ◌-◌, ◌*◌, ◌%◌, ◌≤◌, Bool, true, false, cond, not, ◌&&◌, eqb, refl, ap, ◌∙◌, arith}
use Rattle.registers.specs.Bits.{odd}
use Rattle.registers.specs.Config.{is_single, is_port16, is_misplaced, size_field, size_of, bytes_of, mac, dac, moved, next_mar, next_dar}
use Rattle.registers.specs.declared.groups.Config.{Config}
use Rattle.registers.specs.declared.groups.Size.TheVariants.{Byte, Word, Long}

moved_odd : (count n a : ℕ) → n % 2 ≡ 0 → n ≤ 8 → odd (moved count n a) ≡ odd a
moved_odd count n a e l = go (eqb count 1) (eqb count 2)
  where
    go : (s t : Bool) → odd (cond s ((a + n) % 4294967296) (cond t ((a + (4294967296 - n)) % 4294967296) a)) ≡ odd a
    go true t = ap (λ (m : ℕ). eqb m 1) (omega arith)
    go false true = ap (λ (m : ℕ). eqb m 1) (omega arith)
    go false false = refl

wide_odd : (count a : ℕ) (t : Bool) → odd (moved count (bytes_of (cond t Word Long)) a) ≡ odd a
wide_odd count a true = moved_odd count 2 a refl (omega arith)
wide_odd count a false = moved_odd count 4 a refl (omega arith)

-- Moved on by an operand's bytes, an address is as well placed as before.
moved_misplaced : (k : Config) (count a : ℕ) → is_misplaced k (moved count (bytes_of (size_of k)) a) ≡ is_misplaced k a
moved_misplaced k count a = go (eqb (size_field k) 0)
  where
    go : (t : Bool) → (not t && odd (moved count (bytes_of (cond t Byte (cond (eqb (size_field k) 1) Word Long))) a)) ≡ (not t && odd a)
    go true = refl
    go false = wide_odd count a (eqb (size_field k) 1)

pub next_mar_even : (k : Config) (a : ℕ) → is_misplaced k a ≡ false → is_misplaced k (next_mar k a) ≡ false
next_mar_even k a e = moved_misplaced k (mac k) a ∙ e

pub next_dar_even : (k : Config) (a : ℕ) → (not (is_single k) && (is_port16 k && is_misplaced k a)) ≡ false
    → (not (is_single k) && (is_port16 k && is_misplaced k (next_dar k a))) ≡ false
next_dar_even k a e = go (is_single k) (is_port16 k) e
  where
    go : (si p : Bool) → (not si && (p && is_misplaced k a)) ≡ false
        → (not si && (p && is_misplaced k (cond si a (moved (dac k) (cond p (bytes_of (size_of k)) (2 * bytes_of (size_of k))) a)))) ≡ false
    go true p f = refl
    go false true f = moved_misplaced k (dac k) a ∙ f
    go false false f = refl
