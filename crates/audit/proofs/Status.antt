-- What the changes of the status register make of ACT.
use Rattle.std.proofs.Common.{◌≡◌, ℕ, ◌-◌, ◌*◌, ◌/◌, ◌%◌, ◌^◌, ◌≤◌, min, max, true, false, not, eqb, ap, ◌∙◌, arith}
use lib.Bits.{bit_and, bit_or, and_shr, or_shr, and_step, or_step, and_high, and_le_r}
use Rattle.std.proofs.lemmas.Bool.{eqb-true, not-false}
use Rattle.registers.specs.declared.fault.Fault.{Fault}
use Rattle.registers.specs.declared.groups.Status.{Status}
use Rattle.registers.specs.Status.{is_active, is_busy, failed, activated, completed, ended, block_done, cleared}

-- One bit of a number.
abbrev place : ℕ → ℕ → ℕ
place n k = n / 2 ^ k % 2

place_and : (a b k : ℕ) → place (bit_and a b) k ≡ min (place a k) (place b k)
place_and a b k = ap (λ (n : ℕ). n % 2) (and_shr a b k) ∙ omega (arith, and_step (a / 2 ^ k) (b / 2 ^ k))

place_or : (a b k : ℕ) → place (bit_or a b) k ≡ max (place a k) (place b k)
place_or a b k = ap (λ (n : ℕ). n % 2) (or_shr a b k) ∙ omega (arith, or_step (a / 2 ^ k) (b / 2 ^ k))

-- The test of ACT reads bit 3.
active_place : (v : ℕ) → bit_and v 8 ≡ 8 * place v 3
active_place v = omega (arith, and_high v 1 3)

-- What a change that ends an operation sets, its mask clears ACT.
stopped : (v m : ℕ) → not (eqb (bit_and (bit_and (bit_or v m) 0xF7) 8) 0) ≡ false
stopped v m =
    let w = bit_and (bit_or v m) 0xF7 in
    let e : bit_and w 8 ≡ 0 = omega (arith, active_place w, place_and (bit_or v m) 0xF7 3) in
    ap (λ (n : ℕ). not (eqb n 0)) e

pub failed_inactive : (f : Fault) (s : Status) → is_active (failed f s) ≡ false
failed_inactive f s = stopped s.csr 0x90

pub completed_inactive : (s : Status) → is_active (completed s) ≡ false
completed_inactive s = stopped s.csr 0x80

pub ended_inactive : (s : Status) → is_active (ended s) ≡ false
ended_inactive s = stopped s.csr 0xA0

pub activated_active : (s : Status) → is_active (activated s) ≡ true
activated_active s =
    let m = bit_or s.csr 0x08 in
    let e : bit_and m 8 ≡ 8 = omega (arith, active_place m, place_or s.csr 0x08 3) in
    ap (λ (n : ℕ). not (eqb n 0)) e

pub block_done_active : (s : Status) → is_active (block_done s) ≡ is_active s
block_done_active s =
    let m = bit_or s.csr 0x40 in
    let e : bit_and m 8 ≡ bit_and s.csr 8 = omega (arith, active_place m, active_place s.csr, place_or s.csr 0x40 3) in
    ap (λ (n : ℕ). not (eqb n 0)) e

pub cleared_active : (v : ℕ) (s : Status) → is_active (cleared v s) ≡ is_active s
cleared_active v s =
    let c = bit_and v 0xF0 in
    let m = bit_and s.csr (255 - c) in
    let u : place c 3 ≡ 0 = omega (arith, place_and v 0xF0 3) in
    let l : c ≤ 0xF0 = and_le_r v 0xF0 in
    let e : bit_and m 8 ≡ bit_and s.csr 8 = omega (arith, active_place m, active_place s.csr, place_and s.csr (255 - c) 3, u, l) in
    ap (λ (n : ℕ). not (eqb n 0)) e

-- A channel of which nothing stands in the status is not active.
pub calm_inactive : (s : Status) → is_busy s ≡ false → is_active s ≡ false
calm_inactive s h =
    let z : bit_and s.csr 0xF8 ≡ 0 = eqb-true (bit_and s.csr 0xF8) 0 (not-false (eqb (bit_and s.csr 0xF8) 0) h) in
    let p : place (bit_and s.csr 0xF8) 3 ≡ 0 = ap (λ (n : ℕ). place n 3) z in
    let e : bit_and s.csr 8 ≡ 0 = omega (arith, active_place s.csr, place_and s.csr 0xF8 3, p) in
    ap (λ (n : ℕ). not (eqb n 0)) e
