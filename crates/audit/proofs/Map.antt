-- What the register map says of the two halves of a word.
use Rattle.std.proofs.Common.{◌≡◌, ℕ, ◌+◌, ◌-◌, ◌/◌, ◌%◌, Bool, true, false, cond, ◌&&◌, eqb, leb, sym, refl, ap, ◌∙◌, subst, arith}
use Rattle.std.proofs.lemmas.Bool.{eqb-true, eqb-false, ne_eqb}
use Rattle.registers.specs.Bits.{odd}
use Rattle.registers.specs.Config.{is_chained}
use Rattle.registers.specs.Status.{is_active}
use Rattle.channel.specs.declared.decode.Access.{Access}
use Rattle.channel.specs.declared.decode.Access.TheVariants.{Nowhere, Barred, To, General}
use Rattle.channel.specs.declared.decode.Register.{Register}
use Rattle.channel.specs.declared.decode.Register.TheVariants.{Csr, Cer, Dcr, Ocr, Scr, Ccr, Mtc, Mar, Dar, Btc, Bar, Niv, Eiv, Mfc, Dfc, Bfc, Cpr}
use Rattle.channel.specs.Decode.{register_at, barred_by}
use Rattle.channel.specs.Write.{is_barred}
use Rattle.dmac.specs.declared.controller.Dmac.{Dmac}
use Rattle.dmac.specs.Controller.{channel_at}
use Rattle.dmac.specs.Access.{register_after, reach_after, is_general, is_control_register, is_control}
use Rattle.audit.proofs.Basics.{no}

-- What holds of every register but the control register, of that one at offset 7, of the general control register at
-- offset 63, and where there is none, holds of what stands at any offset.
map_holds : (P : Access → Type 0) (c n : ℕ) → ((r : Register) → is_control_register r ≡ false → P (To r))
    → (n ≡ 7 → P (To Ccr)) → (n ≡ 63 → P General) → P Nowhere → P (register_at c n)
map_holds P c n f control general none =
    go (eqb n 0x00) (eqb n 0x01) (eqb n 0x04) (eqb n 0x05) (eqb n 0x06) (eqb n 0x07) (leb 0x0A n && leb n 0x0B) (leb 0x0C n && leb n 0x0F) (leb 0x14 n && leb n 0x17) (leb 0x1A n && leb n 0x1B) (leb 0x1C n && leb n 0x1F) (eqb n 0x25) (eqb n 0x27) (eqb n 0x29) (eqb n 0x2D) (eqb n 0x31) (eqb n 0x39) (eqb n 0x3F) (eqb c 3) refl refl
  where
    go : (t0 t1 t2 t3 t4 t5 t6 t7 t8 t9 t10 t11 t12 t13 t14 t15 t16 last u : Bool) → eqb n 7 ≡ t5 → eqb n 63 ≡ last
        → P (cond t0 (To Csr) (cond t1 (To Cer) (cond t2 (To Dcr) (cond t3 (To Ocr) (cond t4 (To Scr) (cond t5 (To Ccr) (cond t6 (To (Mtc (n - 0x0A))) (cond t7 (To (Mar (n - 0x0C))) (cond t8 (To (Dar (n - 0x14))) (cond t9 (To (Btc (n - 0x1A))) (cond t10 (To (Bar (n - 0x1C))) (cond t11 (To Niv) (cond t12 (To Eiv) (cond t13 (To Mfc) (cond t14 (To Cpr) (cond t15 (To Dfc) (cond t16 (To Bfc) (cond last (cond u General Nowhere) Nowhere))))))))))))))))))
    go true t1 t2 t3 t4 t5 t6 t7 t8 t9 t10 t11 t12 t13 t14 t15 t16 last u e g = f Csr refl
    go false true t2 t3 t4 t5 t6 t7 t8 t9 t10 t11 t12 t13 t14 t15 t16 last u e g = f Cer refl
    go false false true t3 t4 t5 t6 t7 t8 t9 t10 t11 t12 t13 t14 t15 t16 last u e g = f Dcr refl
    go false false false true t4 t5 t6 t7 t8 t9 t10 t11 t12 t13 t14 t15 t16 last u e g = f Ocr refl
    go false false false false true t5 t6 t7 t8 t9 t10 t11 t12 t13 t14 t15 t16 last u e g = f Scr refl
    go false false false false false true t6 t7 t8 t9 t10 t11 t12 t13 t14 t15 t16 last u e g = control (eqb-true n 7 e)
    go false false false false false false true t7 t8 t9 t10 t11 t12 t13 t14 t15 t16 last u e g = f (Mtc (n - 0x0A)) refl
    go false false false false false false false true t8 t9 t10 t11 t12 t13 t14 t15 t16 last u e g = f (Mar (n - 0x0C)) refl
    go false false false false false false false false true t9 t10 t11 t12 t13 t14 t15 t16 last u e g = f (Dar (n - 0x14)) refl
    go false false false false false false false false false true t10 t11 t12 t13 t14 t15 t16 last u e g = f (Btc (n - 0x1A)) refl
    go false false false false false false false false false false true t11 t12 t13 t14 t15 t16 last u e g = f (Bar (n - 0x1C)) refl
    go false false false false false false false false false false false true t12 t13 t14 t15 t16 last u e g = f Niv refl
    go false false false false false false false false false false false false true t13 t14 t15 t16 last u e g = f Eiv refl
    go false false false false false false false false false false false false false true t14 t15 t16 last u e g = f Mfc refl
    go false false false false false false false false false false false false false false true t15 t16 last u e g = f Cpr refl
    go false false false false false false false false false false false false false false false true t16 last u e g = f Dfc refl
    go false false false false false false false false false false false false false false false false true last u e g = f Bfc refl
    go false false false false false false false false false false false false false false false false false true true e g = general (eqb-true n 63 g)
    go false false false false false false false false false false false false false false false false false true false e g = none
    go false false false false false false false false false false false false false false false false false false u e g = none

-- No line of the map is barred in itself.
pub not_barred : (c n : ℕ) → register_at c n ≡ Barred → ⊥
not_barred c n e =
    no (sym (map_holds (λ a. is_barred a ≡ false) c n (λ r q. refl) (λ q. refl) (λ q. refl) refl) ∙ ap is_barred e)

-- The control register is at an odd offset.
pub even_no_control : (c n : ℕ) → n % 2 ≡ 0 → is_control (barred_by (register_at c n) false false) ≡ false
even_no_control c n h =
    map_holds (λ a. is_control (barred_by a false false) ≡ false) c n (λ r q. q) (λ q. absurd (omega arith)) (λ q. refl) refl

-- The general control register is at the last offset alone, and no register stands before it.
only_last : (c n : ℕ) → (n ≡ 63 → ⊥) → is_general (register_at c n) ≡ false
only_last c n h = map_holds (λ a. is_general a ≡ false) c n (λ r q. refl) (λ q. refl) (λ q. absurd (h q)) refl

pub before_general : (c n : ℕ) → is_general (register_at c (n + 1)) ≡ true → register_at c n ≡ Nowhere
before_general c n e = go (eqb (n + 1) 63) refl
  where
    go : (t : Bool) → eqb (n + 1) 63 ≡ t → register_at c n ≡ Nowhere
    go true q = let z = eqb-true (n + 1) 63 q in let m : n ≡ 62 = omega arith in subst (λ (k : ℕ). register_at c k ≡ Nowhere) (sym m) refl
    go false q = no (sym (only_last c (n + 1) (eqb-false (n + 1) 63 q)) ∙ e)

pub general_barred : (a : Access) (act ch : Bool) → is_general (barred_by a act ch) ≡ true → a ≡ General
general_barred Nowhere act ch e = no e
general_barred Barred act ch e = no e
general_barred General act ch e = refl
general_barred (To r) act ch e = go _ e
  where
    go : (t : Bool) → is_general (cond t Barred (To r)) ≡ true → To r ≡ General
    go true q = no q
    go false q = no q

-- The low half of a word at an even offset is the next byte of the same channel.
even_after : (o : ℕ) → odd o ≡ false → (eqb o 255 ≡ false) × ((o + 1) / 64 ≡ o / 64) × ((o + 1) % 64 ≡ o % 64 + 1)
even_after o e = let h = eqb-false (o % 2) 1 e in (ne_eqb o 255 (λ q. omega arith), omega arith, omega arith)

pub register_low : (o : ℕ) → odd o ≡ false → register_after o ≡ barred_by (register_at (o / 64) (o % 64 + 1)) false false
register_low o e = let p = even_after o e in rw (p.0, p.1, p.2) refl

abbrev reach_in : ℕ → ℕ → Dmac → Access
reach_in c n k = barred_by (register_at c n) (is_active (channel_at c k).registers.status) (is_chained (channel_at c k).registers.config)

pub reach_low : (o : ℕ) (k : Dmac) → odd o ≡ false
    → reach_after o k ≡ barred_by (register_at (o / 64) (o % 64 + 1)) (is_active (channel_at (o / 64) k).registers.status) (is_chained (channel_at (o / 64) k).registers.config)
reach_low o k e =
    let p = even_after o e in
    ap (λ (t : Bool). cond t Nowhere (reach_in ((o + 1) / 64) ((o + 1) % 64) k)) p.0
    ∙ ap (λ (c : ℕ). reach_in c ((o + 1) % 64) k) p.1 ∙ ap (λ (n : ℕ). reach_in (o / 64) n k) p.2

pub even_within : (o : ℕ) → odd o ≡ false → (o % 64) % 2 ≡ 0
even_within o e = let h = eqb-false (o % 2) 1 e in omega arith
