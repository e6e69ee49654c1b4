-- Byte and word writes, barred or made.
use Rattle.std.proofs.Common.{◌≡◌, ℕ, Bool, true, false, cond, ◌&&◌, ◌||◌, sym, refl, ap, ◌∙◌, subst}
use Rattle.std.proofs.lemmas.Bool.{and_parts, and_left}
use Rattle.registers.specs.Bits.{any}
use Rattle.registers.specs.Config.{is_chained}
use Rattle.registers.specs.Status.{is_active}
use Rattle.registers.specs.declared.fault.Fault.TheVariants.{Timing}
use Rattle.registers.specs.declared.groups.Registers.{Registers}
use Rattle.channel.specs.declared.decode.Access.{Access}
use Rattle.channel.specs.declared.decode.Access.TheVariants.{Nowhere, Barred, To, General}
use Rattle.channel.specs.declared.decode.Register.{Register}
use Rattle.channel.specs.declared.decode.Register.TheVariants.{Csr, Cer, Dcr, Ocr, Scr, Ccr, Mtc, Mar, Dar, Btc, Bar, Niv, Eiv, Mfc, Dfc, Bfc, Cpr}
use Rattle.channel.specs.declared.state.Channel.{Channel}
use Rattle.channel.specs.Decode.{is_locked, barred_by}
use Rattle.channel.specs.State.{channel_failed}
use Rattle.channel.specs.Start.{start_fault}
use Rattle.channel.specs.Write.{register_written, half_written, is_barred, written}
use Rattle.dmac.specs.Access.{is_control_register, is_control}
use Rattle.audit.specs.Book.{Book, recounted, start_noted, control_noted, register_noted, half_noted}
use Rattle.audit.proofs.Basics.{no}
use Rattle.audit.proofs.Status.{cleared_active}
use Rattle.audit.proofs.Inv.{InvX}
use Rattle.audit.proofs.Writes.{fail_inv, write_inv, and_true}

-- A write that cannot start: it does not reach the control register, or its start bit is 0.
abbrev pub Calm : Access → ℕ → Type 0
Calm a v = (is_control a && any 0x80 v) ≡ false

-- Without a start a control write leaves the book.
control_calm : (v : ℕ) (r : Registers) (b : Book) → any 0x80 v ≡ false → control_noted v r b ≡ b
control_calm v r b e = go (any 0x10 v) (any 0x80 v) e
  where
    go : (sab str : Bool) → str ≡ false → cond sab b (cond str (start_noted (start_fault (any 0x40 v) r) r b) b) ≡ b
    go true str f = refl
    go false true f = no (sym f)
    go false false f = refl

counter_kept : (a : Bool) (b : Book) → a ≡ true → cond a b (recounted b) ≡ b
counter_kept true b e = refl
counter_kept false b e = no e

-- A calm write of an active channel leaves the book.
calm_register : (x : Register) (v : ℕ) (r : Registers) (b : Book) → is_active r.status ≡ true → (is_control_register x && any 0x80 v) ≡ false
    → register_noted x v r b ≡ b
calm_register Ccr v r b a e = control_calm v r b e
calm_register (Mtc k) v r b a e = counter_kept (is_active r.status) b a
calm_register Csr v r b a e = refl
calm_register Cer v r b a e = refl
calm_register Dcr v r b a e = refl
calm_register Ocr v r b a e = refl
calm_register Scr v r b a e = refl
calm_register (Mar k) v r b a e = refl
calm_register (Dar k) v r b a e = refl
calm_register (Btc k) v r b a e = refl
calm_register (Bar k) v r b a e = refl
calm_register Niv v r b a e = refl
calm_register Eiv v r b a e = refl
calm_register Mfc v r b a e = refl
calm_register Dfc v r b a e = refl
calm_register Bfc v r b a e = refl
calm_register Cpr v r b a e = refl

calm_half : (h : Access) (v : ℕ) (r : Registers) (b : Book) → is_active r.status ≡ true → Calm (barred_by h false false) v
    → half_noted (barred_by h false false) v r b ≡ b
calm_half Nowhere v r b a e = refl
calm_half Barred v r b a e = refl
calm_half General v r b a e = refl
calm_half (To x) v r b a e = calm_register x v r b a e

-- A register that is barred is one of an active channel, and its write leaves the book.
control_free : (x : Register) (t v : Bool) → is_locked x t ≡ true → (is_control_register x && v) ≡ false
control_free Ccr t v e = no e
control_free Csr t v e = refl
control_free Cer t v e = refl
control_free Dcr t v e = refl
control_free Ocr t v e = refl
control_free Scr t v e = refl
control_free (Mtc k) t v e = refl
control_free (Mar k) t v e = refl
control_free (Dar k) t v e = refl
control_free (Btc k) t v e = refl
control_free (Bar k) t v e = refl
control_free Niv t v e = refl
control_free Eiv t v e = refl
control_free Mfc t v e = refl
control_free Dfc t v e = refl
control_free Bfc t v e = refl
control_free Cpr t v e = refl

-- One byte.
pub byte_inv : (h : Access) (v : ℕ) (x : Channel) (b : Book) → InvX x b
    → InvX (written Nowhere 0 (barred_by h (is_active x.registers.status) (is_chained x.registers.config)) v x)
    (half_noted (barred_by h false false) v x.registers b)
byte_inv Nowhere v x b g = g
byte_inv Barred v x b g = fail_inv Timing x b g
byte_inv General v x b g = g
byte_inv (To r) v x b g = go (is_active x.registers.status && is_locked r (is_chained x.registers.config)) refl
  where
    go : (t : Bool) → (is_active x.registers.status && is_locked r (is_chained x.registers.config)) ≡ t
        → InvX (written Nowhere 0 (cond t Barred (To r)) v x) (register_noted r v x.registers b)
    go true e =
        subst (λ (y : Book). InvX (channel_failed Timing x) y)
        (sym (calm_register r v x.registers b (and_parts _ _ e).0 (control_free r _ _ (and_parts (is_active x.registers.status) (is_locked r (is_chained x.registers.config)) e).1)))
        (fail_inv Timing x b g)
    go false e = write_inv r v x b e g

-- What the high half of a word leaves of a channel: its activity, and what is not barred.
record Keeps (x y : Channel) : Type 0 where
  active : is_active y.registers.status ≡ is_active x.registers.status
  free : (r : Register) → (is_active x.registers.status && is_locked r (is_chained x.registers.config)) ≡ false
      → (is_active y.registers.status && is_locked r (is_chained y.registers.config)) ≡ false

register_keeps : (h : Register) (v : ℕ) (x : Channel) → is_control_register h ≡ false
    → (is_active x.registers.status && is_locked h (is_chained x.registers.config)) ≡ false → Keeps x (register_written h v x)
register_keeps Ccr v x e f = no (sym e)
register_keeps Csr v x e f = record {
  active = cleared_active v x.registers.status;
  free = λ r q. ap (λ (a : Bool). a && is_locked r (is_chained x.registers.config)) (cleared_active v x.registers.status) ∙ q;
}
register_keeps Dcr v x e f = record { active = refl; free = λ r q. and_left (is_active x.registers.status) _ (and_true _ f) }
register_keeps Ocr v x e f = record { active = refl; free = λ r q. and_left (is_active x.registers.status) _ (and_true _ f) }
register_keeps Scr v x e f = record { active = refl; free = λ r q. and_left (is_active x.registers.status) _ (and_true _ f) }
register_keeps Dfc v x e f = record { active = refl; free = λ r q. and_left (is_active x.registers.status) _ (and_true _ f) }
register_keeps Cer v x e f = record { active = refl; free = λ r q. q }
register_keeps (Mtc k) v x e f = record { active = refl; free = λ r q. q }
register_keeps (Mar k) v x e f = record { active = refl; free = λ r q. q }
register_keeps (Dar k) v x e f = record { active = refl; free = λ r q. q }
register_keeps (Btc k) v x e f = record { active = refl; free = λ r q. q }
register_keeps (Bar k) v x e f = record { active = refl; free = λ r q. q }
register_keeps Niv v x e f = record { active = refl; free = λ r q. q }
register_keeps Eiv v x e f = record { active = refl; free = λ r q. q }
register_keeps Mfc v x e f = record { active = refl; free = λ r q. q }
register_keeps Bfc v x e f = record { active = refl; free = λ r q. q }
register_keeps Cpr v x e f = record { active = refl; free = λ r q. q }

-- A calm write's book depends on the registers by their activity alone.
same_noted : (x : Register) (v : ℕ) (r s : Registers) (b : Book) → is_active r.status ≡ is_active s.status → (is_control_register x && any 0x80 v) ≡ false
    → register_noted x v r b ≡ register_noted x v s b
same_noted Ccr v r s b a e = control_calm v r b e ∙ sym (control_calm v s b e)
same_noted (Mtc k) v r s b a e = ap (λ (t : Bool). cond t b (recounted b)) a
same_noted Csr v r s b a e = refl
same_noted Cer v r s b a e = refl
same_noted Dcr v r s b a e = refl
same_noted Ocr v r s b a e = refl
same_noted Scr v r s b a e = refl
same_noted (Mar k) v r s b a e = refl
same_noted (Dar k) v r s b a e = refl
same_noted (Btc k) v r s b a e = refl
same_noted (Bar k) v r s b a e = refl
same_noted Niv v r s b a e = refl
same_noted Eiv v r s b a e = refl
same_noted Mfc v r s b a e = refl
same_noted Dfc v r s b a e = refl
same_noted Bfc v r s b a e = refl
same_noted Cpr v r s b a e = refl

-- A half that is not barred, as it stands in a channel.
abbrev reach : Access → Channel → Access
reach h x = barred_by h (is_active x.registers.status) (is_chained x.registers.config)

-- The high half, made, and what it leaves.
high_inv : (h : Access) (v : ℕ) (x : Channel) (b : Book) → is_barred (reach h x) ≡ false → InvX x b
    → InvX (half_written (reach h x) v x) (half_noted (barred_by h false false) v x.registers b)
high_inv Nowhere v x b e g = g
high_inv Barred v x b e g = no (sym e)
high_inv General v x b e g = g
high_inv (To r) v x b e g = go (is_active x.registers.status && is_locked r (is_chained x.registers.config)) refl e
  where
    go : (t : Bool) → (is_active x.registers.status && is_locked r (is_chained x.registers.config)) ≡ t → is_barred (cond t Barred (To r)) ≡ false
        → InvX (half_written (cond t Barred (To r)) v x) (register_noted r v x.registers b)
    go true f q = no (sym q)
    go false f q = write_inv r v x b f g

high_keeps : (h : Access) (v : ℕ) (x : Channel) → is_barred (reach h x) ≡ false → is_control (barred_by h false false) ≡ false → Keeps x (half_written (reach h x) v x)
high_keeps Nowhere v x e f = record { active = refl; free = λ r q. q }
high_keeps Barred v x e f = no (sym e)
high_keeps General v x e f = record { active = refl; free = λ r q. q }
high_keeps (To r) v x e f = go (is_active x.registers.status && is_locked r (is_chained x.registers.config)) refl e
  where
    go : (t : Bool) → (is_active x.registers.status && is_locked r (is_chained x.registers.config)) ≡ t → is_barred (cond t Barred (To r)) ≡ false
        → Keeps x (half_written (cond t Barred (To r)) v x)
    go true p q = no (sym q)
    go false p q = register_keeps r v x f p

-- The low half, made after it: what it reaches was settled before.
low_inv : (l : Access) (v : ℕ) (x y : Channel) (b : Book) → Keeps x y → is_barred (reach l x) ≡ false → Calm (barred_by l false false) v → InvX y b
    → InvX (half_written (reach l x) v y) (half_noted (barred_by l false false) v x.registers b)
low_inv Nowhere v x y b k e c g = g
low_inv Barred v x y b k e c g = no (sym e)
low_inv General v x y b k e c g = g
low_inv (To r) v x y b k e c g = go (is_active x.registers.status && is_locked r (is_chained x.registers.config)) refl e
  where
    go : (t : Bool) → (is_active x.registers.status && is_locked r (is_chained x.registers.config)) ≡ t → is_barred (cond t Barred (To r)) ≡ false
        → InvX (half_written (cond t Barred (To r)) v y) (register_noted r v x.registers b)
    go true p q = no (sym q)
    go false p q =
        subst (λ (z : Book). InvX (register_written r v y) z) (same_noted r v y.registers x.registers b k.active c)
        (write_inv r v y b (k.free r p) g)

barred_active : (h : Access) (x : Channel) → is_barred (reach h x) ≡ true → (h ≡ Barred → ⊥) → is_active x.registers.status ≡ true
barred_active Nowhere x e f = no e
barred_active Barred x e f = absurd (f refl)
barred_active General x e f = no e
barred_active (To r) x e f = go (is_active x.registers.status) e
  where
    go : (a : Bool) → is_barred (cond (a && is_locked r (is_chained x.registers.config)) Barred (To r)) ≡ true → a ≡ true
    go true q = refl
    go false q = no q

-- A word: neither half is `Barred` in the map itself, the high one is no control register, and the low one is calm.
pub word_inv : (h l : Access) (vh vl : ℕ) (x : Channel) (b : Book) → (h ≡ Barred → ⊥) → (l ≡ Barred → ⊥)
    → is_control (barred_by h false false) ≡ false → Calm (barred_by l false false) vl → InvX x b
    → InvX (written (reach h x) vh (reach l x) vl x)
    (half_noted (barred_by l false false) vl x.registers (half_noted (barred_by h false false) vh x.registers b))
word_inv h l vh vl x b nh nl c d g = go (is_barred (reach h x)) refl (is_barred (reach l x)) refl
  where
    failed : is_active x.registers.status ≡ true
        → InvX (channel_failed Timing x) (half_noted (barred_by l false false) vl x.registers (half_noted (barred_by h false false) vh x.registers b))
    failed a =
        let p = calm_half h vh x.registers b a (and_left _ _ c) in
        let q = calm_half l vl x.registers (half_noted (barred_by h false false) vh x.registers b) a d in
        subst (λ (z : Book). InvX (channel_failed Timing x) z) (sym (q ∙ p)) (fail_inv Timing x b g)

    go : (s : Bool) → is_barred (reach h x) ≡ s → (t : Bool) → is_barred (reach l x) ≡ t
        → InvX (cond (s || t) (channel_failed Timing x) (half_written (reach l x) vl (half_written (reach h x) vh x)))
        (half_noted (barred_by l false false) vl x.registers (half_noted (barred_by h false false) vh x.registers b))
    go true p t q = failed (barred_active h x p nh)
    go false p true q = failed (barred_active l x q nl)
    go false p false q =
        low_inv l vl x (half_written (reach h x) vh x) (half_noted (barred_by h false false) vh x.registers b)
        (high_keeps h vh x p c) q d (high_inv h vh x b p g)
