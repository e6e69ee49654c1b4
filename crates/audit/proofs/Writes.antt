-- Register writes keep the invariant.
use Rattle.std.proofs.Common.{◌≡◌, ℕ, zero, suc, Bool, true, false, cond, not, ◌&&◌, eqb, List, [], ◌∷◌, Some, None, Option, sym, refl}
use Rattle.std.proofs.lemmas.Bool.{cond_both}
use Rattle.registers.specs.Bits.{any}
use Rattle.registers.specs.Checks.{Check, first_failing}
use Rattle.registers.specs.Config.{is_single, is_port16, is_chained, is_misplaced}
use Rattle.registers.specs.Control.{stored}
use Rattle.registers.specs.Status.{is_active, is_block_done, activated}
use Rattle.registers.specs.declared.fault.Fault.{Fault}
use Rattle.registers.specs.declared.fault.Fault.TheVariants.{Configuration, Timing, Abort}
use Rattle.registers.specs.declared.groups.Config.{Config}
use Rattle.registers.specs.declared.groups.Counters.{Counters}
use Rattle.registers.specs.declared.groups.Control.{Control}
use Rattle.registers.specs.declared.groups.Table.{Table}
use Rattle.registers.specs.declared.groups.Registers.{Registers}
use Rattle.channel.specs.declared.decode.Register.{Register}
use Rattle.channel.specs.declared.decode.Register.TheVariants.{Csr, Cer, Dcr, Ocr, Scr, Ccr, Mtc, Mar, Dar, Btc, Bar, Niv, Eiv, Mfc, Dfc, Bfc, Cpr}
use Rattle.channel.specs.declared.state.Channel.{Channel}
use Rattle.channel.specs.declared.state.Phase.{Phase}
use Rattle.channel.specs.declared.state.Phase.TheVariants.{Idle, Fetching}
use Rattle.channel.specs.declared.state.Words.TheVariants.{NoWord}
use Rattle.channel.specs.Decode.{is_locked}
use Rattle.channel.specs.State.{with_control, channel_failed}
use Rattle.channel.specs.Start.{start_checks, start_fault, started, start_tried_by, continue_tried, abort_tried, control_written}
use Rattle.channel.specs.Write.{register_written}
use Rattle.audit.specs.Book.{Book, begun, first_block, start_noted, control_noted, register_noted, recounted}
use Rattle.audit.specs.Law.{EachOf}
use Rattle.audit.proofs.Basics.{no}
use Rattle.audit.proofs.Status.{failed_inactive, activated_active, cleared_active, calm_inactive}
use Rattle.audit.proofs.Plan.{runs_planned}
use Rattle.audit.proofs.Inv.{Inv, InvX, inv_active, inv_stop, inv_quiet, inv_recounted, inv_table, lacks_active, some_words}

-- Every error keeps the counter and stops the channel.
pub fail_inv : (f : Fault) (x : Channel) (b : Book) → InvX x b → InvX (channel_failed f x) b
fail_inv f x b h =
    inv_active (failed_inactive f x.registers.status) (inv_stop x.registers.config x.registers.counters x.registers.table refl h)

-- All checks of a list pass if none fails first.
pub passes : {A : Type 0} (l : List (Check A)) → first_failing l ≡ None → EachOf (λ k. k.fails ≡ false) l
passes [] e = tt
passes (k ∷ ks) e = go (λ r. passes ks r) k.fails refl e
  where
    go : (first_failing ks ≡ None → EachOf (λ k. k.fails ≡ false) ks) → (t : Bool) → k.fails ≡ t → cond t (Some k.answer) (first_failing ks) ≡ None
        → (k.fails ≡ false) × EachOf (λ k. k.fails ≡ false) ks
    go ih true q r = absurd cc
    go ih false q r = (q, ih r)

-- What a start that passes its checks has found: the channel is not active, and the operand to come is at even
-- addresses; unchained, the counter is not 0.
pub record Passed (r : Registers) : Type 0 where
  pub inactive : is_active r.status ≡ false
  pub memory_even : is_chained r.config ≡ false → is_misplaced r.config r.counters.mar ≡ false
  pub device_even : (not (is_single r.config) && (is_port16 r.config && is_misplaced r.config r.counters.dar)) ≡ false
  pub some_left : is_chained r.config ≡ false → (m : ℕ) × (r.counters.mtc ≡ suc m)

if_unchained : (t s : Bool) → t ≡ false → (not t && s) ≡ false → s ≡ false
if_unchained true s f g = no (sym f)
if_unchained false s f g = g

not_zero : (m : ℕ) → eqb m 0 ≡ false → (k : ℕ) × (m ≡ suc k)
not_zero zero e = no (sym e)
not_zero (suc m) e = (m, refl)

pub start_passed : (cnt : Bool) (r : Registers) → start_fault cnt r ≡ None → Passed r
start_passed cnt r e =
    let p = passes (start_checks cnt r) e in
    record {
      inactive = calm_inactive r.status p.0;
      memory_even = λ u. if_unchained (is_chained r.config) (is_misplaced r.config r.counters.mar) u p.1.1.0;
      device_even = p.1.1.1.0;
      some_left = λ u. not_zero r.counters.mtc (if_unchained (is_chained r.config) (eqb r.counters.mtc 0) u p.1.1.1.1.1.0);
    }

-- A start that passes: the book begins an operation.
started_inv : (cnt : Bool) (l : Control) (x : Channel) (b : Book) → Passed x.registers → InvX x b
    → InvX (started cnt (with_control l x)) (begun (first_block (is_chained x.registers.config) x.registers) x.registers b)
started_inv cnt l x b p h = go (is_chained x.registers.config) refl
  where
    go : (t : Bool) → is_chained x.registers.config ≡ t
        → Inv x.registers.config (record { mtc = cond t 0 x.registers.counters.mtc; mar = x.registers.counters.mar; dar = x.registers.counters.dar; mfc = x.registers.counters.mfc })
        x.registers.table (is_active (activated x.registers.status)) (cond t (Fetching NoWord) Idle) (begun (first_block t x.registers) x.registers b)
    go true e = inv_active (activated_active x.registers.status) (record {
      lacks = λ s. record { rest = []; begins = refl; lacks = refl };
      active = λ f. record {
        counted = refl;
        lists = refl;
        dar_stands = refl;
        device_even = p.device_even;
        base_stands = λ q. refl;
        phased = record { none_left = refl; words_are = refl; words_at = refl; short = some_words x.registers.config e };
      };
      quiet = λ f. no (sym f);
      faithful = h.faithful;
      past = b.ever;
      ever = refl;
    })
    go false e = inv_active (activated_active x.registers.status) (record {
      lacks = λ s. lacks_active x.registers.config x.registers.counters refl;
      active = λ f. record {
        counted = refl;
        lists = refl;
        dar_stands = refl;
        device_even = p.device_even;
        base_stands = λ q. refl;
        phased = record {
          left = (p.some_left e).0;
          some_left = (p.some_left e).1;
          memory_even = p.memory_even e;
          at_from = refl;
          at_to = refl;
          flow = refl;
          wrote_all = refl;
          gave_all = refl;
          runs_to_come = runs_planned x.registers.config;
          no_words = refl;
          no_addresses = refl;
        };
      };
      quiet = λ f. refl;
      faithful = h.faithful;
      past = b.ever;
      ever = refl;
    })

start_inv : (f : Option Fault) (cnt : Bool) (l : Control) (x : Channel) (b : Book) → start_fault cnt x.registers ≡ f → InvX x b
    → InvX (start_tried_by f cnt (with_control l x)) (start_noted f x.registers b)
start_inv None cnt l x b e h = started_inv cnt l x b (start_passed cnt x.registers e) h
start_inv (Some f) cnt l x b e h = fail_inv f (with_control l x) b h

continue_inv : (x : Channel) (b : Book) → InvX x b → InvX (continue_tried x) b
continue_inv x b h =
    let P : Channel → Type 0 = λ y. InvX y b in
    cond_both (not (is_active x.registers.status)) _ _ P (λ _. fail_inv Timing x b h)
    (λ _. cond_both (is_chained x.registers.config) _ _ P (λ _. fail_inv Configuration x b h)
    (λ _. cond_both (is_block_done x.registers.status) _ _ P (λ _. fail_inv Timing x b h) (λ _. h)))

abort_inv : (x : Channel) (b : Book) → InvX x b → InvX (abort_tried x) b
abort_inv x b h = cond_both (is_active x.registers.status) _ _ (λ y. InvX y b) (λ _. fail_inv Abort x b h) (λ _. h)

-- A control write's book looks at the registers as they were, whatever HLT and INT become.
control_inv : (v : ℕ) (x : Channel) (b : Book) → InvX x b → InvX (control_written v x) (control_noted v x.registers b)
control_inv v x b h = go (any 0x10 v) (any 0x80 v) (any 0x40 v) refl
  where
    go : (sab str cnt : Bool) → any 0x40 v ≡ cnt
        → InvX (cond sab (abort_tried (with_control (stored v x.registers.control) x)) (cond str (start_tried_by (start_fault (any 0x40 v) x.registers) (any 0x40 v) (with_control (stored v x.registers.control) x)) (cond cnt (continue_tried (with_control (stored v x.registers.control) x)) (with_control (stored v x.registers.control) x))))
        (cond sab b (cond str (start_noted (start_fault (any 0x40 v) x.registers) x.registers b) b))
    go true str cnt q = abort_inv (with_control (stored v x.registers.control) x) b h
    go false true cnt q = start_inv (start_fault (any 0x40 v) x.registers) (any 0x40 v) (stored v x.registers.control) x b refl h
    go false false true q = continue_inv (with_control (stored v x.registers.control) x) b h
    go false false false q = h

-- The counter of a channel that is not active.
count_inv : (a : Bool) (c : Config) (n n' : Counters) (t : Table) (ph : Phase) (b : Book) → (a && true) ≡ false
    → Inv c n t a ph b → Inv c n' t a ph (cond a b (recounted b))
count_inv true c n n' t ph b e h = no (sym e)
count_inv false c n n' t ph b e h = inv_recounted n' refl h

pub and_true : (a : Bool) → (a && true) ≡ false → a ≡ false
and_true true e = e
and_true false e = refl

-- A register write that is made. `is_locked` says which an active channel bars.
pub write_inv : (r : Register) (v : ℕ) (x : Channel) (b : Book)
    → (is_active x.registers.status && is_locked r (is_chained x.registers.config)) ≡ false
    → InvX x b → InvX (register_written r v x) (register_noted r v x.registers b)
write_inv Csr v x b e h = inv_active (cleared_active v x.registers.status) h
write_inv Cer v x b e h = h
write_inv Niv v x b e h = h
write_inv Eiv v x b e h = h
write_inv Cpr v x b e h = h
write_inv Dcr v x b e h = inv_quiet _ _ _ refl (and_true _ e) h
write_inv Ocr v x b e h = inv_quiet _ _ _ refl (and_true _ e) h
write_inv Scr v x b e h = inv_quiet _ _ _ refl (and_true _ e) h
write_inv Mfc v x b e h = inv_quiet _ _ _ refl (and_true _ e) h
write_inv Dfc v x b e h = inv_quiet _ _ _ refl (and_true _ e) h
write_inv (Mar k) v x b e h = inv_quiet _ _ _ refl (and_true _ e) h
write_inv (Dar k) v x b e h = inv_quiet _ _ _ refl (and_true _ e) h
write_inv Bfc v x b e h = inv_table _ e h
write_inv (Btc k) v x b e h = inv_table _ e h
write_inv (Bar k) v x b e h = inv_table _ e h
write_inv (Mtc k) v x b e h = count_inv (is_active x.registers.status) _ _ _ _ _ b e h
write_inv Ccr v x b e h = control_inv v x b h
