-- The chosen channel is one of the four, and active.
use Rattle.std.proofs.Common.{◌≡◌, ℕ, zero, suc, ◌<◌, Bool, true, false, cond, get_or, Some, None, Option, sym, refl, ap, ◌∙◌, subst, arith}
use Rattle.std.proofs.lemmas.Bool.{and_parts}
use Rattle.registers.specs.Status.{is_active}
use Rattle.channel.specs.declared.state.Channel.{Channel}
use Rattle.channel.specs.declared.state.Phase.TheVariants.{Idle}
use Rattle.channel.specs.Requests.{is_inside, is_inside_phase, is_counting}
use Rattle.choice.specs.Choice.{Chosen, or_else, choice}
use Rattle.choice.proofs.Rule.{choice_chosen}
use Rattle.dmac.specs.declared.controller.Dmac.{Dmac}
use Rattle.dmac.specs.Controller.{channel_at}
use Rattle.dmac.specs.Choice.{counting_of, priorities_of, chosen}
use Rattle.audit.proofs.Basics.{no}

-- One of the four channels, and active.
pub record Serves (k : Dmac) (n : ℕ) : Type 0 where
  pub is_channel : n < 4
  pub active : is_active (channel_at n k).registers.status ≡ true

-- A channel that is not active is idle.
abbrev pub QuietIdle : Channel → Type 0
QuietIdle x = is_active x.registers.status ≡ false → x.phase ≡ Idle

inside_active : (x : Channel) → QuietIdle x → is_inside x ≡ true → is_active x.registers.status ≡ true
inside_active x q e = go (is_active x.registers.status) q
  where
    go : (a : Bool) → (a ≡ false → x.phase ≡ Idle) → a ≡ true
    go true f = refl
    go false f = no (ap is_inside_phase (sym (f refl)) ∙ e)

-- One rung of a ladder.
rung : {P : Type 0} (t : Bool) (c n : ℕ) (rest other : Option ℕ) → (t ≡ true → c ≡ n → P) → (or_else rest other ≡ Some n → P)
    → or_else (cond t (Some c) rest) other ≡ Some n → P
rung true c n rest other f g e = f refl cc
rung false c n rest other f g e = g e

counts_at : (k : Dmac) (c : ℕ) → c < 4 → get_or (counting_of k) c false ≡ true → is_counting (channel_at c k) ≡ true
counts_at k zero h e = e
counts_at k (suc zero) h e = e
counts_at k (suc (suc zero)) h e = e
counts_at k (suc (suc (suc zero))) h e = e
counts_at k (suc (suc (suc (suc c)))) h e = absurd (omega arith)

by_choice : (k : Dmac) (n : ℕ) → choice (counting_of k) (priorities_of k) k.last ≡ Some n → Serves k n
by_choice k n e =
    let w = subst (λ (o : Option ℕ). Chosen (counting_of k) (priorities_of k) k.last o) e (choice_chosen (counting_of k) (priorities_of k) k.last) in
    record { is_channel = w.is_channel; active = (and_parts _ _ (counts_at k n w.is_channel w.counts_itself)).0 }

inside_serves : (k : Dmac) (c n : ℕ) → c < 4 → QuietIdle (channel_at c k) → is_inside (channel_at c k) ≡ true → c ≡ n → Serves k n
inside_serves k c n h q t e =
    subst (λ (m : ℕ). Serves k m) e (record { is_channel = h; active = inside_active (channel_at c k) q t })

pub chosen_serves : (k : Dmac) (n : ℕ) → ((d : ℕ) → d < 4 → QuietIdle (channel_at d k)) → chosen k ≡ Some n → Serves k n
chosen_serves k n q =
    let other = choice (counting_of k) (priorities_of k) k.last in
    rung (is_inside (channel_at 0 k)) 0 n _ other (inside_serves k 0 n (omega arith) (q 0 (omega arith)))
    (rung (is_inside (channel_at 1 k)) 1 n _ other (inside_serves k 1 n (omega arith) (q 1 (omega arith)))
    (rung (is_inside (channel_at 2 k)) 2 n _ other (inside_serves k 2 n (omega arith) (q 2 (omega arith)))
    (rung (is_inside (channel_at 3 k)) 3 n None other (inside_serves k 3 n (omega arith) (q 3 (omega arith)))
    (by_choice k n))))
