-- Asking the channels in turn keeps the rule, and the rule leaves one answer only.
use Rattle.std.proofs.Common.{◌≡◌, ℕ, ◌+◌, ◌<◌, ◌≤◌, Bool, true, false, cond, List, Some, None, Option, sym, refl, ap, arith, lit<, rules}
use Rattle.choice.specs.Choice.{Counts, priority_of, turn_of, Wins, Chosen, channel_at, asks, or_else, first_at, choice}

module _ (counts : List Bool) (priorities : List ℕ) (last : ℕ) where
  -- A channel that counts is still to be asked: at a later priority, or at this one in a later turn.
  abbrev pub Ahead : ℕ → ℕ → Type 0
  Ahead p k = (d : ℕ) → d < 4 → Counts counts d → (p ≤ priority_of priorities d) × (priority_of priorities d ≡ p → k ≤ turn_of last d)

  -- A channel that counts asks at its priority.
  asked : (p d : ℕ) → Counts counts d → priority_of priorities d ≡ p → asks counts priorities p d ≡ true
  asked p d q e = search rules

  -- At the beginning each is ahead.
  ahead_first : Ahead 0 0
  ahead_first d h q = search rules

  -- A channel that did not ask at its turn leaves the others ahead.
  ahead_turn : (p k : ℕ) → k < 4 → asks counts priorities p (channel_at last k) ≡ false → Ahead p k → Ahead p (k + 1)
  ahead_turn p k h e a d hd q = grind (arith, asked)

  -- After the last turn none of this priority is ahead.
  ahead_priority : (p : ℕ) → Ahead p 4 → Ahead (p + 1) 0
  ahead_priority p a d h q = grind arith

  -- The first that asks is the one to serve.
  pub ahead_wins : (p k : ℕ) → k < 4 → (c : ℕ) → c ≡ channel_at last k → true ≡ asks counts priorities p c → Ahead p k
      → Wins counts priorities last c
  ahead_wins p k h c i e a = search rules

  -- After the last priority none is ahead.
  ahead_none : Ahead 4 0 → Chosen counts priorities last None
  ahead_none a d h q = grind arith

  -- The same, as the function asks.
  ask : (p k : ℕ) → k < 4 → (b : Bool) → asks counts priorities p (channel_at last k) ≡ b → (next rest : Option ℕ)
      → (Ahead p (k + 1) → Chosen counts priorities last (or_else next rest)) → Ahead p k
      → Chosen counts priorities last (or_else (cond b (Some (channel_at last k)) next) rest)
  ask p k h true e next rest go a = ahead_wins p k h (channel_at last k) refl (sym e) a
  ask p k h false e next rest go a = go (ahead_turn p k h e a)

  ask_all : (p : ℕ) (rest : Option ℕ) → (Ahead (p + 1) 0 → Chosen counts priorities last rest) → Ahead p 0
      → Chosen counts priorities last (or_else (first_at counts priorities last p) rest)
  ask_all p rest go =
      ask p 0 (lit< tt) _ refl _ rest
      (ask p 1 (lit< tt) _ refl _ rest
      (ask p 2 (lit< tt) _ refl _ rest
      (ask p 3 (lit< tt) _ refl _ rest (λ a. go (ahead_priority p a)))))

  -- The function keeps the rule.
  pub choice_chosen : Chosen counts priorities last (choice counts priorities last)
  choice_chosen = ask_all 0 _ (ask_all 1 _ (ask_all 2 _ (ask_all 3 None ahead_none))) ahead_first

  -- Of two channels to serve neither goes before the other, so they are one.
  one_wins : (c d : ℕ) → Wins counts priorities last c → Wins counts priorities last d → c ≡ d
  one_wins c d x y = grind arith

  one_chosen : (r s : Option ℕ) → Chosen counts priorities last r → Chosen counts priorities last s → r ≡ s
  one_chosen None None x y = refl
  one_chosen None (Some d) x y = absurd (x d y.is_channel y.counts_itself)
  one_chosen (Some c) None x y = absurd (y c x.is_channel x.counts_itself)
  one_chosen (Some c) (Some d) x y = ap Some (one_wins c d x y)

  -- What keeps the rule is what the function gives.
  pub chosen_is : (r : Option ℕ) → Chosen counts priorities last r → r ≡ choice counts priorities last
  chosen_is r x = one_chosen r (choice counts priorities last) x choice_chosen
