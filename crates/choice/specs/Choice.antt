-- Which of four channels is served next: as a rule that says what the chosen channel has to be, and as a
-- function that finds it. There are four channels, 0 to 3. `counts` has for each whether it counts,
-- `priorities` its priority, and `last` is the last served.
use Rattle.std.specs.Prelude.{◌≡◌, ℕ, ◌+◌, ◌-◌, ◌%◌, ◌<◌, ◌≤◌, Bool, true, false, cond, ◌&&◌, List, [], ◌∷◌, Some, None, Option, ◌==◌, slice_index, slice_index_or}

-- Channel d counts.
abbrev pub Counts : List Bool → ℕ → Type 0
Counts counts d = slice_index_or counts d false ≡ true

-- The priority of channel d: two bits. The lowest number goes first.
abbrev pub priority_of : List ℕ → ℕ → ℕ
priority_of priorities d = slice_index priorities d % 4

-- When channel d comes in the round: 0 for the channel after the last served, 3 for the last served itself.
abbrev pub turn_of : ℕ → ℕ → ℕ
turn_of last d = (d + 3 - last % 4) % 4

-- Channel c is the one to serve: it counts, no channel that counts has a lower priority number, and none of
-- equal priority that counts comes earlier in the round.
pub record Wins (counts : List Bool) (priorities : List ℕ) (last c : ℕ) : Type 0 where
  pub is_channel : c < 4
  pub counts_itself : Counts counts c
  pub none_lower : (d : ℕ) → d < 4 → Counts counts d → priority_of priorities c ≤ priority_of priorities d
  pub none_earlier : (d : ℕ) → d < 4 → Counts counts d → priority_of priorities d ≡ priority_of priorities c
      → turn_of last c ≤ turn_of last d

-- The rule: none is chosen only if none counts, and a channel only if it is the one to serve.
abbrev pub Chosen : List Bool → List ℕ → ℕ → Option ℕ → Type 0
Chosen counts priorities last None = (d : ℕ) → d < 4 → Counts counts d → ⊥
Chosen counts priorities last (Some c) = Wins counts priorities last c

-- The channel whose turn it is at turn k of the round, which begins after the last served.
abbrev pub channel_at : ℕ → ℕ → ℕ
channel_at last k = (last % 4 + 1 + k) % 4

-- The four channels in their turn.
abbrev pub round : ℕ → List ℕ
round last = channel_at last 0 ∷ channel_at last 1 ∷ channel_at last 2 ∷ channel_at last 3 ∷ []

-- Whether channel d counts at priority p.
abbrev pub asks : List Bool → List ℕ → ℕ → ℕ → Bool
asks counts priorities p d = slice_index_or counts d false && priority_of priorities d == p

-- The first of a list that passes a test.
abbrev pub first_of : (ℕ → Bool) → List ℕ → Option ℕ
first_of test [] = None
first_of test (d ∷ ds) = cond (test d) (Some d) (first_of test ds)

-- The first that was found, or else the second.
abbrev pub or_else : Option ℕ → Option ℕ → Option ℕ
or_else None other = other
or_else (Some d) other = Some d

-- The first in the round that counts at priority p.
abbrev pub first_at : List Bool → List ℕ → ℕ → ℕ → Option ℕ
first_at counts priorities last p = first_of (asks counts priorities p) (round last)

-- The choice: the first in the round at priority 0, or else at 1, at 2, at 3, or else none.
abbrev pub choice : List Bool → List ℕ → ℕ → Option ℕ
choice counts priorities last =
    or_else (first_at counts priorities last 0)
    (or_else (first_at counts priorities last 1)
    (or_else (first_at counts priorities last 2)
    (or_else (first_at counts priorities last 3) None)))
