-- Which channel the next cycle is for.
use Rattle.std.specs.Prelude.{ℕ, Bool, cond, List, [], ◌∷◌, Some, None, Option}
use Rattle.channel.specs.Requests.{is_inside, is_counting}
use Rattle.choice.specs.Choice.{choice, or_else}
use Rattle.dmac.specs.Controller.{Dmac, channel_at}

-- A channel that is inside an operand or entry. (There is at most one.)
abbrev pub inside_of : Dmac → Option ℕ
inside_of k =
    cond (is_inside (channel_at 0 k)) (Some 0)
    (cond (is_inside (channel_at 1 k)) (Some 1)
    (cond (is_inside (channel_at 2 k)) (Some 2)
    (cond (is_inside (channel_at 3 k)) (Some 3) None)))

abbrev pub counting_of : Dmac → List Bool
counting_of k =
    is_counting (channel_at 0 k) ∷ is_counting (channel_at 1 k) ∷ is_counting (channel_at 2 k) ∷ is_counting (channel_at 3 k) ∷ []

abbrev pub priorities_of : Dmac → List ℕ
priorities_of k =
    (channel_at 0 k).registers.vectors.cpr ∷ (channel_at 1 k).registers.vectors.cpr
    ∷ (channel_at 2 k).registers.vectors.cpr ∷ (channel_at 3 k).registers.vectors.cpr ∷ []

-- A channel inside an operand or entry is kept; otherwise of those that count the lowest priority number wins, and among
-- equals the first one going round from the channel after the last served.
abbrev pub chosen : Dmac → Option ℕ
chosen k = or_else (inside_of k) (choice (counting_of k) (priorities_of k) k.last)
