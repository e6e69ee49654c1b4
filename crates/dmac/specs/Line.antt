-- Changing a request line.
use Rattle.std.specs.Prelude.{ℕ, Bool, cond, Result, nat_lt}
use Rattle.refusal.specs.declared.kinds.Refusal.{Refusal}
use Rattle.refusal.specs.declared.kinds.Refusal.TheVariants.{NoChannel}
use Rattle.channel.specs.Requests.{line_set}
use Rattle.dmac.specs.Controller.{Dmac, channel_at, with_channel}
use Rattle.dmac.specs.Access.{Outcome, refused, accepted}

-- The line of a channel is set on or off; there are only the channels 0 to 3.
abbrev pub line_changed : ℕ → Bool → Dmac → Outcome (Result (Unit {0}) Refusal)
line_changed n on k =
    cond (nat_lt n 4) (accepted (with_channel n (line_set on (channel_at n k)) k)) (refused NoChannel k)
