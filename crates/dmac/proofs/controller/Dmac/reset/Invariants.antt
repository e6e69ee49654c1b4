-- The channels so far are reset, and the others are as they were.
use Rattle.std.proofs.Common.{◌≡◌, ◌++◌, map, take, drop, length}
use Rattle.channel.specs.State.{channel_reset}
use Rattle.dmac.proofs.controller.Dmac.reset.Given as goal

abbrev pub invariant-loop-channel : goal.invariant-loop-channel
invariant-loop-channel l =
    (l.channel-items ≡ map channel_reset (take l.channel-index l.fn.self.channels) ++ drop l.channel-index l.fn.self.channels)
    × (length l.channel-items ≡ 4)
