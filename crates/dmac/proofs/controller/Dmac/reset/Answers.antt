-- One channel more is reset.
use Rattle.std.proofs.Common.{◌<◌, ◌∙◌, ap, rules, arith, length, slice_set}
use Rattle.std.proofs.lemmas.List.{get_or_default}
use Rattle.std.proofs.lemmas.List.Edits.{map_over_more}
use Rattle.channel.specs.State.{channel_reset}
use Rattle.dmac.proofs.controller.Dmac.reset.Goals as goal

pub loop-channel-preserved : goal.loop-channel-preserved
loop-channel-preserved c =
    let of_old : c.loop-channel.channel-index < length c.args.self.now.channels = omega arith in
    let of_new : c.loop-channel.channel-index < length c.loop-channel.channel-items = omega arith in (
      ap (λ x. slice_set c.loop-channel.channel-items c.loop-channel.channel-index x) c.reset.ensures
          ∙ map_over_more channel_reset _ _ _ _ of_old c.loop-channel.invariant.0 (get_or_default _ _ _ _ of_new),
      search (rules),
    )
