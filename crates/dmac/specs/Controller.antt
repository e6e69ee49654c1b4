-- The controller's state: new, after a reset, and one channel of it.
use Rattle.std.specs.Prelude.{ℕ, false, [], ◌∷◌, slice_index_or, slice_set}
use Rattle.channel.specs.declared.state.Channel.{Channel}
use Rattle.channel.specs.State.{blank_channel, new_channel, channel_reset}
pub use Rattle.dmac.specs.declared.controller.Dmac.{Dmac}

-- A new controller: four new channels and a general control register of 0. Channel 3 counts as the one that was
-- served last, so that channel 0 is asked first.
abbrev pub new_controller : Dmac
new_controller = record {
  channels = new_channel ∷ new_channel ∷ new_channel ∷ new_channel ∷ [];
  gcr = 0;
  last = 3;
  bus = false;
}

abbrev pub channel_at : ℕ → Dmac → Channel
channel_at n k = slice_index_or k.channels n blank_channel

abbrev pub with_channel : ℕ → Channel → Dmac → Dmac
with_channel n c k = record { channels = slice_set k.channels n c; gcr = k.gcr; last = k.last; bus = k.bus }

abbrev pub with_general : ℕ → Dmac → Dmac
with_general v k = record { channels = k.channels; gcr = v; last = k.last; bus = k.bus }

-- A reset makes the controller new but for what each channel keeps.
abbrev pub controller_reset : Dmac → Dmac
controller_reset k = record {
  channels = channel_reset (channel_at 0 k) ∷ channel_reset (channel_at 1 k) ∷ channel_reset (channel_at 2 k) ∷ channel_reset (channel_at 3 k) ∷ [];
  gcr = 0;
  last = 3;
  bus = false;
}
