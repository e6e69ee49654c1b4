-- A channel's state: new, after an error, after a reset.
use Rattle.std.specs.Prelude.{Bool, false}
use Rattle.registers.specs.declared.fault.Fault.{Fault}
use Rattle.registers.specs.declared.groups.Config.{Config}
use Rattle.registers.specs.declared.groups.Counters.{Counters}
use Rattle.registers.specs.declared.groups.Table.{Table}
use Rattle.registers.specs.declared.groups.Status.{Status}
use Rattle.registers.specs.declared.groups.Control.{Control}
use Rattle.registers.specs.declared.groups.Vectors.{Vectors}
use Rattle.registers.specs.declared.groups.Registers.{Registers}
use Rattle.registers.specs.Status.{failed}
use Rattle.registers.specs.Control.{uncontinued}
pub use Rattle.channel.specs.declared.state.Words.{Words}
pub use Rattle.channel.specs.declared.state.Words.TheVariants.{NoWord, OneWord, TwoWords, ThreeWords, FourWords}
pub use Rattle.channel.specs.declared.state.Held.{Held}
pub use Rattle.channel.specs.declared.state.Held.TheVariants.{NoByte, OneByte, TwoBytes}
pub use Rattle.channel.specs.declared.state.Phase.{Phase}
pub use Rattle.channel.specs.declared.state.Phase.TheVariants.{Idle, Fetching, Inside}
pub use Rattle.channel.specs.declared.state.Channel.{Channel}

-- A channel whose registers, vectors included, are all 0: what stands at a place where there is no channel.
abbrev pub blank_channel : Channel
blank_channel = record {
  registers = record {
    config = record { dcr = 0; ocr = 0; scr = 0; dfc = 0 };
    counters = record { mtc = 0; mar = 0; dar = 0; mfc = 0 };
    table = record { btc = 0; bar = 0; bfc = 0 };
    status = record { csr = 0; cer = 0 };
    control = record { ccr = 0 };
    vectors = record { niv = 0; eiv = 0; cpr = 0 };
  };
  phase = Idle;
  line = false;
  latch = false;
  first = false;
}

-- A new channel holds 0 everywhere, but $0F in its two vectors.
abbrev pub new_channel : Channel
new_channel = record {
  registers = record {
    config = record { dcr = 0; ocr = 0; scr = 0; dfc = 0 };
    counters = record { mtc = 0; mar = 0; dar = 0; mfc = 0 };
    table = record { btc = 0; bar = 0; bfc = 0 };
    status = record { csr = 0; cer = 0 };
    control = record { ccr = 0 };
    vectors = record { niv = 0x0F; eiv = 0x0F; cpr = 0 };
  };
  phase = Idle;
  line = false;
  latch = false;
  first = false;
}

-- A channel with its registers replaced, or one group of them, or its phase, or its request state.
abbrev pub with_registers : Registers → Channel → Channel
with_registers r c = record { registers = r; phase = c.phase; line = c.line; latch = c.latch; first = c.first }

abbrev pub with_config : Config → Channel → Channel
with_config k c =
    with_registers (record { config = k; counters = c.registers.counters; table = c.registers.table; status = c.registers.status; control = c.registers.control; vectors = c.registers.vectors }) c

abbrev pub with_counters : Counters → Channel → Channel
with_counters n c =
    with_registers (record { config = c.registers.config; counters = n; table = c.registers.table; status = c.registers.status; control = c.registers.control; vectors = c.registers.vectors }) c

abbrev pub with_table : Table → Channel → Channel
with_table t c =
    with_registers (record { config = c.registers.config; counters = c.registers.counters; table = t; status = c.registers.status; control = c.registers.control; vectors = c.registers.vectors }) c

abbrev pub with_status : Status → Channel → Channel
with_status s c =
    with_registers (record { config = c.registers.config; counters = c.registers.counters; table = c.registers.table; status = s; control = c.registers.control; vectors = c.registers.vectors }) c

abbrev pub with_control : Control → Channel → Channel
with_control k c =
    with_registers (record { config = c.registers.config; counters = c.registers.counters; table = c.registers.table; status = c.registers.status; control = k; vectors = c.registers.vectors }) c

abbrev pub with_vectors : Vectors → Channel → Channel
with_vectors v c =
    with_registers (record { config = c.registers.config; counters = c.registers.counters; table = c.registers.table; status = c.registers.status; control = c.registers.control; vectors = v }) c

abbrev pub with_phase : Phase → Channel → Channel
with_phase p c = record { registers = c.registers; phase = p; line = c.line; latch = c.latch; first = c.first }

abbrev pub with_requests : Bool → Bool → Bool → Channel → Channel
with_requests line latch first c = record { registers = c.registers; phase = c.phase; line = line; latch = latch; first = first }

-- Every error sets COC and ERR, clears ACT and CNT, drops what is held and goes idle, and keeps the code of the
-- first error.
abbrev pub channel_failed : Fault → Channel → Channel
channel_failed f c =
    with_phase Idle (with_control (uncontinued c.registers.control) (with_status (failed f c.registers.status) c))

-- A reset makes a channel new but for MTC, MAR, DAR, BTC, BAR, the function codes and the line's level.
abbrev pub channel_reset : Channel → Channel
channel_reset c = record {
  registers = record {
    config = record { dcr = 0; ocr = 0; scr = 0; dfc = c.registers.config.dfc };
    counters = c.registers.counters;
    table = c.registers.table;
    status = record { csr = 0; cer = 0 };
    control = record { ccr = 0 };
    vectors = record { niv = 0x0F; eiv = 0x0F; cpr = 0 };
  };
  phase = Idle;
  line = c.line;
  latch = false;
  first = false;
}
