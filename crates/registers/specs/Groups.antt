-- The register groups of a channel, as the code declares them.
pub use Rattle.registers.specs.declared.groups.Config.{Config}
pub use Rattle.registers.specs.declared.groups.Counters.{Counters}
pub use Rattle.registers.specs.declared.groups.Table.{Table}
pub use Rattle.registers.specs.declared.groups.Status.{Status}
pub use Rattle.registers.specs.declared.groups.Control.{Control}
pub use Rattle.registers.specs.declared.groups.Vectors.{Vectors}
pub use Rattle.registers.specs.declared.groups.Registers.{Registers}
pub use Rattle.registers.specs.declared.groups.Size.{Size}
pub use Rattle.registers.specs.declared.groups.Size.TheVariants.{Byte, Word, Long}
pub use Rattle.registers.specs.declared.groups.Chain.{Chain}
pub use Rattle.registers.specs.declared.groups.Chain.TheVariants.{Plain, Array, Linked}
pub use Rattle.registers.specs.declared.groups.Requests.{Requests}
pub use Rattle.registers.specs.declared.groups.Requests.TheVariants.{LimitedRate, MaximumRate, Line, FirstAutomatic}
pub use Rattle.registers.specs.declared.groups.RequestMode.{RequestMode}
pub use Rattle.registers.specs.declared.groups.RequestMode.TheVariants.{Burst, CycleSteal}
pub use Rattle.registers.specs.declared.groups.DeviceType.{DeviceType}
pub use Rattle.registers.specs.declared.groups.DeviceType.TheVariants.{Dual, DualDevice, Single}
pub use Rattle.registers.specs.declared.groups.Counting.{Counting}
pub use Rattle.registers.specs.declared.groups.Counting.TheVariants.{Still, Up, Down}

-- The vectors at first: $0F both, and priority 0.
abbrev pub initial_vectors : Vectors
initial_vectors = record { niv = 0x0F; eiv = 0x0F; cpr = 0 }
