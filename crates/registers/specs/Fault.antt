-- The error codes of a channel.
use Rattle.std.specs.Prelude.{ℕ}
pub use Rattle.registers.specs.declared.fault.Fault.{Fault}
pub use Rattle.registers.specs.declared.fault.Fault.TheVariants.{Configuration, Timing, MemoryAddress, DeviceAddress, BaseAddress, MemoryBus, DeviceBus, BaseBus, MemoryCount, BaseCount, Abort}

-- What the channel error register shows:
--   1  configuration: no start takes these settings
--   2  operation timing: a start, a continuation or a write at a time when it is not allowed
--   5, 6, 7  an odd address in the memory, device or base address register
--   9, 10, 11  a bus error on the memory side, on the device side, or while an entry was read
--  13, 15  a count of 0 in the transfer counter or the base counter
--  17  software abort
abbrev pub code_of : Fault → ℕ
code_of Configuration = 1
code_of Timing = 2
code_of MemoryAddress = 5
code_of DeviceAddress = 6
code_of BaseAddress = 7
code_of MemoryBus = 9
code_of DeviceBus = 10
code_of BaseBus = 11
code_of MemoryCount = 13
code_of BaseCount = 15
code_of Abort = 17
