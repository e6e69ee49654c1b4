-- A controller's surroundings, by what they mean.
use Rattle.bus.specs.Loans.{Loans as MemoryLoans}
use Rattle.bus.specs.Memory.{MemoryMeaning}
use Rattle.devices.specs.Bank.{BankMeaning}
use Rattle.devices.specs.Loans.{Loans as BankLoans}
use Rattle.cycle.specs.declared.surroundings.Surroundings.{Surroundings}

-- A rule of a memory and a bank, for what the memory and the devices of the surroundings mean.
abbrev pub within : {M : Type 0} {D : Type 0} {A : Type 0} → (M → MemoryMeaning) → (D → BankMeaning) → Surroundings M D → (MemoryMeaning → BankMeaning → A) → A
within means bank around rule = rule (means around.memory) (bank around.devices)

-- What of the surroundings is lent: of the memory, and of the devices.
abbrev pub loans_of : {M : Type 0} {D : Type 0} → (M → MemoryLoans) → (D → BankLoans) → Surroundings M D → MemoryLoans × BankLoans
loans_of memory devices around = (memory around.memory, devices around.devices)
