-- What a device of either kind means, and what of it is lent: as its part has it.
use Rattle.devices.specs.Bank.{BankMeaning}
use Rattle.devices.specs.Loans.{Loans}
use Rattle.replay.specs.declared.device.Device.{Device}
use Rattle.replay.specs.declared.device.Device.TheVariants.{Tape, Printer}

abbrev pub meaning : {A B : Type 0} → (A → BankMeaning) → (B → BankMeaning) → Device A B → BankMeaning
meaning of_tape of_printer (Tape tape) = of_tape tape
meaning of_tape of_printer (Printer printer) = of_printer printer

abbrev pub lent_of : {A B : Type 0} → (A → Loans) → (B → Loans) → Device A B → Loans
lent_of of_tape of_printer (Tape tape) = of_tape tape
lent_of of_tape of_printer (Printer printer) = of_printer printer
