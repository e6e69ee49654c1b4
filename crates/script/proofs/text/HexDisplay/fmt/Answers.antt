-- A byte is printed as its two digits.
use Rattle.std.proofs.Common.{rules}
use Rattle.script.proofs.Printed.{byte_printed}
use Rattle.script.proofs.text.HexDisplay.fmt.Goals as goal

pub returns-clause-writes : goal.returns-clause-writes
returns-clause-writes g c = search (rules, byte_printed)
