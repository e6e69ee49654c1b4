-- There are half as many bytes as digits.
use Rattle.std.proofs.Common.{rules}
use Rattle.script.proofs.Pairs.{data_count}
use Rattle.script.proofs.text.data_count.Goals as goal

pub returns-clause-bytes : goal.returns-clause-bytes
returns-clause-bytes c = search (rules, data_count)
