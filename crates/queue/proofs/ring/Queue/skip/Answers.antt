-- From a head that is moved on, the elements skipped come last.
use Rattle.std.proofs.Common.{rules}
use Rattle.queue.proofs.Slots.{skipped}
use Rattle.queue.proofs.ring.Queue.skip.Goals as goal

pub returns-clause-items : goal.returns-clause-items
returns-clause-items g c = search (rules, skipped)
