-- The elements from the head to the last slot, and then those from the first slot on.
use Rattle.std.proofs.Common.{rules}
use Rattle.queue.proofs.Slots.{parts}
use Rattle.queue.proofs.ring.Queue.as_slices.Goals as goal

pub returns : goal.returns
returns g c = search (rules, parts)
