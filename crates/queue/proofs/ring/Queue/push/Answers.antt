-- The slot after the newest is written, and is the newest then.
use Rattle.std.proofs.Common.{rules}
use Rattle.queue.proofs.Slots.{length_held, added}
use Rattle.queue.proofs.ring.Queue.push.Goals as goal

pub returns-clause-items : goal.returns-clause-items
returns-clause-items g c = search (rules, added, length_held c.args.self.now)
