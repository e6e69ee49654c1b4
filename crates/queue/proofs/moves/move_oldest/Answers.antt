-- The beginnings of the two parts of what is held stand one after the other.
use Rattle.std.proofs.Common.{rules}
use Rattle.queue.proofs.Slots.{written}
use Rattle.queue.proofs.moves.move_oldest.Goals as goal

pub returns-clause-given : goal.returns-clause-given
returns-clause-given g c = search (rules, written)
