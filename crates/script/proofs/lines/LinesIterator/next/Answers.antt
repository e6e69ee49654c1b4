-- The first line, and then the lines of what follows it.
use Rattle.std.proofs.Common.{rules}
use Rattle.script.proofs.Walk.{lines_step}
use Rattle.script.proofs.lines.LinesIterator.next.Goals as goal

pub returns-clause-steps : goal.returns-clause-steps
returns-clause-steps c = search (rules, lines_step)

pub returns-clause-goes : goal.returns-clause-goes
returns-clause-goes c = search (rules, lines_step)
