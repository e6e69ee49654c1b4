-- What counts is still ahead: at a later priority, or at this one in a later turn.
use Rattle.choice.proofs.Rule.{Ahead}
use Rattle.choice.proofs.choose.Given as goal

abbrev pub invariant-loop-turn : goal.invariant-loop-turn
invariant-loop-turn l = Ahead l.counts l.priorities l.last l.priority l.turn

abbrev pub invariant-loop-priority : goal.invariant-loop-priority
invariant-loop-priority l = Ahead l.counts l.priorities l.last l.priority 0
