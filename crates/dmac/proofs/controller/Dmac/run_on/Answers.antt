-- Each turn is full, ends the run, or goes on.
use Rattle.std.proofs.Common.{◌∙◌, refl}
use Rattle.dmac.proofs.Turns.{run_full, run_stopped, run_onward}
use Rattle.dmac.proofs.controller.Dmac.run_on.Goals as goal

pub returns-then-is_full-clause-run : goal.returns-then-is_full-clause-run
returns-then-is_full-clause-run g c =
    run_full _ _ _ _ _ _ _ c.loop-made-test.true c.loop-made.invariant.0 c.loop-made.invariant.1 c.if-is_full.ensures

pub returns-in-Some-clause-run : goal.returns-in-Some-clause-run
returns-in-Some-clause-run g c =
    run_stopped _ _ _ _ _ _ _ c.loop-made-test.true c.loop-made.invariant.0 c.loop-made.invariant.1 _ _ c.if-is_full.ensures c.in-Some.ensures.turn refl

pub loop-made-preserved : goal.loop-made-preserved
loop-made-preserved g c = (
  run_onward _ _ _ _ _ _ _ c.loop-made-test.true c.loop-made.invariant.0 c.loop-made.invariant.1 _ c.if-is_full.ensures c.in_default.ensures.turn refl,
  c.in_default.ensures.room ∙ c.loop-made.invariant.1,
  c.in_default.ensures.lent ∙ c.loop-made.invariant.2,
)
