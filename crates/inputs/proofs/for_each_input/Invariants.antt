-- The closure has run at each input so far.
use Rattle.std.proofs.Common.{Ok}
use Rattle.inputs.specs.Inputs.{RanAtInputs}
use Rattle.inputs.proofs.for_each_input.Given as goal

abbrev pub invariant-loop-name : goal.invariant-loop-name
invariant-loop-name g l = goal.F-IsAlwaysCallable g l.act × RanAtInputs (λ f input h. goal.F-step g f input (Ok tt) h) l.fn.act l.act
