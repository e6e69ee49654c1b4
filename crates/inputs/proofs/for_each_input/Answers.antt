-- The first run is at one input, and each turn adds one.
use Rattle.std.proofs.Common.{[], ◌∷◌, ◌++◌, Ok, refl, arith, rules, of_calls}
use Rattle.std.proofs.lemmas.Fn.{FoldsTo-push}
use Rattle.std.proofs.lemmas.List.{length-append}
use Rattle.inputs.specs.Inputs.{RanAtInputs}
use Rattle.inputs.proofs.for_each_input.Goals as goal

ran_once : {F X : Type 0} (step : F → X → F → Type 0) (f g : F) (x : X) → step f x g → RanAtInputs step f g
ran_once step f g x s = (x ∷ [], omega arith, (g, s, refl))

ran_more : {F X : Type 0} (step : F → X → F → Type 0) (f g h : F) (x : X) → RanAtInputs step f g → step g x h → RanAtInputs step f h
ran_more step f g h x (inputs, some, run) s = (inputs ++ (x ∷ []), simp length-append (omega arith), FoldsTo-push step f inputs g x h run s)

pub loop-name-init : goal.loop-name-init
loop-name-init g c =
    let run : goal.F-step g c.args.act c.deref.result (Ok tt) c.call_mut.new.self = search rules in
    (search of_calls, ran_once (λ f input h. goal.F-step g f input (Ok tt) h) c.args.act c.call_mut.new.self c.deref.result run)

pub loop-name-preserved : goal.loop-name-preserved
loop-name-preserved g c =
    let run : goal.F-step g c.loop-name.act c.deref-in-loop-name.result (Ok tt) c.call_mut-in-loop-name.new.self = search rules in (
      search of_calls,
      ran_more (λ f input h. goal.F-step g f input (Ok tt) h) c.args.act c.loop-name.act c.call_mut-in-loop-name.new.self c.deref-in-loop-name.result c.loop-name.invariant.1 run,
    )
