-- What a program did with its inputs.
use Rattle.std.specs.Prelude.{◌<◌, List, length}
use Rattle.std.specs.List.{FoldsTo}

-- Runs of a closure at one input or more, one after the other, took it from f to g; `step` is one run.
abbrev pub RanAtInputs : {F X : Type 0} → (F → X → F → Type 0) → F → F → Type 0
RanAtInputs {F} {X} step f g = (inputs : List X) × (0 < length inputs) × FoldsTo step f inputs g
