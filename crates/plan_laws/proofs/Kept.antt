-- The parts of an object that passes keep while they are made one after another.
use Rattle.std.proofs.Common.{◌≡◌, List, [], ◌∷◌, ap, ◌∙◌}
use Rattle.std.specs.List.{AllByRecursion}
use Rattle.load_plan.specs.Inputs.{Inputs, State, Under}
use Rattle.load_plan.specs.Passes.{Made, Makes, Pass}

-- A part that each of some passes keeps is unchanged.
pub made-keeps : {A : Type 0} (i : Inputs) (u : Under) (of : State → A) (Ok : Pass → Type 0)
    → ((p : Pass) (s t : State) → Ok p → Makes p i u s t → of t ≡ of s)
    → (ps : List Pass) → AllByRecursion Ok ps → (s t : State) → Made ps i u s t → of t ≡ of s
made-keeps i u of Ok keeps [] ok s t made = ap of made
made-keeps i u of Ok keeps (p ∷ ps) ok s t made =
    made-keeps i u of Ok keeps ps ok.1 made.0 t made.2 ∙ keeps p s made.0 ok.0 made.1
