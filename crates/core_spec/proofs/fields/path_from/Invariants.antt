use Rattle.std.proofs.Common.{◌≡◌, [], ◌∷◌, drop}
use Rattle.core_spec.specs.FieldPaths.{path_from}
use Rattle.core_spec.proofs.fields.path_from.Given as goal

abbrev pub invariant-loop-number : goal.invariant-loop-number
invariant-loop-number l = path_from l.table l.type_id l.steps l.reached (drop l.number-index l.numbers) ≡ path_from l.table l.type_id (l.fn.first.last ∷ []) l.fn.first l.numbers
