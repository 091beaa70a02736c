use Rattle.std.proofs.Common.{◌≡◌}
use Rattle.std.specs.Vec.Iter.{into_iter_items}
use Rattle.object_parse.specs.LackingCode.{first_without_code, place_without_code}
use Rattle.object_parse.proofs.lacking_code.function_without_code.Given as goal

abbrev pub invariant-loop-view : goal.invariant-loop-view
invariant-loop-view l = first_without_code l.file (into_iter_items l.view-iterator) ≡ place_without_code l.file
