use Rattle.std.proofs.Common.{◌≡◌, ◌==◌}
use Rattle.std.specs.Prelude.{◌&&◌, find}
use Rattle.object_parts.specs.Geometry.{is_inside}
use Rattle.core_relocation.proofs.lookup.function_holding.Given as goal

abbrev pub invariant-loop-function : goal.invariant-loop-function
invariant-loop-function l = find (λ e. (e.1.section_index == l.section_index) && is_inside e.1 l.offset) l.functions ≡ find (λ e. (e.1.section_index == l.section_index) && is_inside e.1 l.offset) l.function-iterator
