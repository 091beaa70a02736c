use Rattle.std.proofs.Common.{◌≡◌, ◌++◌, map}
use Rattle.std.specs.List.{All}
use Rattle.object_parts.specs.Names.{by_bytes}
use Rattle.load_plan.specs.Plans.{plan_program_of}
use Rattle.plan_text.specs.Content.{IsSoundProgram}
use Rattle.load_plan.proofs.contents.plan_programs.Given as goal

abbrev pub invariant-loop-name : goal.invariant-loop-name
invariant-loop-name l =
    (l.programs.items ++ map (plan_program_of l.answers.items l.has_types l.object.functions) (by_bytes l.name-iterator) ≡ map (plan_program_of l.answers.items l.has_types l.object.functions) l.object.programs) × All IsSoundProgram l.programs.items
