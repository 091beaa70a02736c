-- The names of a plan's programs.
use Rattle.std.proofs.Common.{◌≡◌, ℕ, List, [], ◌∷◌, map, Bool, refl, ap, ◌∙◌, Some, None}
use Rattle.std.specs.Prelude.{Option}
use Rattle.btf_sanitize.specs.Answers.{Answers}
use Rattle.object_parts.specs.Content.{FunctionContent, ProgramContent, function_at}
use Rattle.program_kinds.specs.declared.program_section.ProgramSection.{ProgramSection}
use Rattle.load_plan.specs.Plans.{plan_program_of, program_of}

name-program_of : (answers : Answers) (has_types : Bool) (name : List ℕ) (section : ProgramSection) (function : Option FunctionContent) → (program_of answers has_types name section function).name ≡ name
name-program_of answers has_types name section None = refl
name-program_of answers has_types name section (Some f) = refl

-- The names of a plan's programs are those of the object's programs.
pub names-plan_program_of : (answers : Answers) (has_types : Bool) (functions : List ((ℕ × ℕ) × FunctionContent)) (programs : List (List ℕ × ProgramContent)) → map (λ p. p.name) (map (plan_program_of answers has_types functions) programs) ≡ map (λ e. e.0) programs
names-plan_program_of answers has_types functions [] = refl
names-plan_program_of answers has_types functions (e ∷ es) =
    ap (λ name. name ∷ map (λ p. p.name) (map (plan_program_of answers has_types functions) es)) (name-program_of answers has_types e.0 e.1.section (function_at functions (e.1.section_index, e.1.address)))
    ∙ ap (λ (rest : List (List ℕ)). e.0 ∷ rest) (names-plan_program_of answers has_types functions es)
