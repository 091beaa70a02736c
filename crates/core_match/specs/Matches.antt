-- The path of a type relocation in a type of the target.
use Rattle.std.specs.Prelude.{ℕ, ◌-◌, length, slice_get, List, [], ◌∷◌, ◌++◌, Option, None, Some, Result, Ok, Err, if◌then◌else◌}
use Rattle.std.specs.Option.{option_map, option_map_or, option_to_list}
use Rattle.core_spec.specs.Lookups.{and_then, with_found}
use Rattle.core_spec.specs.declared.error.AccessError.{AccessError}
use Rattle.core_spec.specs.declared.error.AccessError.TheVariants as errors
use Rattle.core_spec.specs.declared.path.AccessPath.{AccessPath}
use Rattle.core_spec.specs.declared.path.Step.{Step}
use Rattle.core_spec.specs.declared.path.Step.TheVariants.{Variant}
use Rattle.core_spec.specs.declared.subject.Subject.{Subject}
use Rattle.core_spec.specs.declared.subject.Subject.TheVariants as subjects
use Rattle.btf_compatibility.specs.TypeCompatibility.{types_compatible}
use Rattle.btf_records.specs.declared.error.BtfError.TheVariants.{InvalidTypeInfo}
use Rattle.btf_tables.specs.Tables.{Table}
use Rattle.core_match.specs.Steps.{step_matched}
use Rattle.core_match.specs.VariantMatches.{variant_matched}
use Rattle.core_match.specs.declared.step.Progress.{Progress}

-- The path at its end. It is an error if the sum of bits overflows 32 bits.
abbrev pub path_found : ℕ → List Step → Option ℕ → Result (Option AccessPath) AccessError
path_found id steps None = Err (errors.BtfError InvalidTypeInfo)
path_found id steps (Some bits) =
    Ok (Some (record { type_id = id; steps = steps; bit_offset = bits }))

-- The path that continues with these steps of a local path.
unfoldable pub matched_from : Table
    → Table
    → ℕ
    → List Step
    → Progress
    → List Step
    → Result (Option AccessPath) AccessError
matched_from local target id steps from [] = path_found id steps from.bits
matched_from local target id steps from (s ∷ ss) =
    and_then (step_matched local s target from) (λ next.
    option_map_or (λ n. matched_from local target id (steps ++ option_to_list n.last) n ss) next
    (Ok None))

abbrev pub first_progress : ℕ → Progress
first_progress id = record { type_id = id; last = None; bits = Some 0; parts = 0 }

abbrev pub fields_matched : Table → List Step → Table → ℕ → Result (Option AccessPath) AccessError
fields_matched local path target id = matched_from local target id [] (first_progress id) path

-- The path to a whole type.
abbrev pub type_matched : Table → ℕ → Table → ℕ → Result (Option AccessPath) AccessError
type_matched local local_id target id =
    with_found (types_compatible local local_id target id) (λ yes.
    if yes then Ok (Some (record { type_id = id; steps = []; bit_offset = 0 })) else Ok None)

-- The path to a variant. The local path must end at a variant.
abbrev pub enum_matched : Table → Option Step → Table → ℕ → Result (Option AccessPath) AccessError
enum_matched local (Some (Variant place)) target id =
    and_then (variant_matched local place target id) (λ found.
    Ok (option_map (λ p. record { type_id = id; steps = Variant p ∷ []; bit_offset = 0 }) found))
enum_matched local _ target id = Err (errors.InvalidRelocationKindForType id)

abbrev pub matching_path : Subject
    → Table
    → AccessPath
    → Table
    → ℕ
    → Result (Option AccessPath) AccessError
matching_path subjects.Field local path target id = fields_matched local path.steps target id
matching_path subjects.Type local path target id = type_matched local path.type_id target id
matching_path subjects.Variant local path target id =
    enum_matched local (slice_get path.steps (length path.steps - 1)) target id
