-- The path of a type relocation through the types that its program was compiled against.
use Rattle.std.specs.Prelude.{ℕ, ◌==◌, List, [], ◌∷◌, Option, None, Some, Result, Ok, Err, if◌then◌else◌}
use Rattle.core_spec.specs.AccessStrings.{access_numbers}
use Rattle.core_spec.specs.FieldPaths.{field_path}
use Rattle.core_spec.specs.Lookups.{and_then, with_found, with_text, with_type}
use Rattle.core_spec.specs.Subjects.{subject_of}
use Rattle.core_spec.specs.Variants.{variant_place}
use Rattle.core_spec.specs.declared.error.AccessError.{AccessError}
use Rattle.core_spec.specs.declared.error.AccessError.TheVariants.{InvalidAccessString}
use Rattle.core_spec.specs.declared.path.AccessPath.{AccessPath}
use Rattle.core_spec.specs.declared.path.Step.TheVariants.{Variant}
use Rattle.core_spec.specs.declared.subject.Subject.{Subject}
use Rattle.core_spec.specs.declared.subject.Subject.TheVariants as subjects
use Rattle.btf_records.specs.Fields.{name_offset_of}
use Rattle.btf_tables.specs.ResolvedTypes.{resolved_type}
use Rattle.btf_tables.specs.Tables.{Table}
use Rattle.ebpf_items.specs.declared.relocation_kind.RelocationKind.{RelocationKind}

-- The path to a whole type. Its only number is 0.
abbrev pub type_path : ℕ → List ℕ → Result AccessPath AccessError
type_path asked (n ∷ []) =
    if n == 0
    then Ok (record { type_id = asked; steps = []; bit_offset = 0 })
    else Err InvalidAccessString
type_path asked _ = Err InvalidAccessString

-- The path by these numbers from a type whose id after modifiers is `root`.
abbrev pub path_of : Subject → Table → ℕ → ℕ → List ℕ → Result AccessPath AccessError
path_of subjects.Field table asked root numbers = field_path table asked root numbers
path_of subjects.Type table asked root numbers = type_path asked numbers
path_of subjects.Variant table asked root numbers =
    and_then (variant_place table root numbers) (λ place.
    Ok (record { type_id = asked; steps = Variant place ∷ []; bit_offset = 0 }))

abbrev pub with_numbers : {U : Type 0}
    → Option (List ℕ)
    → (List ℕ → Result U AccessError)
    → Result U AccessError
with_numbers None go = Err InvalidAccessString
with_numbers (Some numbers) go = go numbers

-- The path of an access, where the name of the type and the access string can be read and the type
-- can be resolved after its modifiers.
abbrev pub subject_path : Table → Subject → ℕ → ℕ → Result AccessPath AccessError
subject_path table subject id access_str_off =
    with_type table id (λ t.
    with_text table (name_offset_of t) (λ _.
    with_text table access_str_off (λ text.
    with_numbers (access_numbers text) (λ numbers.
    with_found (resolved_type table id) (λ root.
    path_of subject table id root numbers)))))

abbrev pub local_path : Table → RelocationKind → ℕ → ℕ → Result AccessPath AccessError
local_path table kind id access_str_off = subject_path table (subject_of kind) id access_str_off
