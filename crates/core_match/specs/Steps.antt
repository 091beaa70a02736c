-- The steps of a local path, followed in the target's types (`bpf_core_spec_match`,
-- tools/lib/bpf/relo_core.c).
use Rattle.std.specs.Prelude.{ℕ, ◌+◌, Bool, ◌&&◌, is_some, min, slice_get, Option, None, Some, Result, Ok, Err, if◌then◌else◌, nat_le}
use Rattle.std.specs.Option.{option_map, option_map_or}
use Rattle.core_spec.specs.FieldPaths.{elements_after, has_element}
use Rattle.core_spec.specs.Lookups.{and_then, with_found, with_text, with_type}
use Rattle.core_spec.specs.declared.error.AccessError.{AccessError}
use Rattle.core_spec.specs.declared.error.AccessError.TheVariants.{InvalidRelocationKindForType, MaximumNestingLevelReached}
use Rattle.core_spec.specs.declared.path.Place.{Place}
use Rattle.core_spec.specs.declared.path.Step.{Step}
use Rattle.core_spec.specs.declared.path.Step.TheVariants.{Element, Member, Variant}
use Rattle.btf_records.specs.Fields.{array_of, members_of}
use Rattle.btf_records.specs.declared.item.BtfArray.{BtfArray}
use Rattle.btf_records.specs.declared.item.BtfMember.{BtfMember}
use Rattle.btf_records.specs.declared.types.BtfType.{BtfType}
use Rattle.btf_tables.specs.ResolvedTypes.{resolved_type}
use Rattle.btf_tables.specs.Tables.{Table}
use Rattle.btf_tables.specs.TypeSizes.{type_size_in_32_bits}
use Rattle.core_match.specs.declared.step.Progress.{Progress}
use Rattle.core_match.specs.Looks.{searched}
use Rattle.core_match.specs.Searches.{member_found}
use Rattle.core_match.specs.declared.search.FoundMember.{FoundMember}

-- The greatest number of parts of a path: libbpf's BPF_CORE_SPEC_MAX_LEN.
abbrev pub max_parts : ℕ
max_parts = 64

-- The type of an array's elements, if the array has an element of this index or is flexible.
abbrev pub element_of_array : Table → Step → ℕ → Option BtfArray → Result (Option ℕ) AccessError
element_of_array target last index None = Ok None
element_of_array target last index (Some array) =
    if has_element target array.len last index then with_found
    (resolved_type target array.element_type) (λ id. Ok (Some id))
    else Ok None

-- The type of the element that a number denotes. The first number counts elements of the type
-- itself, and each other number elements of an array.
abbrev pub element_in : Table → ℕ → Option Step → ℕ → Result (Option ℕ) AccessError
element_in target id None index = Ok (Some id)
element_in target id (Some last) index =
    with_type target id (λ t. element_of_array target last index (array_of t))

-- The progress to an element.
abbrev pub element_reached : Table → Progress → ℕ → ℕ → Result (Option Progress) AccessError
element_reached target from index id =
    if nat_le max_parts from.parts then Err MaximumNestingLevelReached
    else with_found (type_size_in_32_bits target id) (λ size. Ok (Some (record {
      type_id = id;
      last = Some (Element (record { type_id = id; index = index }));
      bits = elements_after from.bits index size;
      parts = from.parts + 1;
    })))

abbrev pub element_matched : Table → Progress → ℕ → Result (Option Progress) AccessError
element_matched target from index =
    with_found (resolved_type target from.type_id) (λ id.
    and_then (element_in target id from.last index) (λ element.
    option_map_or (element_reached target from index) element (Ok None)))

-- The member at a place of the local types.
abbrev pub local_member : Table → Place → Result BtfMember AccessError
local_member local place =
    with_type local place.type_id (λ t.
    option_map_or (λ m. Ok m) (slice_get (members_of t) place.index)
    (Err (InvalidRelocationKindForType place.type_id)))

abbrev pub has_members : BtfType → Bool
has_members t = is_some (slice_get (members_of t) 0)

-- The progress to a member that was found.
abbrev pub at_member : Progress → Option FoundMember → Option Progress
at_member from found = option_map (λ f. record {
  type_id = f.type_id;
  last = Some (Member f.place);
  bits = f.bits;
  parts = min (from.parts + f.parts) max_parts;
}) found

abbrev pub passed_to : Progress
    → Result (Option FoundMember) AccessError
    → Result (Option Progress) AccessError
passed_to from (Err e) = Err e
passed_to from (Ok found) = Ok (at_member from found)

-- The progress to the member with the name of a local member. No member is compared after 64 parts.
abbrev pub member_matched : Table → Place → Table → Progress → Result (Option Progress) AccessError
member_matched local place target from =
    with_found (resolved_type target from.type_id) (λ root.
    and_then (local_member local place) (λ m.
    with_text local m.name_offset (λ name.
    with_type target root (λ t.
    if nat_le max_parts from.parts && has_members t then Err MaximumNestingLevelReached
    else passed_to from (member_found (searched local m.btf_type name target) root from.bits)))))

abbrev pub step_matched : Table → Step → Table → Progress → Result (Option Progress) AccessError
step_matched local (Element place) target from = element_matched target from place.index
step_matched local (Member place) target from = member_matched local place target from
step_matched local (Variant place) target from = Err (InvalidRelocationKindForType place.type_id)
