-- Paths to fields (`bpf_core_parse_spec`, tools/lib/bpf/relo_core.c). The first number counts
-- elements of the type itself. Each other number is the index of a member or an element.
use Rattle.std.specs.Prelude.{ℕ, ◌+◌, ◌*◌, ◌^◌, ◌==◌, ◌&&◌, ◌||◌, Bool, false, List, [], ◌∷◌, ◌++◌, length, slice_get, Option, None, Some, Result, Ok, Err, if◌then◌else◌, nat_lt}
use Rattle.std.specs.Option.{option_map_or, option_to_list, unwrap_or}
use Rattle.core_spec.specs.Lookups.{and_then, with_found, with_text, with_type}
use Rattle.core_spec.specs.declared.error.AccessError.{AccessError}
use Rattle.core_spec.specs.declared.error.AccessError.TheVariants as errors
use Rattle.core_spec.specs.declared.fields.Advance.{Advance}
use Rattle.core_spec.specs.declared.fields.Reached.{Reached}
use Rattle.core_spec.specs.declared.path.AccessPath.{AccessPath}
use Rattle.core_spec.specs.declared.path.Place.{Place}
use Rattle.core_spec.specs.declared.path.Step.{Step}
use Rattle.core_spec.specs.declared.path.Step.TheVariants.{Element, Member, Variant}
use Rattle.btf_encoding.specs.Records.{bits_of, count_of}
use Rattle.btf_records.specs.Items.{bit_offset_of}
use Rattle.btf_records.specs.Fields.{members_of}
use Rattle.btf_records.specs.declared.error.BtfError.TheVariants.{InvalidTypeInfo}
use Rattle.btf_records.specs.declared.item.BtfArray.{BtfArray}
use Rattle.btf_records.specs.declared.item.BtfMember.{BtfMember}
use Rattle.btf_records.specs.declared.types.BtfType.{BtfType}
use Rattle.btf_records.specs.declared.types.BtfType.TheVariants as types
use Rattle.btf_tables.specs.ResolvedTypes.{resolved_type}
use Rattle.btf_tables.specs.Tables.{Table, type_by_id}
use Rattle.btf_tables.specs.TypeSizes.{type_size_in_32_bits}

-- The sum of two numbers of bits, if it fits in 32 bits.
abbrev pub bits_after : Option ℕ → ℕ → Option ℕ
bits_after None more = None
bits_after (Some bits) more = if nat_lt (bits + more) (2 ^ 32) then Some (bits + more) else None

-- The bits before an element: the given bits and those of `count` elements of `size` bytes.
abbrev pub elements_after : Option ℕ → ℕ → ℕ → Option ℕ
elements_after bits count size = bits_after bits (8 * (count * size))

abbrev pub step_place : Step → Place
step_place (Element place) = place
step_place (Member place) = place
step_place (Variant place) = place

-- Whether a record is a struct whose last member has this index.
abbrev pub ends_with : BtfType → ℕ → Bool
ends_with (types.Struct t) index = length t.members == index + 1
ends_with _ index = false

-- Whether an array is flexible: it has length 0 and is the last member of a struct. Its indexes
-- aren't bounded. `place` is the step before.
abbrev pub is_flexible_array : Table → ℕ → Place → Bool
is_flexible_array table len place =
    (len == 0)
    && option_map_or (λ t. ends_with t place.index) (type_by_id table place.type_id) false

abbrev pub has_element : Table → ℕ → Step → ℕ → Bool
has_element table len last index = nat_lt index len || is_flexible_array table len (step_place last)

-- The path after its first number.
abbrev pub first_index : Table → ℕ → ℕ → Result Reached AccessError
first_index table root index =
    with_found (type_size_in_32_bits table root) (λ size. Ok (record {
      type_id = root;
      last = Element (record { type_id = root; index = index });
      bits = elements_after (Some 0) index size;
    }))

-- The step to a member. A member whose name has the offset 0 makes no step.
abbrev pub member_step : Table → Place → BtfMember → Result (Option Step) AccessError
member_step table place m =
    if m.name_offset == 0
    then Ok None
    else with_text table m.name_offset (λ _. Ok (Some (Member place)))

abbrev pub at_member : Table → Reached → BtfType → Place → BtfMember → Result Advance AccessError
at_member table from t place m = and_then (member_step table place m) (λ step. Ok (record {
  reached = record {
    type_id = m.btf_type;
    last = unwrap_or step from.last;
    bits = bits_after from.bits (bit_offset_of (bits_of t).flag m);
  };
  step = step;
}))

abbrev pub to_member : Table → Reached → BtfType → Place → Result Advance AccessError
to_member table from t place =
    option_map_or (at_member table from t place) (slice_get (members_of t) place.index)
    (Err (errors.InvalidAccessIndex place (count_of t)))

abbrev pub at_element : Table → Reached → ℕ → ℕ → Result Advance AccessError
at_element table from element index = with_found (type_size_in_32_bits table element) (λ size. Ok (record {
  reached = record {
    type_id = element;
    last = Element (record { type_id = element; index = index });
    bits = elements_after from.bits index size;
  };
  step = Some (Element (record { type_id = element; index = index }));
}))

abbrev pub to_element : Table → Reached → BtfArray → Place → Result Advance AccessError
to_element table from array place =
    with_found (resolved_type table array.element_type) (λ element.
    if has_element table array.len from.last place.index then at_element table from element
    place.index
    else Err (errors.InvalidAccessIndex place array.len))

-- The path after one more number, from a record without modifiers.
abbrev pub to_part : Table → Reached → Place → BtfType → Result Advance AccessError
to_part table from place (types.Struct t) = to_member table from (types.Struct t) place
to_part table from place (types.Union t) = to_member table from (types.Union t) place
to_part table from place (types.Array t) = to_element table from t.array place
to_part table from place _ = Err (errors.InvalidRelocationKindForType place.type_id)

abbrev pub apply_index : Table → Reached → ℕ → Result Advance AccessError
apply_index table from index =
    with_found (resolved_type table from.type_id) (λ id.
    with_type table id (to_part table from (record { type_id = id; index = index })))

-- The path at its end. It is an error if the sum of bits overflows 32 bits.
abbrev pub finished_path : ℕ → List Step → Option ℕ → Result AccessPath AccessError
finished_path asked steps None = Err (errors.BtfError InvalidTypeInfo)
finished_path asked steps (Some bits) = Ok (record { type_id = asked; steps = steps; bit_offset = bits })

-- The path that continues with these numbers.
unfoldable pub path_from : Table → ℕ → List Step → Reached → List ℕ → Result AccessPath AccessError
path_from table asked steps reached [] = finished_path asked steps reached.bits
path_from table asked steps reached (n ∷ ns) =
    and_then (apply_index table reached n) (λ next.
    path_from table asked (steps ++ option_to_list next.step) next.reached ns)

abbrev pub field_path : Table → ℕ → ℕ → List ℕ → Result AccessPath AccessError
field_path table asked root [] = Err errors.InvalidAccessString
field_path table asked root (n ∷ ns) =
    and_then (first_index table root n) (λ reached. path_from table asked (reached.last ∷ []) reached ns)
