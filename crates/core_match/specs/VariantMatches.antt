-- The variant of an enum with a local variant's name (`bpf_core_spec_match`,
-- tools/lib/bpf/relo_core.c).
use Rattle.std.specs.Prelude.{ℕ, zero, suc, Bool, nat_eq, List, Option, None, Some, Result, Ok, Err, if◌then◌else◌}
use Rattle.std.specs.Cmp.Lexicographic.{pointwise}
use Rattle.std.specs.Option.{option_map, option_map_or}
use Rattle.core_spec.specs.Lookups.{and_then, with_found, with_text, with_type}
use Rattle.core_spec.specs.Variants.{variant_count, variant_name}
use Rattle.core_spec.specs.declared.error.AccessError.{AccessError}
use Rattle.core_spec.specs.declared.error.AccessError.TheVariants.{InvalidRelocationKindForType}
use Rattle.core_spec.specs.declared.path.Place.{Place}
use Rattle.btf_records.specs.declared.types.BtfType.{BtfType}
use Rattle.btf_tables.specs.EssentialNames.{essential_name}
use Rattle.btf_tables.specs.ResolvedTypes.{resolved_type}
use Rattle.btf_tables.specs.Tables.{Table}

-- Whether two names are equal. Flavours are ignored.
abbrev pub is_so_named : Table → ℕ → List ℕ → Result Bool AccessError
is_so_named target offset name =
    with_text target offset (λ text.
    Ok (pointwise nat_eq (essential_name text) (essential_name name)))

-- The index of the first variant with a name, among `n` variants from an index on.
unfoldable pub first_variant : Table → BtfType → List ℕ → ℕ → ℕ → Result (Option ℕ) AccessError
first_variant target t name zero index = Ok None
first_variant target t name (suc n) index =
    option_map_or
    (λ offset.
    and_then (is_so_named target offset name) (λ is.
    if is then Ok (Some index) else first_variant target t name n (suc index)))
    (variant_name t index) (Ok None)

-- The name of a local variant.
abbrev pub local_variant : Table → Place → Result (List ℕ) AccessError
local_variant local place =
    with_type local place.type_id (λ t.
    option_map_or (λ offset. with_text local offset (λ name. Ok name)) (variant_name t place.index)
    (Err (InvalidRelocationKindForType place.type_id)))

-- The variant of a type with a local variant's name. A type that isn't an enum has none.
abbrev pub variant_matched : Table → Place → Table → ℕ → Result (Option Place) AccessError
variant_matched local place target id =
    with_found (resolved_type target id) (λ root.
    with_type target root (λ t.
    option_map_or
    (λ count.
    and_then (local_variant local place) (λ name.
    and_then (first_variant target t name count 0) (λ index.
    Ok (option_map (λ i. record { type_id = root; index = i }) index))))
    (variant_count t) (Ok None)))
