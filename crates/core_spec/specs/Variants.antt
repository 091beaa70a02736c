-- The variants of enums, and of unions that stand for enums, and the path to a variant.
use Rattle.std.specs.Prelude.{ℕ, List, [], ◌∷◌, length, slice_get, Option, None, Some, Result, Ok, Err}
use Rattle.std.specs.Option.{option_map, option_map_or, option_and_then}
use Rattle.core_spec.specs.Lookups.{with_text, with_type}
use Rattle.core_spec.specs.declared.error.AccessError.{AccessError}
use Rattle.core_spec.specs.declared.error.AccessError.TheVariants.{InvalidAccessIndex, InvalidAccessString, InvalidRelocationKindForType}
use Rattle.core_spec.specs.declared.path.Place.{Place}
use Rattle.btf_records.specs.declared.types.BtfType.{BtfType}
use Rattle.btf_records.specs.declared.types.BtfType.TheVariants as types
use Rattle.btf_tables.specs.Tables.{Table}

abbrev pub variant_count : BtfType → Option ℕ
variant_count (types.Enum t) = Some (length t.variants)
variant_count (types.Enum64 t) = Some (length t.variants)
variant_count (types.Union t) = option_map (λ e. length e.variants) t.fallback
variant_count _ = None

-- The offset of a variant's name.
abbrev pub variant_name : BtfType → ℕ → Option ℕ
variant_name (types.Enum t) index = option_map (λ v. v.name_offset) (slice_get t.variants index)
variant_name (types.Enum64 t) index = option_map (λ v. v.name_offset) (slice_get t.variants index)
variant_name (types.Union t) index =
    option_and_then (λ e. option_map (λ v. v.name_offset) (slice_get e.variants index)) t.fallback
variant_name _ index = None

-- The variant at an index of an enum with `len` variants, if its name can be read.
abbrev pub variant_at : Table → ℕ → BtfType → ℕ → ℕ → Result Place AccessError
variant_at table id t len index =
    option_map_or (λ offset. with_text table offset (λ _. Ok (record { type_id = id; index = index })))
    (variant_name t index) (Err (InvalidAccessIndex (record { type_id = id; index = index }) len))

-- The variant that the numbers of an access denote. There must be exactly one number.
abbrev pub one_variant : Table → ℕ → BtfType → ℕ → List ℕ → Result Place AccessError
one_variant table id t len (index ∷ []) = variant_at table id t len index
one_variant table id t len _ = Err InvalidAccessString

abbrev pub variant_place : Table → ℕ → List ℕ → Result Place AccessError
variant_place table id numbers =
    with_type table id (λ t.
    option_map_or (λ len. one_variant table id t len numbers) (variant_count t)
    (Err (InvalidRelocationKindForType id)))
