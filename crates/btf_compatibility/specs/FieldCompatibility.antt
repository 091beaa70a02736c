-- Whether the type of a local member is compatible with that of a target member, as in libbpf's
-- `bpf_core_fields_are_compat` (tools/lib/bpf/relo_core.c). In contrast to libbpf, ENUM and ENUM64
-- are two kinds, an empty name is a name, a flavour begins at the first `___` of a name, arrays of
-- arrays are followed for at most 32 rounds, and other kinds are a fault.
use Rattle.std.specs.Prelude.{ℕ, zero, suc, Bool, true, false, ◌&&◌, ◌||◌, ◌==◌, nat_eq, List, ◌++◌, Result, Ok, Err, if◌then◌else◌}
use Rattle.std.specs.Cmp.Lexicographic.{pointwise}
use Rattle.std.specs.Option.{option_map, option_map_or, option_to_list}
use Rattle.btf_compatibility.specs.TypeCompatibility.{after_modifiers, has_no_bit_offset, record_at, same_kind}
use Rattle.btf_tables.specs.ResolvedTypes.{max_depth, modified_type}
use Rattle.btf_records.specs.Fields.{array_of, kind_of_type, name_offset_of}
use Rattle.btf_records.specs.Kinds.{number_of}
use Rattle.btf_tables.specs.EssentialNames.{essential_name}
use Rattle.btf_tables.specs.Tables.{Table}
use Rattle.string_table.specs.Texts.{text_at}
use Rattle.btf_records.specs.declared.error.BtfError.{BtfError}
use Rattle.btf_records.specs.declared.error.BtfError.TheVariants.{InvalidStringOffset, MaximumTypeDepthReached, UnexpectedBtfType}
use Rattle.btf_records.specs.declared.kind.BtfKind.{BtfKind}
use Rattle.btf_records.specs.declared.kind.BtfKind.TheVariants as kinds
use Rattle.btf_records.specs.declared.types.BtfType.{BtfType}

-- The result for the name of a record, if it can be read.
abbrev pub with_name : Table → BtfType → (List ℕ → Result Bool BtfError) → Result Bool BtfError
with_name table t go =
    option_map_or go (text_at table.strings (name_offset_of t))
    (Err (InvalidStringOffset (name_offset_of t)))

abbrev pub same_names : Table → Table → BtfType → BtfType → Result Bool BtfError
same_names local target a b =
    with_name local a (λ x.
    with_name target b (λ y. Ok (pointwise nat_eq (essential_name x) (essential_name y))))

abbrev pub is_composite : BtfType → Bool
is_composite t =
    (number_of (kind_of_type t) == number_of kinds.Struct)
    || (number_of (kind_of_type t) == number_of kinds.Union)

abbrev pub element_of : BtfType → ℕ
element_of t = option_map_or (λ array. array.element_type) (array_of t) 0

-- The result for two records of one kind, where l is the id of the local one. The result for arrays
-- is that for their elements.
abbrev pub field_verdict : ((ℕ × ℕ) → Result Bool BtfError)
    → Table
    → Table
    → BtfKind
    → ℕ
    → BtfType
    → BtfType
    → Result Bool BtfError
field_verdict go local target kinds.Fwd l a b = same_names local target a b
field_verdict go local target kinds.Enum l a b = same_names local target a b
field_verdict go local target kinds.Enum64 l a b = same_names local target a b
field_verdict go local target kinds.Int l a b = Ok (has_no_bit_offset a && has_no_bit_offset b)
field_verdict go local target kinds.Float l a b = Ok true
field_verdict go local target kinds.Ptr l a b = Ok true
field_verdict go local target kinds.Array l a b = go (element_of a, element_of b)
field_verdict go local target _ l a b = Err (UnexpectedBtfType l)

abbrev pub field_answer : ((ℕ × ℕ) → Result Bool BtfError)
    → Table
    → Table
    → ℕ
    → BtfType
    → BtfType
    → Result Bool BtfError
field_answer go local target l a b =
    if is_composite a && is_composite b
    then Ok true
    else if same_kind a b then field_verdict go local target (kind_of_type a) l a b else Ok false

-- The result for two ids in at most n rounds. Each round skips modifiers and enters an array.
unfoldable pub fields_compared : ℕ → Table → Table → ℕ → (ℕ × ℕ) → Result Bool BtfError
fields_compared zero local target asked p = Err (MaximumTypeDepthReached asked)
fields_compared (suc n) local target asked p =
    after_modifiers local target asked (λ l r.
    field_answer (fields_compared n local target asked) local target l (record_at local l)
    (record_at target r)) p

-- Whether a member of the local type is compatible with a member of the target type.
abbrev pub fields_compatible : Table → ℕ → Table → ℕ → Result Bool BtfError
fields_compatible local l target r = fields_compared max_depth local target l (l, r)

-- The ids that the comparison of two members' types follows on each side.
abbrev pub field_ids : BtfType → List ℕ
field_ids t =
    option_to_list (modified_type t)
    ++ option_to_list (option_map (λ array. array.element_type) (array_of t))
