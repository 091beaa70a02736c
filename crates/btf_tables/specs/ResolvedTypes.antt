-- Resolved types: the end of a chain of modifiers ("BTF_KIND_TYPEDEF", "BTF_KIND_VOLATILE",
-- "BTF_KIND_CONST", "BTF_KIND_RESTRICT", "BTF_KIND_TYPE_TAG"), as in libbpf's `btf__resolve_type`
-- (tools/lib/bpf/btf.c).
use Rattle.std.specs.Prelude.{◌≡◌, ℕ, zero, suc, ◌<◌, List, [], ◌∷◌, length, Option, None, Some, Result, Ok, Err}
use Rattle.std.specs.Option.{IsSomeAnd, option_map_or}
use Rattle.btf_tables.specs.Tables.{Table, type_by_id}
use Rattle.btf_records.specs.declared.error.BtfError.{BtfError}
use Rattle.btf_records.specs.declared.error.BtfError.TheVariants.{MaximumTypeDepthReached, UnknownBtfType}
use Rattle.btf_records.specs.declared.types.BtfType.{BtfType}
use Rattle.btf_records.specs.declared.types.BtfType.TheVariants as types

-- The greatest number of records of a chain or a walk: libbpf's MAX_RESOLVE_DEPTH.
abbrev pub max_depth : ℕ
max_depth = 32

-- The type that a modifier modifies.
abbrev pub modified_type : BtfType → Option ℕ
modified_type (types.Typedef t) = Some t.btf_type
modified_type (types.Volatile t) = Some t.btf_type
modified_type (types.Const t) = Some t.btf_type
modified_type (types.Restrict t) = Some t.btf_type
modified_type (types.TypeTag t) = Some t.btf_type
modified_type _ = None

-- The end of a chain that continues from this record.
abbrev pub end_from : (ℕ → Result ℕ BtfError) → ℕ → Option BtfType → Result ℕ BtfError
end_from go id None = Err (UnknownBtfType id)
end_from go id (Some t) = option_map_or go (modified_type t) (Ok id)

-- The id at the end of a chain of modifiers of at most n records, including the end. A longer chain
-- is too deep, reported with the id that was asked for.
unfoldable pub chain_end : ℕ → Table → ℕ → ℕ → Result ℕ BtfError
chain_end zero table asked id = Err (MaximumTypeDepthReached asked)
chain_end (suc n) table asked id = end_from (chain_end n table asked) id (type_by_id table id)

-- The type at the end of a chain of modifiers.
abbrev pub resolved_type : Table → ℕ → Result ℕ BtfError
resolved_type table id = chain_end max_depth table id id

-- A chain from an id over other ids to its end. Each record but the last is a modifier.
abbrev pub IsEndOver : Table → ℕ → List ℕ → ℕ → Type 0
IsEndOver table id [] end =
    (id ≡ end) × IsSomeAnd (type_by_id table id) (λ t. modified_type t ≡ None)
IsEndOver table id (next ∷ others) end =
    IsSomeAnd (type_by_id table id) (λ t. modified_type t ≡ Some next)
    × IsEndOver table next others end

abbrev pub IsEnd : Table → ℕ → ℕ → Type 0
IsEnd table id end = (others : List ℕ) × (length others < max_depth) × IsEndOver table id others end
