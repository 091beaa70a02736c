-- Type sizes, as in libbpf's `btf__resolve_size` (tools/lib/bpf/btf.c). In contrast to libbpf, the
-- walk continues from functions and function prototypes, and a size may exceed 32 bits.
use Rattle.std.specs.Prelude.{◌≡◌, ℕ, zero, suc, ◌*◌, ◌^◌, ◌<◌, List, [], ◌∷◌, length, ⊤, Option, None, Some, Result, Ok, Err, if◌then◌else◌, nat_lt}
use Rattle.std.specs.Option.{IsSomeAnd, option_map, option_map_or}
use Rattle.btf_tables.specs.ResolvedTypes.{max_depth}
use Rattle.btf_tables.specs.Tables.{Table, type_by_id}
use Rattle.btf_records.specs.Fields.{size_of, type_of}
use Rattle.btf_records.specs.declared.error.BtfError.{BtfError}
use Rattle.btf_records.specs.declared.error.BtfError.TheVariants.{InvalidTypeInfo, MaximumTypeDepthReached, UnexpectedBtfType, UnknownBtfType}
use Rattle.btf_records.specs.declared.types.BtfType.{BtfType}
use Rattle.btf_records.specs.declared.types.BtfType.TheVariants as types

-- The size in bytes of a record with a size of its own. The size of a pointer is that of a BPF
-- register.
abbrev pub own_size : BtfType → Option ℕ
own_size (types.Ptr t) = Some 8
own_size t = size_of t

-- For a record without a size of its own: a factor, and the id of the type whose size is multiplied
-- by it.
abbrev pub sized_by : BtfType → Option (ℕ × ℕ)
sized_by (types.Ptr t) = None
sized_by (types.Array t) = Some (t.array.len, t.array.element_type)
sized_by t = option_map (λ id. (1, id)) (type_of t)

-- A walk that continues after a record without a size of its own. `count` is the product of the
-- array lengths so far.
abbrev pub size_after : (ℕ → ℕ → Result ℕ BtfError) → ℕ → ℕ → Option (ℕ × ℕ) → Result ℕ BtfError
size_after go count id None = Err (UnexpectedBtfType id)
size_after go count id (Some by) =
    if nat_lt (count * by.0) (2 ^ 32) then go (count * by.0) by.1 else Err InvalidTypeInfo

abbrev pub size_from : (ℕ → ℕ → Result ℕ BtfError) → ℕ → ℕ → Option BtfType → Result ℕ BtfError
size_from go count id None = Err (UnknownBtfType id)
size_from go count id (Some t) =
    option_map_or (λ size. Ok (count * size)) (own_size t) (size_after go count id (sized_by t))

-- `count` times the size at the end of a walk of at most n records.
unfoldable pub size_at_end : ℕ → Table → ℕ → ℕ → ℕ → Result ℕ BtfError
size_at_end zero table asked count id = Err (MaximumTypeDepthReached asked)
size_at_end (suc n) table asked count id =
    size_from (size_at_end n table asked) count id (type_by_id table id)

-- The size of a type in bytes.
abbrev pub type_size : Table → ℕ → Result ℕ BtfError
type_size table id = size_at_end max_depth table id 1 id

-- The size of a type, if it fits 32 bits.
abbrev pub in_32_bits : Result ℕ BtfError → Result ℕ BtfError
in_32_bits (Err e) = Err e
in_32_bits (Ok size) = if nat_lt size (2 ^ 32) then Ok size else Err InvalidTypeInfo

abbrev pub type_size_in_32_bits : Table → ℕ → Result ℕ BtfError
type_size_in_32_bits table id = in_32_bits (type_size table id)

-- A walk from an id over other ids, where each record leads to the next. The size is that of the
-- last record, times the lengths of the arrays on the walk.
abbrev pub IsSizeOver : Table → ℕ → List ℕ → ℕ → Type 0
IsSizeOver table id [] size = IsSomeAnd (type_by_id table id) (λ t. own_size t ≡ Some size)
IsSizeOver table id (next ∷ others) size =
    IsSomeAnd (type_by_id table id) (λ t.
    (own_size t ≡ None)
    × ((count : ℕ)
    × (sized_by t ≡ Some (count, next))
    × ((rest : ℕ) × IsSizeOver table next others rest × (size ≡ count * rest))))

-- At each step of a walk, the product of `count` and the array lengths so far is less than 2^32.
abbrev pub IsInLimit : Table → ℕ → ℕ → List ℕ → Type 0
IsInLimit table count id [] = ⊤
IsInLimit table count id (next ∷ others) =
    IsSomeAnd (type_by_id table id) (λ t. IsSomeAnd (sized_by t) (λ by.
    (count * by.0 < 2 ^ 32) × IsInLimit table (count * by.0) next others))

abbrev pub IsSize : Table → ℕ → ℕ → Type 0
IsSize table id size =
    (others : List ℕ)
    × (length others < max_depth)
    × IsInLimit table 1 id others
    × IsSizeOver table id others size
