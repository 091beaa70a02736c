-- Whether a type of one table is compatible with a type of another, as in libbpf's
-- `__bpf_core_types_are_compat` (tools/lib/bpf/relo_core.c). In contrast to libbpf, the depth is
-- only limited by a pair that contains itself, a chain of modifiers has at most 32 records, ENUM
-- and ENUM64 are two kinds, FLOATs are compatible, and other kinds are a fault.
use Rattle.std.specs.Prelude.{◌≡◌, ◌≤◌, ℕ, zero, suc, ◌*◌, Bool, true, false, ◌&&◌, ◌==◌, List, [], ◌∷◌, ◌++◌, length, map, Option, None, Some, Result, Ok, Err, if◌then◌else◌}
use Rattle.std.specs.List.{list_any, zip}
use Rattle.std.specs.Option.{option_map_or, option_to_list, unwrap_or}
use Rattle.btf_tables.specs.ResolvedTypes.{chain_end, max_depth, modified_type}
use Rattle.btf_records.specs.Fields.{int_of, kind_of_type, params_of}
use Rattle.btf_records.specs.Info.{offset_in}
use Rattle.btf_records.specs.Kinds.{number_of}
use Rattle.btf_tables.specs.Tables.{Table, type_by_id}
use Rattle.btf_records.specs.declared.error.BtfError.{BtfError}
use Rattle.btf_records.specs.declared.error.BtfError.TheVariants.{MaximumTypeDepthReached, UnexpectedBtfType, UnknownBtfType}
use Rattle.btf_records.specs.declared.kind.BtfKind.{BtfKind}
use Rattle.btf_records.specs.declared.kind.BtfKind.TheVariants as kinds
use Rattle.btf_records.specs.declared.types.BtfType.{BtfType}
use Rattle.btf_records.specs.declared.types.BtfType.TheVariants as types

-- The second result if the first is true, and the first otherwise.
abbrev pub and_also : Result Bool BtfError → Result Bool BtfError → Result Bool BtfError
and_also (Ok true) next = next
and_also (Ok false) next = Ok false
and_also (Err e) next = Err e

-- The first of several results that isn't true, or true.
unfoldable pub all_yes : {P : Type 0} → (P → Result Bool BtfError) → List P → Result Bool BtfError
all_yes ask [] = Ok true
all_yes ask (p ∷ ps) = and_also (ask p) (all_yes ask ps)

abbrev pub same_kind : BtfType → BtfType → Bool
same_kind a b = number_of (kind_of_type a) == number_of (kind_of_type b)

-- Whether a record isn't an integer with a nonzero bit offset.
abbrev pub has_no_bit_offset : BtfType → Bool
has_no_bit_offset t = option_map_or (λ int. offset_in int.int_word == 0) (int_of t) true

-- The result for two records of one kind, other than modifiers, without their parts. l is the id of
-- the local one. Void, STRUCT, UNION, ENUM, ENUM64, FWD, FLOAT, PTR and ARRAY are compatible
-- without their parts.
abbrev pub verdict_of : BtfKind → ℕ → BtfType → BtfType → Result Bool BtfError
verdict_of kinds.Int l a b = Ok (has_no_bit_offset a && has_no_bit_offset b)
verdict_of kinds.FuncProto l a b = Ok (length (params_of a) == length (params_of b))
verdict_of kinds.Func l a b = Err (UnexpectedBtfType l)
verdict_of kinds.Var l a b = Err (UnexpectedBtfType l)
verdict_of kinds.DataSec l a b = Err (UnexpectedBtfType l)
verdict_of kinds.DeclTag l a b = Err (UnexpectedBtfType l)
verdict_of _ l a b = Ok true

abbrev pub verdict : ℕ → BtfType → BtfType → Result Bool BtfError
verdict l a b = if same_kind a b then verdict_of (kind_of_type a) l a b else Ok false

-- The types that a record is made of: the pointee of a pointer, the element of an array, the
-- parameters of a function prototype and then its return type.
abbrev pub parts_of : BtfType → List ℕ
parts_of (types.Ptr t) = t.btf_type ∷ []
parts_of (types.Array t) = t.array.element_type ∷ []
parts_of (types.FuncProto t) = map (λ p. p.btf_type) t.params ++ t.return_type ∷ []
parts_of _ = []

-- The record of a known id.
abbrev pub record_at : Table → ℕ → BtfType
record_at table id = unwrap_or (type_by_id table id) types.Unknown

-- The parts of two known ids, in pairs.
abbrev pub pair_parts : Table → Table → ℕ → ℕ → List (ℕ × ℕ)
pair_parts local target l r = zip (parts_of (record_at local l)) (parts_of (record_at target r))

-- The result for the records of two known ids without their parts.
abbrev pub pair_verdict : Table → Table → ℕ → ℕ → Result Bool BtfError
pair_verdict local target l r = verdict l (record_at local l) (record_at target r)

abbrev pub is_pair : ℕ → ℕ → (ℕ × ℕ) → Bool
is_pair l r p = (p.0 == l) && (p.1 == r)

-- Whether a pair is among the open pairs.
unfoldable pub is_open : List (ℕ × ℕ) → ℕ → ℕ → Bool
is_open open_pairs l r = list_any (is_pair l r) open_pairs

-- The result for the ends of two chains of modifiers, if both chains have an end.
abbrev pub both_ends : (ℕ → ℕ → Result Bool BtfError)
    → Result ℕ BtfError
    → Result ℕ BtfError
    → Result Bool BtfError
both_ends go (Err e) r = Err e
both_ends go (Ok l) (Err e) = Err e
both_ends go (Ok l) (Ok r) = go l r

abbrev pub after_modifiers : Table
    → Table
    → ℕ
    → (ℕ → ℕ → Result Bool BtfError)
    → (ℕ × ℕ)
    → Result Bool BtfError
after_modifiers local target asked go p =
    both_ends go (chain_end max_depth local asked p.0) (chain_end max_depth target asked p.1)

-- The result for two ids without modifiers: that for the records, and then that for their parts in
-- order, while the pair is open. A pair that occurs while it is open is too deep. At most n pairs
-- are open at once.
unfoldable pub compared : ℕ → Table → Table → ℕ → List (ℕ × ℕ) → ℕ → ℕ → Result Bool BtfError
compared zero local target asked open_pairs l r = Err (MaximumTypeDepthReached asked)
compared (suc n) local target asked open_pairs l r =
    if is_open open_pairs l r
    then Err (MaximumTypeDepthReached asked)
    else and_also (pair_verdict local target l r)
    (all_yes
    (after_modifiers local target asked
    (compared n local target asked (open_pairs ++ (l, r) ∷ []))) (pair_parts local target l r))

-- An upper bound of the number of open pairs. It exceeds the number of all pairs of ids.
abbrev pub pair_bound : Table → Table → ℕ
pair_bound local target = suc (suc (length local.types) * suc (length target.types))

-- The result for two ids with modifiers, with at most n pairs open at once.
abbrev pub ends_within : ℕ → Table → Table → ℕ → (ℕ × ℕ) → Result Bool BtfError
ends_within n local target asked p =
    after_modifiers local target asked (compared n local target asked []) p

abbrev pub ends_compatible : Table → Table → ℕ → (ℕ × ℕ) → Result Bool BtfError
ends_compatible local target asked p = ends_within (pair_bound local target) local target asked p

-- Whether two ids are known and have the same kind, where modifiers are kinds too.
abbrev pub first_verdict : ℕ → ℕ → Option BtfType → Option BtfType → Result Bool BtfError
first_verdict l r None b = Err (UnknownBtfType l)
first_verdict l r (Some a) None = Err (UnknownBtfType r)
first_verdict l r (Some a) (Some b) = Ok (same_kind a b)

-- Whether the local type is compatible with the target type, with at most n pairs open at once.
abbrev pub types_within : ℕ → Table → ℕ → Table → ℕ → Result Bool BtfError
types_within n local l target r =
    and_also (first_verdict l r (type_by_id local l) (type_by_id target r))
    (ends_within n local target l (l, r))

abbrev pub types_compatible : Table → ℕ → Table → ℕ → Result Bool BtfError
types_compatible local l target r = types_within (pair_bound local target) local l target r

-- The limit of open pairs doesn't change the result if it is at least the upper bound.
pub record IsBoundless (local : Table) (l : ℕ) (target : Table) (r : ℕ) : Type 0 where
  pub same : (n : ℕ)
      → pair_bound local target ≤ n
      → types_within n local l target r ≡ types_compatible local l target r

-- The ids that the comparison of two types follows on each side.
abbrev pub compared_ids : BtfType → List ℕ
compared_ids t = option_to_list (modified_type t) ++ parts_of t
