-- The section `.ksyms` of a table, whose entries are rewritten to a form that the kernel accepts,
-- as in libbpf's bpf_object__collect_externs (tools/lib/bpf/libbpf.c). That function looks for an
-- integer of 32 bits; here an integer of 4 bytes is looked for.
use Rattle.std.specs.Prelude.{◌≡◌, ℕ, ◌+◌, ◌*◌, ◌==◌, ◌&&◌, ◌⊎◌, Any, Bool, true, false, not, if◌then◌else◌, List, [], ◌∷◌, ◌++◌, length, Option, Some, None, is_none, unwrap_or}
use Rattle.std.specs.List.{list_any}
use Rattle.std.specs.Option.{IsSomeAnd, option_map_or}
use Rattle.btf_storage.specs.Ints.{int4_from, int_name, signed_int}
use Rattle.btf_storage.specs.Growth.{AreTooMany, TooMany}
use Rattle.btf_storage.specs.Ids.{record_of_id}
use Rattle.btf_records.specs.Fields.{entries_of, kind_of_type}
use Rattle.btf_records.specs.declared.encoding.VarLinkage.TheVariants.{Global}
use Rattle.btf_records.specs.declared.error.BtfError.{BtfError}
use Rattle.btf_records.specs.declared.error.BtfError.TheVariants.{InvalidDatasec, InvalidTypeInfo, UnexpectedBtfType, UnknownBtfType}
use Rattle.btf_records.specs.declared.item.DataSecEntry.{DataSecEntry}
use Rattle.btf_records.specs.declared.kind.BtfKind.{BtfKind}
use Rattle.btf_records.specs.declared.kind.BtfKind.TheVariants as kinds
use Rattle.btf_records.specs.declared.types.BtfType.{BtfType}
use Rattle.btf_records.specs.declared.types.BtfType.TheVariants as types
use Rattle.btf_records.specs.declared.words.Endianness.{Endianness}

-- A table, the id of the section, and the id of the placeholder variable that replaces functions in
-- it.
pub record Ksyms : Type 0 where
  pub types : List BtfType
  pub strings : List ℕ
  pub section : ℕ
  pub placeholder : Option ℕ

abbrev pub section_entries : Ksyms → List DataSecEntry
section_entries k = option_map_or entries_of (record_of_id k.types k.section) []

-- Whether an entry names a record of this kind.
abbrev pub is_kind : BtfKind → BtfKind → Bool
is_kind kinds.Func kinds.Func = true
is_kind kinds.Var kinds.Var = true
is_kind _ _ = false

abbrev pub names_a : BtfKind → Ksyms → DataSecEntry → Bool
names_a kind k e =
    option_map_or (λ t. is_kind kind (kind_of_type t)) (record_of_id k.types e.btf_type) false

abbrev pub adds_int : Ksyms → Bool
adds_int k = list_any (names_a kinds.Var k) (section_entries k) && is_none (int4_from 1 k.types)

abbrev pub int_id : Ksyms → ℕ
int_id k = unwrap_or (int4_from 1 k.types) (length k.types + 1)

-- The entries, each of 4 bytes at 4 times its index. The placeholder replaces a function.
abbrev pub placed_entry : Ksyms → ℕ → DataSecEntry → DataSecEntry
placed_entry k index e =
    record {
      btf_type = if names_a kinds.Func k e then unwrap_or k.placeholder 0 else e.btf_type;
      offset = 4 * index;
      size = 4;
    }

abbrev pub placed_from : Ksyms → ℕ → List DataSecEntry → List DataSecEntry
placed_from k index [] = []
placed_from k index (e ∷ es) = placed_entry k index e ∷ placed_from k (index + 1) es

-- The rewritten record of an id. A function or variable that the section names becomes global, and
-- such a variable gets the integer as its type.
abbrev pub is_named : Ksyms → ℕ → Bool
is_named k id = list_any (λ e. e.btf_type == id) (section_entries k)

abbrev pub stepped : Ksyms → ℕ → BtfType → BtfType
stepped k id (types.DataSec t) =
    if id == k.section
    then types.DataSec
    (record t
    { entries = placed_from k 0 (section_entries k); size = 4 * length (section_entries k) })
    else types.DataSec t
stepped k id (types.Func t) =
    if is_named k id then types.Func (record t { vlen = 1 }) else types.Func t
stepped k id (types.Var t) =
    if is_named k id
    then types.Var (record t { btf_type = int_id k; linkage = Global })
    else types.Var t
stepped k id t = t

-- Whether a record stays as it is, by its kind and its id.
abbrev pub leaves_a : BtfKind → Ksyms → ℕ → Bool
leaves_a kinds.DataSec k id = not (id == k.section)
leaves_a kinds.Func k id = not (is_named k id)
leaves_a kinds.Var k id = not (is_named k id)
leaves_a _ k id = true

abbrev pub leaves : Ksyms → ℕ → BtfType → Bool
leaves k id t = leaves_a (kind_of_type t) k id

abbrev pub stepped_from : Ksyms → ℕ → List BtfType → List BtfType
stepped_from k id [] = []
stepped_from k id (t ∷ ts) = stepped k id t ∷ stepped_from k (id + 1) ts

-- The table after the step: its types, and the text that follows its strings.
abbrev pub stepped_types : Ksyms → List BtfType
stepped_types k =
    stepped_from k 1 k.types ++ (if adds_int k then signed_int (length k.strings) ∷ [] else [])

abbrev pub stepped_texts : Ksyms → List ℕ
stepped_texts k = if adds_int k then int_name ++ 0 ∷ [] else []

-- An entry that names no type, that names neither a function nor a variable, or that names a
-- function although there is no placeholder.
abbrev pub is_wrong : Option ℕ → BtfKind → Bool
is_wrong placeholder kinds.Func = is_none placeholder
is_wrong placeholder kinds.Var = false
is_wrong placeholder _ = true

abbrev pub EntryFault : Ksyms → DataSecEntry → BtfError → Type 0
EntryFault k e (UnknownBtfType id) = (e.btf_type ≡ id) × (record_of_id k.types id ≡ None)
EntryFault k e InvalidDatasec =
    IsSomeAnd (record_of_id k.types e.btf_type) (λ t.
    is_wrong k.placeholder (kind_of_type t) ≡ true)
EntryFault k e _ = ⊥

-- The id names no type, or a type that isn't a section.
abbrev pub is_section : BtfKind → Bool
is_section kinds.DataSec = true
is_section _ = false

abbrev pub SubjectFault : Ksyms → BtfError → Type 0
SubjectFault k (UnknownBtfType id) = (k.section ≡ id) × (record_of_id k.types id ≡ None)
SubjectFault k (UnexpectedBtfType id) =
    (k.section ≡ id)
    × IsSomeAnd (record_of_id k.types id) (λ t. is_section (kind_of_type t) ≡ false)
SubjectFault k _ = ⊥

-- The size of the table overflows 32 bits.
abbrev pub IsOverfull : Endianness → Ksyms → BtfError → Type 0
IsOverfull order k InvalidTypeInfo =
    TooMany (length (k.strings ++ stepped_texts k)) ⊎ AreTooMany order (stepped_types k)
IsOverfull order k _ = ⊥

-- The faults of the step.
abbrev pub KsymsFault : Endianness → Ksyms → BtfError → Type 0
KsymsFault order k e =
    SubjectFault k e
    ⊎ Any (λ entry. EntryFault k entry e) (section_entries k)
    ⊎ IsOverfull order k e

-- The record of each id is the rewritten one, and the same record if it stays as it is.
pub record StepKeeps (k : Ksyms) (types : List BtfType) : Type 0 where
  pub each : (id : ℕ) (t : BtfType)
      → record_of_id k.types id ≡ Some t
      → record_of_id types id ≡ Some (stepped k id t)
  pub left : (id : ℕ) (t : BtfType)
      → record_of_id k.types id ≡ Some t
      → leaves k id t ≡ true
      → record_of_id types id ≡ Some t
