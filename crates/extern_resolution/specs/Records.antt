-- The result of the search for the kernel's record of a kind and a name.
use Rattle.std.specs.Prelude.{ℕ, Bool, true, false, nat_eq, is_some, List, Option, Ok}
use Rattle.std.specs.Cmp.Lexicographic.{pointwise}
use Rattle.std.specs.Option.{MatchOption, option_map_or}
use Rattle.btf_records.specs.Fields.{name_offset_of}
use Rattle.btf_records.specs.declared.kind.BtfKind.{BtfKind}
use Rattle.btf_records.specs.declared.types.BtfType.{BtfType}
use Rattle.btf_tables.specs.Tables.{Table, type_by_id}
use Rattle.btf_tables.specs.TypesByName.{IsFirstNamed}
use Rattle.string_table.specs.Texts.{text_at}
use Rattle.extern_resolution.specs.Outcomes.{IsIncompatible, IsKernelRecord, IsMissing}
use Rattle.extern_resolution.specs.declared.kernel_records.KernelRecord.{KernelRecord}
use Rattle.extern_resolution.specs.declared.kernel_records.KernelRecord.TheVariants as records

abbrev pub IsRecord : Table → Table → ℕ → BtfKind → List ℕ → KernelRecord → Type 0
IsRecord table kernel type_id kind name (records.Compatible id) =
    IsKernelRecord table kernel type_id kind name (Ok true) id
IsRecord table kernel type_id kind name records.Incompatible =
    IsIncompatible table kernel type_id kind name
IsRecord table kernel type_id kind name records.Missing = IsMissing kernel kind name

-- The id of the kernel's first record of a kind and a name, if there is one.
abbrev pub IsFirst : Table → BtfKind → List ℕ → Option ℕ → Type 0
IsFirst kernel kind name id =
    MatchOption id (IsMissing kernel kind name) (IsFirstNamed kernel name kind)

-- Whether the name of a type is `name` or can't be read.
abbrev pub may_be : Table → List ℕ → BtfType → Bool
may_be kernel name t =
    option_map_or (λ text. pointwise nat_eq text name)
    (text_at kernel.strings (name_offset_of t)) true

abbrev pub may_be_first : Table → List ℕ → ℕ → Bool
may_be_first kernel name id = option_map_or (may_be kernel name) (type_by_id kernel id) false

-- Whether the name of the type with an id can be read.
abbrev pub is_readable : Table → ℕ → Bool
is_readable kernel id =
    option_map_or (λ t. is_some (text_at kernel.strings (name_offset_of t))) (type_by_id kernel id)
    false
