-- The reasons why a record can't be rewritten.
use Rattle.std.specs.Prelude.{◌≡◌, ℕ, ◌+◌, ◌*◌, ◌⊎◌, Any, true, false, if◌then◌else◌, length, List, Option, None, Some, option_and_then}
use Rattle.std.specs.Option.{IsSomeAnd}
use Rattle.std.specs.String.{string_bytes}
use Rattle.btf_records.specs.Fields.{var_of}
use Rattle.string_table.specs.Texts.{text_at}
use Rattle.btf_records.specs.declared.error.BtfError.{BtfError}
use Rattle.btf_records.specs.declared.error.BtfError.TheVariants.{InvalidDatasec, InvalidStringOffset, InvalidTypeInfo, SymbolOffsetNotFound, UnknownBtfType, UnknownSectionSize}
use Rattle.btf_records.specs.declared.feature.BtfFeature.TheVariants as feature
use Rattle.btf_records.specs.declared.item.DataSecEntry.{DataSecEntry}
use Rattle.btf_records.specs.declared.types.BtfType.{BtfType}
use Rattle.btf_records.specs.declared.types.BtfType.TheVariants as types
use Rattle.btf_records.specs.declared.variables.DataSec.{DataSec}
use Rattle.btf_storage.specs.Growth.{TooMany}
use Rattle.btf_sanitize.specs.Additions.{Added, next_offset}
use Rattle.btf_sanitize.specs.Facts.{Facts, type_at}
use Rattle.btf_sanitize.specs.Rewritten.{is_static}

-- The name of the symbol of a variable that isn't static.
abbrev pub symbol_name : BtfType → Option ℕ
symbol_name t =
    option_and_then (λ v. if is_static v.linkage then None else Some v.name_offset) (var_of t)

-- A fault of an entry of a section that gets its size from the object: the entry names no variable,
-- or the symbol of the variable is missing or its offset is too great.
abbrev pub PlaceFault : Facts → DataSecEntry → BtfError → Type 0
PlaceFault known e (UnknownBtfType id) = (e.btf_type ≡ id) × (type_at known id ≡ None)
PlaceFault known e (InvalidStringOffset offset) =
    IsSomeAnd (type_at known e.btf_type) (λ t.
    (symbol_name t ≡ Some offset) × (text_at known.strings offset ≡ None))
PlaceFault known e (SymbolOffsetNotFound name) =
    IsSomeAnd (type_at known e.btf_type) (λ t. IsSomeAnd (symbol_name t) (λ offset.
    (text_at known.strings offset ≡ Some (string_bytes name))
    × (known.offsets (string_bytes name) ≡ None)))
PlaceFault known e InvalidDatasec =
    IsSomeAnd (type_at known e.btf_type) (λ t.
    (var_of t ≡ None)
    ⊎ IsSomeAnd (symbol_name t) (λ offset.
    IsSomeAnd (text_at known.strings offset) (λ name. IsSomeAnd (known.offsets name) TooMany)))
PlaceFault known e _ = ⊥

-- A fault of a section that gets its size from the object: the size is missing or too great.
abbrev pub SizeFault : Facts → List ℕ → BtfError → Type 0
SizeFault known name (UnknownSectionSize section) =
    (string_bytes section ≡ name) × (known.sizes name ≡ None)
SizeFault known name InvalidDatasec = IsSomeAnd (known.sizes name) TooMany
SizeFault known name _ = ⊥

abbrev pub UnsizedFault : Facts → DataSec → BtfError → Type 0
UnsizedFault known t e =
    IsSomeAnd (text_at known.strings t.name_offset) (λ name. SizeFault known name e)
    ⊎ Any (λ entry. PlaceFault known entry e) t.entries

-- A fault of a member of the struct that replaces a section: the entry names no type, or its offset
-- is too great.
abbrev pub MemberFault : Facts → DataSecEntry → BtfError → Type 0
MemberFault known e (UnknownBtfType id) = (e.btf_type ≡ id) × (type_at known id ≡ None)
MemberFault known e InvalidDatasec = TooMany (8 * e.offset)
MemberFault known e _ = ⊥

-- A name that must be read can't be read.
abbrev pub NameFault : Facts → ℕ → BtfError → Type 0
NameFault known name_offset (InvalidStringOffset offset) =
    (name_offset ≡ offset) × (text_at known.strings offset ≡ None)
NameFault known name_offset _ = ⊥

abbrev pub SectionFault : Facts → DataSec → BtfError → Type 0
SectionFault known t e = NameFault known t.name_offset e
    ⊎ ((known.grants feature.DataSec ≡ false) × Any (λ entry. MemberFault known entry e) t.entries)
    ⊎ ((known.grants feature.DataSec ≡ true) × (t.size ≡ 0) × UnsizedFault known t e)

-- The strings or the types, with the additions, overflow 32 bits.
abbrev pub IsTooMuch : Added → BtfError → Type 0
IsTooMuch a InvalidTypeInfo = TooMany (next_offset a) ⊎ TooMany (a.type_count + length a.types)
IsTooMuch a _ = ⊥

abbrev pub KindFault : Facts → BtfType → BtfError → Type 0
KindFault known (types.DataSec t) e = SectionFault known t e
KindFault known (types.Func t) e =
    (known.grants feature.Func ≡ true) × (t.vlen ≡ 1) × NameFault known t.name_offset e
KindFault known _ e = ⊥
