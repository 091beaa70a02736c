-- The faults of an object's externs.
use Rattle.std.specs.Prelude.{◌≡◌, ℕ, ◌⊎◌, Any, true, false, List, length, None, Err}
use Rattle.std.specs.Option.{IsSomeAnd}
use Rattle.btf_storage.specs.Growth.{TooMany}
use Rattle.btf_records.specs.Fields.{kind_of_type, name_offset_of}
use Rattle.btf_records.specs.declared.error.BtfError.{BtfError}
use Rattle.btf_records.specs.declared.error.BtfError.TheVariants.{InvalidDatasec, InvalidStringOffset, InvalidSymbolName, InvalidTypeInfo, UnknownBtfType}
use Rattle.btf_records.specs.declared.item.DataSecEntry.{DataSecEntry}
use Rattle.btf_records.specs.declared.types.BtfType.{BtfType}
use Rattle.btf_tables.specs.ResolvedTypes.{resolved_type}
use Rattle.btf_tables.specs.Tables.{Table, type_by_id, type_bytes}
use Rattle.elf64.specs.Symbols.{Symbol}
use Rattle.object_externs.specs.Externs.{declared_name, declares, has_function, held_type}
use Rattle.object_externs.specs.Placeholder.{with_placeholder}
use Rattle.object_externs.specs.Section.{has_unreadable, ksyms_entries}
use Rattle.object_file.specs.Symbols.{first_named}
use Rattle.string_table.specs.Texts.{text_at}

-- The name of a section before the first `.ksyms` can't be read.
abbrev pub SectionFault : Table → BtfError → Type 0
SectionFault table (InvalidStringOffset offset) =
    has_unreadable table.strings offset table.types ≡ true
SectionFault table _ = ⊥

-- The record declares no extern: it is neither a function nor a variable.
abbrev pub KindFault : BtfType → BtfError → Type 0
KindFault t InvalidDatasec = declares (kind_of_type t) ≡ false
KindFault t _ = ⊥

-- The declared name can't be read, or no symbol has it.
abbrev pub NameFault : List Symbol → Table → BtfType → BtfError → Type 0
NameFault symbols table t (InvalidStringOffset offset) =
    (name_offset_of t ≡ offset) × (text_at table.strings offset ≡ None)
NameFault symbols table t InvalidSymbolName =
    IsSomeAnd (declared_name table t) (λ name. first_named symbols name ≡ None)
NameFault symbols table t _ = ⊥

-- The declared type can't be resolved.
abbrev pub TypeFault : Table → BtfType → BtfError → Type 0
TypeFault table t e = resolved_type table (held_type t) ≡ Err e

-- A fault of a record. Only a record that declares an extern can have a fault of its name or type.
abbrev pub RecordFault : List Symbol → Table → BtfType → BtfError → Type 0
RecordFault symbols table t e =
    KindFault t e
    ⊎ ((declares (kind_of_type t) ≡ true) × (NameFault symbols table t e ⊎ TypeFault table t e))

-- No type has the id of an entry.
abbrev pub IdFault : Table → ℕ → BtfError → Type 0
IdFault table id (UnknownBtfType unknown) = (id ≡ unknown) × (type_by_id table id ≡ None)
IdFault table id _ = ⊥

abbrev pub EntryFault : List Symbol → Table → DataSecEntry → BtfError → Type 0
EntryFault symbols table entry e =
    IdFault table entry.btf_type e
    ⊎ IsSomeAnd (type_by_id table entry.btf_type) (λ t. RecordFault symbols table t e)

-- The table, with the placeholder, overflows 32 bits.
abbrev pub IsOverfull : Table → Type 0
IsOverfull table =
    TooMany (length table.strings)
    ⊎ TooMany (length (type_bytes table))
    ⊎ TooMany (length table.types)

abbrev pub GrowthFault : Table → BtfError → Type 0
GrowthFault table e =
    (e ≡ InvalidTypeInfo) × (has_function table ≡ true) × IsOverfull (with_placeholder table)

-- A fault for which the externs of an object are refused.
abbrev pub ExternsFault : List Symbol → Table → BtfError → Type 0
ExternsFault symbols table e =
    SectionFault table e
    ⊎ Any (λ entry. EntryFault symbols table entry e) (ksyms_entries table)
    ⊎ GrowthFault table e
