-- The faults for which externs can't be resolved.
use Rattle.std.specs.Prelude.{◌≡◌, ℕ, Any, Bool, true, false, ◌⊎◌, List, Option, None, Some, Err}
use Rattle.std.specs.Option.{IsSomeAnd, MatchOption}
use Rattle.std.specs.String.{string_bytes}
use Rattle.btf_records.specs.Fields.{kind_of_type}
use Rattle.btf_records.specs.declared.error.BtfError.TheVariants as btf_error
use Rattle.btf_records.specs.declared.kind.BtfKind.{BtfKind}
use Rattle.btf_records.specs.declared.kind.BtfKind.TheVariants as kinds
use Rattle.btf_tables.specs.Tables.{Table, type_by_id}
use Rattle.extern_resolution.specs.Outcomes.{IsIncompatible, IsKernelRecord, IsMissing, is_any_sought, is_name_sought, is_sought, kernel_name}
use Rattle.extern_resolution.specs.declared.error.KsymsError.{KsymsError}
use Rattle.extern_resolution.specs.declared.error.KsymsError.TheVariants as error
use Rattle.kernel_symbols.specs.Texts.{AreTwo, address_of, has_unreadable, is_foreign, lines_of, said}
use Rattle.object_externs.specs.Externs.{ExternContent, declares}
use Rattle.std.specs.List.{list_any}

-- An extern of this kind is strong, and the kernel has no record of its kind and kernel name.
abbrev pub NotFound : Table → BtfKind → BtfKind → List ℕ → ExternContent → List ℕ → Type 0
NotFound kernel wanted kind name e said_name =
    (kind ≡ wanted)
    × (e.is_weak ≡ false)
    × (said_name ≡ kernel_name kind name)
    × IsMissing kernel kind said_name

-- An extern of this kind is strong, and the type of the kernel's record isn't compatible with its
-- type.
abbrev pub NotCompatible : Table
    → Table
    → ℕ
    → BtfKind
    → BtfKind
    → List ℕ
    → ExternContent
    → List ℕ
    → Type 0
NotCompatible table kernel type_id wanted kind name e said_name =
    (kind ≡ wanted)
    × (e.is_weak ≡ false)
    × (said_name ≡ kernel_name kind name)
    × IsIncompatible table kernel type_id kind said_name

-- A fault of an extern with a type that a record of this kind declares.
abbrev pub KindFault : Table → Table → ℕ → BtfKind → List ℕ → ExternContent → KsymsError → Type 0
KindFault table kernel type_id kind name e (error.FunctionNotFound said_name) =
    NotFound kernel kinds.Func kind name e (string_bytes said_name)
KindFault table kernel type_id kind name e (error.VariableNotFound said_name) =
    NotFound kernel kinds.Var kind name e (string_bytes said_name)
KindFault table kernel type_id kind name e (error.IncompatibleFunctionSignature said_name) =
    NotCompatible table kernel type_id kinds.Func kind name e (string_bytes said_name)
KindFault table kernel type_id kind name e (error.IncompatibleVariableType said_name) =
    NotCompatible table kernel type_id kinds.Var kind name e (string_bytes said_name)
KindFault table kernel type_id kind name e (error.InvalidExternType said_name) =
    (declares kind ≡ false) × (string_bytes said_name ≡ name)
KindFault table kernel type_id kind name e (error.BtfError f) =
    (declares kind ≡ true)
    × ((id : ℕ) × IsKernelRecord table kernel type_id kind (kernel_name kind name) (Err f) id)
KindFault table kernel type_id kind name e _ = ⊥

-- The record that declares an extern is missing.
abbrev pub IdFault : Table → ExternContent → KsymsError → Type 0
IdFault table e (error.BtfError (btf_error.UnknownBtfType id)) =
    (id ≡ e.btf_id) × (type_by_id table e.btf_id ≡ None)
IdFault table e _ = ⊥

abbrev pub RecordFault : Table → Table → ℕ → List ℕ → ExternContent → KsymsError → Type 0
RecordFault table kernel type_id name e f =
    IdFault table e f
    ⊎ IsSomeAnd (type_by_id table e.btf_id) (λ t.
    KindFault table kernel type_id (kind_of_type t) name e f)

-- An extern with a type is strong, and no kernel types are given.
abbrev pub NoTypesFault : ExternContent → KsymsError → Type 0
NoTypesFault e error.TypedKsymRequiresKernelBtf = e.is_weak ≡ false
NoTypesFault e _ = ⊥

-- A fault of an extern with a type.
abbrev pub TypedFault : Table → Option Table → ℕ → List ℕ → ExternContent → KsymsError → Type 0
TypedFault table None type_id name e f = NoTypesFault e f
TypedFault table (Some kernel) type_id name e f = RecordFault table kernel type_id name e f

-- An extern without a type is strong, and the kernel's symbols have no address of its name.
abbrev pub AddressFault : List ℕ → List ℕ → ExternContent → KsymsError → Type 0
AddressFault text name e (error.VariableNotFound said_name) =
    (string_bytes said_name ≡ name)
    × (is_sought e ≡ true)
    × (e.is_weak ≡ false)
    × (address_of name text ≡ None)
AddressFault text name e _ = ⊥

-- A fault of a named extern that is resolved by its type.
abbrev pub EntryTypedFault : Table → Option Table → KsymsError → (List ℕ × ExternContent) → Type 0
EntryTypedFault table kernel f entry =
    MatchOption entry.1.type_id ⊥ (λ type_id. TypedFault table kernel type_id entry.0 entry.1 f)

-- A fault of a named extern that is resolved by its name.
abbrev pub EntryAddressFault : List ℕ → KsymsError → (List ℕ × ExternContent) → Type 0
EntryAddressFault text f entry = AddressFault text entry.0 entry.1 f

-- A fault of the text of symbols, if some extern is searched in it: the text can't be read, the
-- address of a searched name can't be read, or a searched name has two addresses.
abbrev pub SymbolsFault : Bool → List ℕ → List (List ℕ × ExternContent) → KsymsError → Type 0
SymbolsFault failed text externs (error.KallsymsAccessError e) =
    (is_any_sought externs ≡ true)
    × ((failed ≡ true) ⊎ (list_any is_foreign (lines_of text) ≡ true))
SymbolsFault failed text externs (error.KallsymsParseError name) =
    (is_name_sought externs (string_bytes name) ≡ true)
    × (has_unreadable (said (string_bytes name) (lines_of text)) ≡ true)
SymbolsFault failed text externs (error.AmbiguousResolution name first second) =
    (is_name_sought externs (string_bytes name) ≡ true)
    × AreTwo (said (string_bytes name) (lines_of text)) first second
SymbolsFault failed text externs _ = ⊥

-- A fault of the resolution of externs.
abbrev pub ResolutionFault : Table
    → Option Table
    → Bool
    → List ℕ
    → List (List ℕ × ExternContent)
    → KsymsError
    → Type 0
ResolutionFault table kernel failed text externs f =
    Any (EntryTypedFault table kernel f) externs
    ⊎ SymbolsFault failed text externs f
    ⊎ Any (EntryAddressFault text f) externs
