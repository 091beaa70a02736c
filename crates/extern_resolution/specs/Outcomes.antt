-- The outcome of an extern (libbpf's `bpf_object__resolve_externs` in tools/lib/bpf/libbpf.c).
use Rattle.std.specs.Prelude.{◌≡◌, ℕ, Bool, true, false, ◌&&◌, ◌⊎◌, not, if◌then◌else◌, List, Option, None, Some, Result, Ok, is_none}
use Rattle.std.specs.List.{list_any}
use Rattle.std.specs.Option.{IsSomeAnd, MatchOption, option_map_or}
use Rattle.std.specs.Str.{bytes_eq}
use Rattle.btf_compatibility.specs.TypeCompatibility.{types_compatible}
use Rattle.btf_records.specs.Fields.{kind_of_type}
use Rattle.btf_records.specs.declared.error.BtfError.{BtfError}
use Rattle.btf_records.specs.declared.kind.BtfKind.{BtfKind}
use Rattle.btf_records.specs.declared.kind.BtfKind.TheVariants as kinds
use Rattle.btf_tables.specs.EssentialNames.{essential_name}
use Rattle.btf_tables.specs.Tables.{Table, type_by_id}
use Rattle.btf_tables.specs.TypesByName.{IsFirstNamed}
use Rattle.kernel_symbols.specs.Texts.{address_of}
use Rattle.object_externs.specs.Externs.{ExternContent, held_type}

-- The name of the kernel's record: without its flavour for a function, and whole for a variable.
abbrev pub kernel_name : BtfKind → List ℕ → List ℕ
kernel_name kinds.Func name = essential_name name
kernel_name _ name = name

-- The type that the record with an id refers to.
abbrev pub type_held_at : Table → ℕ → ℕ
type_held_at kernel id = option_map_or held_type (type_by_id kernel id) 0

-- The kernel's first record of a kind and a name, and the result of comparing its type with the
-- local type.
pub record IsKernelRecord (table kernel : Table) (type_id : ℕ) (kind : BtfKind) (name : List ℕ)
    (answer : Result Bool BtfError) (id : ℕ) : Type 0 where
  pub found : IsFirstNamed kernel name kind id
  pub compared : types_compatible table type_id kernel (type_held_at kernel id) ≡ answer

-- The kernel has no record of a kind and a name. An earlier record of the kind whose name can't be
-- read hides a record.
pub record IsMissing (kernel : Table) (kind : BtfKind) (name : List ℕ) : Type 0 where
  pub none : (id : ℕ) → IsFirstNamed kernel name kind id → ⊥

-- The kernel has a record of a kind and a name, and its type isn't compatible.
pub record IsIncompatible (table kernel : Table) (type_id : ℕ) (kind : BtfKind) (name : List ℕ)
    : Type 0 where
  pub id : ℕ
  pub record_of : IsKernelRecord table kernel type_id kind name (Ok false) id

-- The result of the search for a local type: the id of a compatible record, or none.
abbrev pub IsFound : Table → Table → ℕ → BtfKind → List ℕ → Option ℕ → Type 0
IsFound table kernel type_id kind name (Some id) =
    IsKernelRecord table kernel type_id kind name (Ok true) id
IsFound table kernel type_id kind name None =
    IsMissing kernel kind name ⊎ IsIncompatible table kernel type_id kind name

-- The record that declares an extern has this kind.
abbrev pub IsDeclaredAs : Table → ExternContent → BtfKind → Type 0
IsDeclaredAs table e kind = IsSomeAnd (type_by_id table e.btf_id) (λ t. kind_of_type t ≡ kind)

-- The result of the search for an extern with a type. Without kernel types it is none.
pub record IsFoundFor (table kernel : Table) (name : List ℕ) (e : ExternContent) (type_id : ℕ)
    (found : Option ℕ) : Type 0 where
  pub kind : BtfKind
  pub declared_as : IsDeclaredAs table e kind
  pub is_found : IsFound table kernel type_id kind (kernel_name kind name) found

abbrev pub IsFoundIn : Table → Option Table → List ℕ → ExternContent → ℕ → Option ℕ → Type 0
IsFoundIn table None name e type_id found = found ≡ None
IsFoundIn table (Some kernel) name e type_id found = IsFoundFor table kernel name e type_id found

-- The extern, resolved by its type.
abbrev pub with_kernel_id : Option ℕ → ExternContent → ExternContent
with_kernel_id None e = e
with_kernel_id (Some id) e = record e { is_resolved = true; kernel_btf_id = Some id }

-- The extern, resolved by its name.
abbrev pub with_address : Option ℕ → ExternContent → ExternContent
with_address None e = e
with_address (Some address) e = record e { is_resolved = true; ksym_addr = Some address }

-- A weak extern that isn't resolved has address 0.
abbrev pub left_weak : ExternContent → ExternContent
left_weak e = if e.is_weak && not e.is_resolved then record e { ksym_addr = Some 0 } else e

-- Whether an extern is searched among the kernel's symbols: it has no type and isn't resolved.
abbrev pub is_sought : ExternContent → Bool
is_sought e = is_none e.type_id && not e.is_resolved

abbrev pub sought_address : List ℕ → List ℕ → ExternContent → Option ℕ
sought_address text name e = if is_sought e then address_of name text else None

-- The outcome of the extern of a name, by the object's table, the kernel's table and the text of
-- symbols.
abbrev pub Becomes : Table → Option Table → List ℕ → List ℕ → ExternContent → ExternContent → Type 0
Becomes table kernel text name old new = MatchOption old.type_id
    (new ≡ left_weak (with_address (sought_address text name old) old))
    (λ type_id.
    (found : Option ℕ)
    × IsFoundIn table kernel name old type_id found
    × (new ≡ left_weak (with_kernel_id found old)))

-- The outcome of an extern with its name, which is unchanged.
abbrev pub EntryBecomes : Table
    → Option Table
    → List ℕ
    → (List ℕ × ExternContent)
    → (List ℕ × ExternContent)
    → Type 0
EntryBecomes table kernel text old new =
    (new.0 ≡ old.0) × Becomes table kernel text old.0 old.1 new.1

-- Whether some extern is searched among the kernel's symbols, and whether the extern of a name is.
abbrev pub is_any_sought : List (List ℕ × ExternContent) → Bool
is_any_sought externs = list_any (λ e. is_sought e.1) externs

abbrev pub is_name_sought : List (List ℕ × ExternContent) → List ℕ → Bool
is_name_sought externs name = list_any (λ e. is_sought e.1 && bytes_eq e.0 name) externs
