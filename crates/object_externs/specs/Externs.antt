-- The externs of an object: the functions and variables of the kernel that its programs use, as the
-- first section `.ksyms` of its table of types lists them. libbpf reads them in
-- bpf_object__collect_externs (tools/lib/bpf/libbpf.c).
use Rattle.std.specs.Prelude.{ℕ, ◌==◌, Bool, true, false, if◌then◌else◌, List, [], fold, length, Option, None, Some, option_and_then, unwrap_or}
use Rattle.std.specs.BTreeMap.{insert_entry}
use Rattle.std.specs.Cmp.Lexicographic.{slice_cmp}
use Rattle.std.specs.List.{list_any}
use Rattle.std.specs.Option.{option_map, option_map_or}
use Rattle.std.specs.Ordering.{nat_cmp}
use Rattle.std.specs.Result.{result_ok}
use Rattle.btf_records.specs.Fields.{kind_of_type, name_offset_of, type_of}
use Rattle.btf_records.specs.declared.item.DataSecEntry.{DataSecEntry}
use Rattle.btf_records.specs.declared.kind.BtfKind.{BtfKind}
use Rattle.btf_records.specs.declared.kind.BtfKind.TheVariants as kinds
use Rattle.btf_records.specs.declared.types.BtfType.{BtfType}
use Rattle.btf_tables.specs.EssentialNames.{essential_name}
use Rattle.btf_tables.specs.ResolvedTypes.{resolved_type}
use Rattle.btf_tables.specs.Tables.{Table, type_by_id}
use Rattle.elf64.specs.Symbols.{Symbol}
use Rattle.object_externs.specs.Placeholder.{placeholder_id}
use Rattle.object_externs.specs.Section.{ksyms_entries, ksyms_section}
use Rattle.object_file.specs.Symbols.{first_named}
use Rattle.string_table.specs.Texts.{text_at}

-- An extern: its name with and without flavour, the id of the function or variable that declares
-- it, whether it may be missing, the type that the kernel's must be compatible with, and the
-- results of its search in the kernel.
pub record ExternContent : Type 0 where
  pub name : List ℕ
  pub btf_id : ℕ
  pub is_weak : Bool
  pub is_resolved : Bool
  pub kernel_btf_id : Option ℕ
  pub ksym_addr : Option ℕ
  pub type_id : Option ℕ
  pub essential_name : List ℕ

-- The externs by name, and the ids that the rewriting of the section takes: the id of the section
-- and the id of the placeholder.
pub record ExternsContent : Type 0 where
  pub by_name : List (List ℕ × ExternContent)
  pub ksyms : Option (ℕ × Option ℕ)

-- Whether a kind of record declares an extern: a function or a variable.
abbrev pub declares : BtfKind → Bool
declares kinds.Func = true
declares kinds.Var = true
declares _ = false

abbrev pub is_function : BtfKind → Bool
is_function kinds.Func = true
is_function _ = false

abbrev pub names_function : Table → DataSecEntry → Bool
names_function table entry =
    option_map_or (λ t. is_function (kind_of_type t)) (type_by_id table entry.btf_type) false

abbrev pub has_function : Table → Bool
has_function table = list_any (names_function table) (ksyms_entries table)

abbrev pub declared_name : Table → BtfType → Option (List ℕ)
declared_name table t = text_at table.strings (name_offset_of t)

-- The type of an extern after modifiers. A variable of void has none.
abbrev pub typed : BtfKind → ℕ → Option ℕ
typed kinds.Var id = if id == 0 then None else Some id
typed _ id = Some id

abbrev pub held_type : BtfType → ℕ
held_type t = unwrap_or (type_of t) 0

abbrev pub declared_type : Table → BtfType → Option ℕ
declared_type table t =
    option_and_then (typed (kind_of_type t)) (result_ok (resolved_type table (held_type t)))

abbrev pub is_weak : List Symbol → List ℕ → Bool
is_weak symbols name = option_map_or (λ s. s.is_weak) (first_named symbols name) false

-- The extern that a record with this name declares, before its search in the kernel.
abbrev pub declared : List Symbol → Table → ℕ → BtfType → List ℕ → ExternContent
declared symbols table id t name = record {
  name = name;
  btf_id = id;
  is_weak = is_weak symbols name;
  is_resolved = false;
  kernel_btf_id = None;
  ksym_addr = None;
  type_id = declared_type table t;
  essential_name = essential_name name;
}

-- The externs with the one that a record declares. It replaces an earlier extern of its name.
abbrev pub with_declared : List Symbol
    → Table
    → ℕ
    → List (List ℕ × ExternContent)
    → BtfType
    → List (List ℕ × ExternContent)
with_declared symbols table id externs t =
    option_map_or (λ name.
    insert_entry (slice_cmp nat_cmp) externs name (declared symbols table id t name))
    (declared_name table t) externs

abbrev pub with_extern : List Symbol
    → Table
    → List (List ℕ × ExternContent)
    → DataSecEntry
    → List (List ℕ × ExternContent)
with_extern symbols table externs entry =
    option_map_or (with_declared symbols table entry.btf_type externs)
    (type_by_id table entry.btf_type) externs

-- The ids that the rewriting of the section takes, if the section has an entry.
abbrev pub ksyms_ids : Table → Option (ℕ × Option ℕ)
ksyms_ids table =
    if length (ksyms_entries table) == 0
    then None
    else option_map (λ id. (id, if has_function table then Some (placeholder_id table) else None))
    (ksyms_section table)

-- The externs of a parsed object with these symbols and this table.
abbrev pub externs_of : List Symbol → Table → ExternsContent
externs_of symbols table = record {
  by_name = fold (with_extern symbols table) [] (ksyms_entries table);
  ksyms = ksyms_ids table;
}
