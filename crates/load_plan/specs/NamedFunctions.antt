-- The functions that function records name by their types.
use Rattle.std.specs.Prelude.{◌≡◌, ℕ, List, Bool, true, false, ◌==◌, ◌&&◌, not, Option, is_some, bytes_eq}
use Rattle.std.specs.List.{list_any}
use Rattle.std.specs.Option.{option_map_or}
use Rattle.btf_records.specs.declared.types.BtfType.{BtfType}
use Rattle.btf_records.specs.declared.types.BtfType.TheVariants as types
use Rattle.btf_tables.specs.Tables.{Table, type_by_id}
use Rattle.object_parts.specs.Content.{FunctionContent}
use Rattle.string_table.specs.Texts.{text_at}

-- Whether a type is a function whose name can be read.
abbrev pub is_named_function : List ℕ → BtfType → Bool
is_named_function strings (types.Func t) = is_some (text_at strings t.name_offset)
is_named_function strings _ = false

-- Whether the type with an id in a table is such a function.
abbrev pub names_function_in : ℕ → Table → Bool
names_function_in id table =
    option_map_or (is_named_function table.strings) (type_by_id table id) false

-- Whether the type with an id is such a function. Without a table none is.
abbrev pub names_function : Option Table → ℕ → Bool
names_function table id = option_map_or (names_function_in id) table false

-- Whether a function keeps a function record whose type isn't such a function.
abbrev pub keeps_nameless : Option Table → FunctionContent → Bool
keeps_nameless table f = list_any (λ r. not (names_function table r.type_id)) f.func_info

-- Whether each function record that is kept names a function.
abbrev pub all_named : Option Table → List ((ℕ × ℕ) × FunctionContent) → Bool
all_named table functions = not (list_any (λ e. keeps_nameless table e.1) functions)

-- Whether a function has this name and keeps a record of this type.
unfoldable pub keeps_type : List ℕ → ℕ → FunctionContent → Bool
keeps_type name id f = bytes_eq f.name name && list_any (λ r. r.type_id == id) f.func_info

-- A function of this name keeps a record of this type, and the type isn't a function with a name.
pub record IsNameless (table : Option Table) (functions : List ((ℕ × ℕ) × FunctionContent))
    (name : List ℕ) (id : ℕ) : Type 0 where
  pub kept : list_any (λ e. keeps_type name id e.1) functions ≡ true
  pub nameless : names_function table id ≡ false
