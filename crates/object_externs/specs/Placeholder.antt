-- The placeholder: a variable that replaces each function in `.ksyms`, because the entries of a
-- kernel's sections are variables. libbpf also appends it in bpf_object__collect_externs, under
-- another name.
use Rattle.std.specs.Prelude.{ℕ, ◌+◌, false, if◌then◌else◌, List, codes, length, is_none, unwrap_or}
use Rattle.btf_records.specs.Info.{flagged}
use Rattle.btf_records.specs.declared.encoding.VarLinkage.TheVariants.{Global}
use Rattle.btf_records.specs.declared.types.BtfType.{BtfType}
use Rattle.btf_records.specs.declared.types.BtfType.TheVariants as types
use Rattle.btf_storage.specs.Ints.{int4_from, int_name, signed_int}
use Rattle.btf_tables.specs.GrownTables.{with_string, with_type}
use Rattle.btf_tables.specs.Tables.{Table}

-- The id of the placeholder's type: the first integer of 4 bytes, or a signed integer that is
-- appended if there is none.
abbrev pub int_id : Table → ℕ
int_id table = unwrap_or (int4_from 1 table.types) (length table.types + 1)

abbrev pub with_int : Table → Table
with_int table =
    if is_none (int4_from 1 table.types)
    then with_type (with_string table int_name) (signed_int (length table.strings))
    else table

abbrev pub placeholder_name : List ℕ
placeholder_name = codes "ksym_func_placeholder"

abbrev pub placeholder : ℕ → ℕ → BtfType
placeholder name_offset int =
    types.Var
    (record {
      name_offset = name_offset;
      vlen = 0;
      info = flagged false;
      btf_type = int;
      linkage = Global;
    })

-- The table with a variable of this integer type.
abbrev pub with_variable : ℕ → Table → Table
with_variable int table =
    with_type (with_string table placeholder_name) (placeholder (length table.strings) int)

abbrev pub with_placeholder : Table → Table
with_placeholder table = with_variable (int_id table) (with_int table)

abbrev pub placeholder_id : Table → ℕ
placeholder_id table = length (with_int table).types + 1
