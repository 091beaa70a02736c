-- Members of the kernel's structs.
use Rattle.std.specs.Prelude.{ℕ, Bool, false, List, Option, bytes_eq, find, is_some, option_and_then}
use Rattle.std.specs.Option.{option_map_or}
use Rattle.btf_records.specs.Fields.{members_of}
use Rattle.btf_records.specs.declared.item.BtfMember.{BtfMember}
use Rattle.btf_records.specs.declared.kind.BtfKind.TheVariants as kinds
use Rattle.btf_records.specs.declared.types.BtfType.{BtfType}
use Rattle.btf_tables.specs.Tables.{Table, type_by_id}
use Rattle.report_needs.specs.Records.{first_named}
use Rattle.string_table.specs.Texts.{text_at}

-- Whether a member has the name. A name that can't be read is not the name.
abbrev pub is_member : Table → List ℕ → BtfMember → Bool
is_member kernel name m =
    option_map_or (λ text. bytes_eq text name) (text_at kernel.strings m.name_offset) false

-- The first member of a record that has the name.
abbrev pub member_named : Table → List ℕ → BtfType → Option BtfMember
member_named kernel name t = find (is_member kernel name) (members_of t)

-- Whether the kernel's first struct of a name has a member of a name.
abbrev pub has_member : Table → List ℕ → List ℕ → Bool
has_member kernel struct_name name =
    is_some (option_and_then (member_named kernel name)
    (option_and_then (type_by_id kernel) (first_named kernel kinds.Struct struct_name)))
