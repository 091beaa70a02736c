-- The sections of variables that a type table names ("BTF_KIND_DATASEC").
use Rattle.std.specs.Prelude.{ℕ, List, [], ◌∷◌, bytes_eq, Bool, true, false, ◌&&◌, is_none, if◌then◌else◌}
use Rattle.std.specs.Option.{option_map_or}
use Rattle.btf_records.specs.Fields.{name_offset_of}
use Rattle.btf_records.specs.declared.error.BtfError.TheVariants.{InvalidStringOffset}
use Rattle.btf_records.specs.declared.types.BtfType.{BtfType}
use Rattle.btf_records.specs.declared.types.BtfType.TheVariants as types
use Rattle.btf_tables.specs.Tables.{Table}
use Rattle.string_table.specs.Texts.{text_at}
use Rattle.object_maps.specs.Faults.{MapFault, NoType}

abbrev pub is_data_section : BtfType → Bool
is_data_section (types.DataSec t) = true
is_data_section _ = false

abbrev pub is_section_named : Table → List ℕ → BtfType → Bool
is_section_named table name t =
    is_data_section t
    && option_map_or (λ text. bytes_eq text name) (text_at table.strings (name_offset_of t)) false

-- The fault of a section whose name can't be read.
abbrev pub unreadable_at : ℕ → MapFault
unreadable_at offset = NoType (InvalidStringOffset offset)

abbrev pub section_name_faults : Table → BtfType → List MapFault
section_name_faults table t =
    if is_data_section t && is_none (text_at table.strings (name_offset_of t))
    then unreadable_at (name_offset_of t) ∷ []
    else []
