-- The section `.ksyms` of a table of types ("BTF_KIND_DATASEC"), in which a compiler lists the
-- functions and variables of the kernel that a program uses.
use Rattle.std.specs.Prelude.{ℕ, ◌+◌, ◌==◌, ◌&&◌, Bool, true, false, if◌then◌else◌, List, [], ◌∷◌, codes, nat_eq, not, take_while, Option, None, Some, is_none}
use Rattle.std.specs.Cmp.Lexicographic.{pointwise}
use Rattle.std.specs.List.{list_any}
use Rattle.std.specs.Option.{option_map_or}
use Rattle.btf_records.specs.Fields.{entries_of, kind_of_type, name_offset_of}
use Rattle.btf_records.specs.declared.item.DataSecEntry.{DataSecEntry}
use Rattle.btf_records.specs.declared.kind.BtfKind.{BtfKind}
use Rattle.btf_records.specs.declared.kind.BtfKind.TheVariants as kinds
use Rattle.btf_records.specs.declared.types.BtfType.{BtfType}
use Rattle.btf_tables.specs.Tables.{Table, type_by_id}
use Rattle.string_table.specs.Texts.{text_at}

abbrev pub is_section : BtfKind → Bool
is_section kinds.DataSec = true
is_section _ = false

abbrev pub is_ksyms : List ℕ → BtfType → Bool
is_ksyms strings t =
    is_section (kind_of_type t)
    && option_map_or (λ name. pointwise nat_eq name (codes ".ksyms"))
    (text_at strings (name_offset_of t)) false

-- The id of the first section named `.ksyms` among records whose first has the given id.
abbrev pub ksyms_from : List ℕ → ℕ → List BtfType → Option ℕ
ksyms_from strings id [] = None
ksyms_from strings id (t ∷ ts) =
    if is_ksyms strings t then Some id else ksyms_from strings (id + 1) ts

abbrev pub ksyms_section : Table → Option ℕ
ksyms_section table = ksyms_from table.strings 1 table.types

-- Whether a record is a section whose name is at this offset and can't be read.
abbrev pub is_unreadable : List ℕ → ℕ → BtfType → Bool
is_unreadable strings offset t =
    is_section (kind_of_type t) && (name_offset_of t == offset) && is_none (text_at strings offset)

-- Whether such a section precedes the first section named `.ksyms`.
abbrev pub has_unreadable : List ℕ → ℕ → List BtfType → Bool
has_unreadable strings offset ts =
    list_any (is_unreadable strings offset) (take_while (λ t. not (is_ksyms strings t)) ts)

-- The entries of the section of an id.
abbrev pub entries_at : Table → ℕ → List DataSecEntry
entries_at table id = option_map_or entries_of (type_by_id table id) []

abbrev pub ksyms_entries : Table → List DataSecEntry
ksyms_entries table = option_map_or (entries_at table) (ksyms_section table) []
