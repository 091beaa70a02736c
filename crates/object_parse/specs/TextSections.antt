-- The functions of `.text` sections. The first one begins with the section, and each other one
-- where its predecessor ends.
use Rattle.std.specs.Prelude.{ℕ, zero, suc, ◌+◌, ◌/◌, ◌%◌, ◌^◌, ◌==◌, ◌&&◌, not, nat_le, nat_lt, Bool, true, false, List, [], ◌∷◌, length, map, filter, find, take, drop, fold, Option, None, unwrap_or, is_some, if◌then◌else◌}
use Rattle.std.specs.BTreeMap.{insert_entry}
use Rattle.std.specs.List.{list_any}
use Rattle.std.specs.Option.{option_map_or}
use Rattle.elf64.specs.Sections.{Section}
use Rattle.elf64.specs.Symbols.{Symbol}
use Rattle.ebpf_items.specs.Instruction.{slots_of}
use Rattle.object_parse.specs.Kept.{kept_functions, kept_lines}
use Rattle.object_file.specs.Kinds.{kind_of}
use Rattle.object_file.specs.Symbols.{symbols_in}
use Rattle.object_parts.specs.Content.{FunctionContent, key_cmp}
use Rattle.object_parse.specs.Programs.{is_text_kind}
use Rattle.object_parse.specs.SectionInfos.{SectionInfo}
use Rattle.section_kinds.specs.declared.section_kind.EbpfSectionKind.{EbpfSectionKind}
use Rattle.section_kinds.specs.declared.section_kind.EbpfSectionKind.TheVariants.{Text}

-- Whether a section is a `.text` section.
abbrev pub is_text_section_kind : EbpfSectionKind → Bool
is_text_section_kind Text = true
is_text_section_kind _ = false

abbrev pub is_text_section : Section → Bool
is_text_section section = is_some section.name && is_text_section_kind (kind_of section)

-- Whether a symbol defines a function.
abbrev pub is_text_definition : Symbol → Bool
is_text_definition s = is_text_kind s.kind && s.is_definition

-- The addresses of the functions that symbols define.
abbrev pub function_addresses : List Symbol → List ℕ
function_addresses symbols = map (λ s. s.address) (filter is_text_definition symbols)

-- The first symbol that defines a function at an address.
abbrev pub definition_of : List Symbol → ℕ → Option Symbol
definition_of symbols address = find (λ s. s.address == address) (filter is_text_definition symbols)

-- The same for an address that fits in 64 bits. No function is at another address.
abbrev pub defined_at : List Symbol → ℕ → Option Symbol
defined_at symbols address = if nat_lt address (2 ^ 64) then definition_of symbols address else None

-- A place of a section at which a function must begin: its offset, and the symbol there.
pub record Place : Type 0 where
  pub offset : ℕ
  pub symbol : Option Symbol

abbrev pub place_at : List Symbol → ℕ → ℕ → Place
place_at symbols address offset = record {
  offset = offset;
  symbol = defined_at symbols (address + offset);
}

-- Whether a symbol's bytes from an offset on lie within a number of bytes, and are whole slots.
abbrev pub has_code_at : ℕ → ℕ → Symbol → Bool
has_code_at len offset s = nat_le (offset + s.size) len && (s.size % 8 == 0)

-- Whether a symbol has bytes.
abbrev pub is_sound_at : ℕ → ℕ → Symbol → Bool
is_sound_at len offset s = not (s.size == 0) && has_code_at len offset s

-- The places at which functions must begin in a number of bytes, from an offset on: at the offset,
-- if bytes are left, and after each function. `steps` is at least the number of places.
unfoldable pub places_from : ℕ → List Symbol → ℕ → ℕ → ℕ → List Place
places_from zero symbols address len offset = []
places_from (suc steps) symbols address len offset =
    if nat_lt offset len
    then place_at symbols address offset
    ∷ option_map_or (λ s.
    if is_sound_at len offset s
    then places_from steps symbols address len (offset + s.size)
    else []) (defined_at symbols (address + offset)) []
    else []

-- The places of a section.
abbrev pub places_of : List Symbol → Section → List Place
places_of symbols section =
    places_from (length (unwrap_or section.contents [])) (symbols_in symbols section.index)
    section.address (length (unwrap_or section.contents [])) 0

-- Whether no function with code begins at a place.
abbrev pub is_unsound : ℕ → Place → Bool
is_unsound len place = not (option_map_or (is_sound_at len place.offset) place.symbol false)

abbrev pub has_unsound_place : List Symbol → Section → Bool
has_unsound_place symbols section =
    list_any (is_unsound (length (unwrap_or section.contents []))) (places_of symbols section)

-- The function that is inserted. Its records are counted from the section's first slot.
abbrev pub text_function_of : SectionInfo → Section → ℕ → Symbol → FunctionContent
text_function_of info section offset s = record {
  address = s.address;
  name = unwrap_or s.name [];
  section_index = section.index;
  section_offset = offset;
  instructions = slots_of (take s.size (drop offset (unwrap_or section.contents [])));
  func_info = kept_functions false (offset / 8) info.functions;
  line_info = kept_lines false (offset / 8) (s.size / 8) info.lines;
  func_info_rec_size = info.func_size;
  line_info_rec_size = info.line_size;
  matched_tables = [];
}

-- The functions after the insertion of the function at a place, which replaces one of the same key.
abbrev pub with_text_function : SectionInfo
    → Section
    → List ((ℕ × ℕ) × FunctionContent)
    → Place
    → List ((ℕ × ℕ) × FunctionContent)
with_text_function info section functions place =
    option_map_or (λ s.
    insert_entry key_cmp functions (section.index, s.address)
    (text_function_of info section place.offset s)) place.symbol functions

-- The functions after the insertions of one more `.text` section.
abbrev pub with_text_functions : SectionInfo
    → List Symbol
    → List ((ℕ × ℕ) × FunctionContent)
    → Section
    → List ((ℕ × ℕ) × FunctionContent)
with_text_functions info symbols functions section =
    fold (with_text_function info section) functions (places_of symbols section)
