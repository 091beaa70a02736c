-- The notes on a file.
use Rattle.std.specs.Prelude.{ℕ, ◌==◌, if◌then◌else◌, List, [], ◌∷◌, ◌++◌, flat_map, length, codes, is_none, unwrap_or, Option}
use Rattle.std.specs.BTreeMap.{is_at}
use Rattle.std.specs.Cmp.Lexicographic.{slice_cmp}
use Rattle.std.specs.Int.{w16}
use Rattle.std.specs.Map.{lookup}
use Rattle.std.specs.Option.{option_map_or}
use Rattle.std.specs.Ordering.{nat_cmp}
use Rattle.elf64.specs.declared.order.ByteOrder.{ByteOrder}
use Rattle.elf64.specs.declared.order.ByteOrder.TheVariants.{Little, Big}
use Rattle.elf64.specs.Headers.{order_of}
use Rattle.elf64.specs.Numbers.{number_at}
use Rattle.elf64.specs.Relocations.{relocations_of}
use Rattle.elf64.specs.Sections.{Section}
use Rattle.ebpf_items.specs.Maps.{MapView}
use Rattle.object_file.specs.Kinds.{kind_of}
use Rattle.object_file.specs.Reading.{contents_named, read_sections}
use Rattle.section_kinds.specs.declared.section_kind.EbpfSectionKind.{EbpfSectionKind}
use Rattle.section_kinds.specs.declared.section_kind.EbpfSectionKind.TheVariants as kind
use Rattle.settings.specs.Content.{SettingsContent}
use Rattle.lints.specs.declared.note.Note.{Note}
use Rattle.lints.specs.declared.note.Note.TheVariants as note

-- A note, with names as bytes.
pub data NoteContent : Type 0 where
  OtherMachine : ℕ → NoteContent
  BigEndian : NoteContent
  NoLicense : NoteContent
  FirstValues : List ℕ → NoteContent
  Pointers : List ℕ → NoteContent
  SharedNumber : ℕ → List ℕ → List ℕ → NoteContent

abbrev pub note_content : Note → NoteContent
note_content (note.OtherMachine machine) = OtherMachine machine
note_content note.BigEndian = BigEndian
note_content note.NoLicense = NoLicense
note_content (note.FirstValues section) = FirstValues section.now
note_content (note.Pointers section) = Pointers section.now
note_content (note.SharedNumber number first second) = SharedNumber number first.now second.now

-- The field `e_machine`, which is 247 in eBPF files.
abbrev pub machine_of : List ℕ → ByteOrder → ℕ
machine_of file order = number_at w16 order file 18

abbrev pub machine_notes : List ℕ → ByteOrder → List NoteContent
machine_notes file order =
    if machine_of file order == 247 then [] else OtherMachine (machine_of file order) ∷ []

abbrev pub order_notes : ByteOrder → List NoteContent
order_notes Little = []
order_notes Big = BigEndian ∷ []

-- The notes on the header of an ELF64 file.
abbrev pub header_notes : List ℕ → List NoteContent
header_notes file =
    option_map_or (λ order. machine_notes file order ++ order_notes order) (order_of file) []

abbrev pub license_notes : List ℕ → List NoteContent
license_notes file = if is_none (contents_named file (codes "license")) then NoLicense ∷ [] else []

-- The note on a section with relocations, by the section's kind and name.
abbrev pub relocated_notes : EbpfSectionKind → List ℕ → List NoteContent
relocated_notes kind.Maps name = FirstValues name ∷ []
relocated_notes kind.BtfMaps name = FirstValues name ∷ []
relocated_notes kind.Data name = Pointers name ∷ []
relocated_notes kind.Rodata name = Pointers name ∷ []
relocated_notes kind.Bss name = Pointers name ∷ []
relocated_notes _ name = []

abbrev pub section_notes : List ℕ → Section → List NoteContent
section_notes file section =
    if length (relocations_of file section.index) == 0
    then []
    else relocated_notes (kind_of section) (unwrap_or section.name [])

-- The notes on the contents of an object file.
abbrev pub object_notes : List ℕ → List NoteContent
object_notes file = license_notes file ++ flat_map (section_notes file) (read_sections file)

-- Notes on the numbers of maps.

-- The number that is set for the map of a name, with the name.
abbrev pub set_numbers : SettingsContent → List ℕ → List (ℕ × List ℕ)
set_numbers settings name =
    option_map_or (λ number. (number, name) ∷ [])
    (lookup (is_at (slice_cmp nat_cmp name)) settings.maps) []

-- The numbers that are set for maps, in the order of the maps.
abbrev pub numbers_of : SettingsContent → List (List ℕ × MapView) → List (ℕ × List ℕ)
numbers_of settings maps = flat_map (λ e. set_numbers settings e.0) maps

-- The name of the first map with a number.
abbrev pub first_with : List (ℕ × List ℕ) → ℕ → Option (List ℕ)
first_with numbers number = lookup (is_at (nat_cmp number)) numbers

-- The notes on the maps of a list after the maps `before`: one on each map whose number an earlier
-- map has, with the first map of that number.
abbrev pub shared_notes : List (ℕ × List ℕ) → List (ℕ × List ℕ) → List NoteContent
shared_notes before [] = []
shared_notes before (e ∷ more) =
    option_map_or (λ first. SharedNumber e.0 first e.1 ∷ []) (first_with before e.0) []
    ++ shared_notes (before ++ e ∷ []) more

abbrev pub number_notes : SettingsContent → List (List ℕ × MapView) → List NoteContent
number_notes settings maps = shared_notes [] (numbers_of settings maps)
