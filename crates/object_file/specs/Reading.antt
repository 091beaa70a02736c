-- The sections of an object that are read, and the errors for sections that can't be read.
use Rattle.std.specs.Prelude.{◌≡◌, ◌⊎◌, ℕ, List, None, filter, codes, ◌==◌, ◌&&◌, ◌||◌, Bool, true, false, if◌then◌else◌, Option, is_some, is_none, option_and_then}
use Rattle.std.specs.List.{list_any}
use Rattle.std.specs.Option.{option_map_or}
use Rattle.elf64.specs.declared.error.ElfError as elf
use Rattle.elf64.specs.declared.error.ElfError.TheVariants.{Name, SectionData}
use Rattle.ebpf_items.specs.declared.error.ParseError.{ParseError}
use Rattle.ebpf_items.specs.declared.error.ParseError.TheVariants.{SectionError}
use Rattle.elf64.specs.Sections.{Section, sections_of, has_name, section_named}

-- Whether a section is the one that was found.
abbrev pub is_found : Option Section → Section → Bool
is_found found section = option_map_or (λ s. s.index == section.index) found false

-- Whether a section is read. Every section is, except type information: of it only the first
-- section named `.BTF` is read, and the first section named `.BTF.ext` if there is a `.BTF`.
abbrev pub is_read : Option Section → Option Section → Section → Bool
is_read types extension section =
    if has_name (codes ".BTF") section then is_found types section
    else
    (if has_name (codes ".BTF.ext") section
    then is_some types && is_found extension section
    else true)

-- The sections that are read, in order of index.
abbrev pub read_sections : List ℕ → List Section
read_sections file =
    filter (is_read (section_named file (codes ".BTF")) (section_named file (codes ".BTF.ext")))
    (sections_of file)

-- Whether an error names a part of a section that can't be read.
abbrev pub cannot_read : Section → elf.ElfError → Bool
cannot_read section Name = is_none section.name
cannot_read section SectionData = is_none section.contents
cannot_read section _ = false

abbrev pub is_unreadable : Section → Bool
is_unreadable section = is_none section.name || is_none section.contents

-- The error for a section whose name or bytes can't be read.
abbrev pub IsUnreadable : Section → ParseError → Type 0
IsUnreadable section error =
    ((error ≡ SectionError section.index Name) × (section.name ≡ None))
    ⊎ ((error ≡ SectionError section.index SectionData) × (section.contents ≡ None))

-- The error names a section and its part that can't be read.
abbrev pub HasUnreadable : List Section → ParseError → Type 0
HasUnreadable sections (SectionError index error) =
    list_any (λ s. (s.index == index) && cannot_read s error) sections ≡ true
HasUnreadable sections _ = ⊥

-- The bytes of the first section with a name.
abbrev pub contents_named : List ℕ → List ℕ → Option (List ℕ)
contents_named file name = option_and_then (λ s. s.contents) (section_named file name)
