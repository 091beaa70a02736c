-- The lines of items.
use Rattle.std.specs.Prelude.{ℕ, Bool, true, false, List, [], ◌∷◌, ◌++◌, codes, Some}
use Rattle.std.specs.Fmt.{decimal}
use Rattle.elf64.specs.Relocations.{Relocation}
use Rattle.elf64.specs.Sections.{Section}
use Rattle.ebpf_items.specs.declared.maps.PinningType.{PinningType}
use Rattle.ebpf_items.specs.declared.maps.PinningType.TheVariants as pinning
use Rattle.object_file.specs.Kinds.{kind_of}
use Rattle.program_kinds.specs.Bindings.{prog_type_number}
use Rattle.section_kinds.specs.declared.section_kind.EbpfSectionKind.{EbpfSectionKind}
use Rattle.section_kinds.specs.declared.section_kind.EbpfSectionKind.TheVariants as kind
use Rattle.program_kinds.specs.declared.attributes.LoadAttributes.{LoadAttributes}
use Rattle.quoting.specs.Words.{number_word, text_word}

-- Words with a space between them, followed by more bytes.
abbrev pub words_onto : List (List ℕ) → List ℕ → List ℕ
words_onto [] more = more
words_onto (word ∷ []) more = word ++ more
words_onto (word ∷ next ∷ words) more = word ++ 32 ∷ words_onto (next ∷ words) more

-- Words with a space between them, and a line feed.
abbrev pub line : List (List ℕ) → List ℕ
line words = words_onto words (10 ∷ [])

abbrev pub kind_name : EbpfSectionKind → List ℕ
kind_name kind.Undefined = codes "Undefined"
kind_name kind.Maps = codes "Maps"
kind_name kind.BtfMaps = codes "BtfMaps"
kind_name kind.Program = codes "Program"
kind_name kind.Data = codes "Data"
kind_name kind.Rodata = codes "Rodata"
kind_name kind.Bss = codes "Bss"
kind_name kind.Text = codes "Text"
kind_name kind.Btf = codes "Btf"
kind_name kind.BtfExt = codes "BtfExt"
kind_name kind.License = codes "License"
kind_name kind.Version = codes "Version"

abbrev pub pinning_name : PinningType → List ℕ
pinning_name pinning.None = codes "None"
pinning_name pinning.ByName = codes "ByName"

abbrev pub section_line : Section → List ℕ
section_line s =
    line
    (codes "section"
    ∷ decimal s.index
    ∷ kind_name (kind_of s)
    ∷ text_word s.name
    ∷ codes "address"
    ∷ decimal s.address
    ∷ codes "size"
    ∷ decimal s.size
    ∷ [])

-- The line of a relocation, given the index of its section.
abbrev pub relocation_line : ℕ → Relocation → List ℕ
relocation_line section r =
    line
    (codes "relocation"
    ∷ decimal section
    ∷ codes "offset"
    ∷ decimal r.offset
    ∷ codes "symbol"
    ∷ number_word r.symbol
    ∷ codes "width"
    ∷ decimal r.width
    ∷ [])

-- Whether the relocations of sections of a kind are listed one by one.
abbrev pub is_listed : EbpfSectionKind → Bool
is_listed kind.Undefined = false
is_listed kind.Btf = false
is_listed kind.BtfExt = false
is_listed kind.License = false
is_listed kind.Version = false
is_listed _ = true

-- The line of the number of a section's relocations.
abbrev pub count_line : ℕ → ℕ → List ℕ
count_line section count =
    line (codes "relocations" ∷ decimal section ∷ codes "count" ∷ decimal count ∷ [])

-- The attributes that a loader passes for the program of a name.
abbrev pub load_line : List ℕ → LoadAttributes → List ℕ
load_line name a =
    line
    (codes "load"
    ∷ text_word (Some name)
    ∷ codes "type"
    ∷ decimal (prog_type_number a.prog_type)
    ∷ codes "attach-type"
    ∷ number_word a.expected_attach_type
    ∷ codes "flags"
    ∷ decimal a.flags
    ∷ [])
