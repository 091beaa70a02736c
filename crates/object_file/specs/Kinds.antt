-- The kinds of sections, by their names.
use Rattle.std.specs.Prelude.{[], unwrap_or}
use Rattle.elf64.specs.Sections.{Section}
use Rattle.section_kinds.specs.SectionKind.{kind_of_section}
use Rattle.section_kinds.specs.declared.section_kind.EbpfSectionKind.{EbpfSectionKind}

-- The kind of a section. A name that can't be read counts as empty.
abbrev pub kind_of : Section → EbpfSectionKind
kind_of section = kind_of_section (unwrap_or section.name []) section.is_text section.size
