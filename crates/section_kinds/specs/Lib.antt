pub mod SectionKind
