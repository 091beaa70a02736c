-- Symbols that are defined outside the object.
use Rattle.std.specs.Prelude.{◌&&◌, Bool, true, false, not, is_none}
use Rattle.elf64.specs.Symbols.{Symbol}
use Rattle.elf64.specs.declared.kind.SymbolKind.{SymbolKind}
use Rattle.elf64.specs.declared.kind.SymbolKind.TheVariants as kinds

-- Whether a symbol is defined outside the object: it has no section, isn't a definition, and has no
-- kind.
abbrev pub is_unknown_kind : SymbolKind → Bool
is_unknown_kind kinds.Unknown = true
is_unknown_kind _ = false

abbrev pub is_extern_symbol : Symbol → Bool
is_extern_symbol s = is_none s.section_index && not s.is_definition && is_unknown_kind s.kind
