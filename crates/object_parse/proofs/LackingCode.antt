-- The first function without code of some sections.
use Rattle.std.proofs.Common.{◌≡◌, ℕ, List, [], ◌∷◌, Option, Some, None, refl, sym, ap, ◌∙◌}
use Rattle.std.specs.Prelude.{unwrap_or}
use Rattle.std.specs.Option.{option_map_or}
use Rattle.elf64.specs.Sections.{Section}
use Rattle.elf64.specs.Symbols.{Symbol}
use Rattle.object_parse.specs.LackingCode.{function_without_code_in, first_without_code}

module _ (file : List ℕ) (sections rest : List Section) (section : Section) (all : Option (ℕ × List ℕ × List ℕ)) (is : sections ≡ section ∷ rest) (held : first_without_code file sections ≡ all) where
  first : (found : Option Symbol) → function_without_code_in file section ≡ found → all ≡ option_map_or (λ s. Some (section.index, unwrap_or section.name [], unwrap_or s.name [])) found (first_without_code file rest)
  first found same = sym held ∙ ap (first_without_code file) is ∙ ap (λ o. option_map_or (λ s. Some (section.index, unwrap_or section.name [], unwrap_or s.name [])) o (first_without_code file rest)) same

  pub found_here : (symbol : Symbol) (name text : List ℕ) (index : ℕ) → function_without_code_in file section ≡ Some symbol → index ≡ section.index → section.name ≡ Some name → symbol.name ≡ Some text → all ≡ Some (index, name, text)
  found_here symbol name text index found numbered named called = first (Some symbol) found ∙ rw (numbered, named, called) refl

  pub found_later : function_without_code_in file section ≡ None → first_without_code file rest ≡ all
  found_later none = sym (first None none)
