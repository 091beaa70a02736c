-- Names of sections and symbols, in a string table.
use Rattle.std.specs.Prelude.{◌≡◌, ℕ, List, map, Option, option_and_then}
use Rattle.string_table.specs.Texts.{text_at}

-- The name at an offset. There is none without a string table.
abbrev pub name_in : Option (List ℕ) → ℕ → Option (List ℕ)
name_in strings offset = option_and_then (λ s. text_at s offset) strings

-- The name of each item is the text at its name offset.
pub record AreNamed {X : Type 0} (strings : Option (List ℕ)) (items : List X)
    (name_of : X → Option (List ℕ)) (offset_of : X → ℕ) : Type 0 where
  pub named : map name_of items ≡ map (λ x. name_in strings (offset_of x)) items
