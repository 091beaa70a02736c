-- The first bytes of texts.
use Rattle.std.specs.Prelude.{◌≡◌, ℕ, ◌<◌, Bool, true, false, List, is_some, length, slice_index_or}
use Rattle.string_table.specs.Texts.{text_at}

-- Whether a byte is in a set, given as a table of flags.
abbrev pub is_marked : List Bool → ℕ → Bool
is_marked marked byte = slice_index_or marked byte false

-- A text begins at each byte of the strings.
pub record AreTexts (strings : List ℕ) : Type 0 where
  pub each : (offset : ℕ) → offset < length strings → is_some (text_at strings offset) ≡ true
