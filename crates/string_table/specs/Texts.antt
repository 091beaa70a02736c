-- Texts in a string table (ELF-64 object file format, "String Table"; "String Encoding" of BTF),
-- each ended by a NUL.
use Rattle.std.specs.Prelude.{ℕ, List, take, drop, position, ◌==◌, if◌then◌else◌, Option, Some, None, option_and_then}
use Rattle.std.specs.Option.{option_map}
use Rattle.std.specs.Str.{is_utf8}

-- The bytes before the first NUL, if there is one.
abbrev pub before_nul : List ℕ → Option (List ℕ)
before_nul bytes = option_map (λ len. take len bytes) (position (λ b. b == 0) bytes)

-- The bytes, if they are UTF-8.
abbrev pub text_of : List ℕ → Option (List ℕ)
text_of bytes = if is_utf8 bytes then Some bytes else None

-- The text at an offset of a string table: the bytes before the next NUL, if they are UTF-8.
unfoldable pub text_at : List ℕ → ℕ → Option (List ℕ)
text_at strings at = option_and_then text_of (before_nul (drop at strings))
