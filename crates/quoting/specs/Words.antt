-- The words of a line.
use Rattle.std.specs.Prelude.{ℕ, nat_le, Bool, false, ◌==◌, ◌&&◌, not, if◌then◌else◌, List, [], ◌∷◌, ◌++◌, ◌/◌, ◌%◌, flat_map, codes, length, bytes_eq, Option, Some, None}
use Rattle.std.specs.Fmt.{decimal, digit_glyph}
use Rattle.std.specs.List.{list_all}

-- A byte as two hexadecimal digits.
abbrev pub two_digits : ℕ → List ℕ
two_digits byte = digit_glyph false (byte / 16) ∷ digit_glyph false (byte % 16) ∷ []

-- Bytes in hexadecimal; a dash for no bytes.
abbrev pub hex_word : List ℕ → List ℕ
hex_word [] = codes "-"
hex_word (byte ∷ bytes) = flat_map two_digits (byte ∷ bytes)

-- A number; a dash for none.
abbrev pub number_word : Option ℕ → List ℕ
number_word None = codes "-"
number_word (Some number) = decimal number

-- Whether a byte is written as itself in double quotes: printable ASCII, except a double quote and
-- a backslash.
abbrev pub is_printed : ℕ → Bool
is_printed byte = nat_le 32 byte && nat_le byte 126 && not (byte == 34) && not (byte == 92)

-- A byte in double quotes.
abbrev pub quoted_byte : ℕ → List ℕ
quoted_byte byte = if is_printed byte then byte ∷ [] else codes "\\x" ++ two_digits byte

-- Whether a byte is written as itself without double quotes.
abbrev pub is_plain_byte : ℕ → Bool
is_plain_byte byte = is_printed byte && not (byte == 32)

-- Whether a text is a word without double quotes: each byte is written as itself, and the text is
-- neither empty nor a dash.
abbrev pub is_plain : List ℕ → Bool
is_plain bytes =
    not (length bytes == 0) && not (bytes_eq bytes (codes "-")) && list_all is_plain_byte bytes

-- A text in double quotes.
abbrev pub quoted_word : List ℕ → List ℕ
quoted_word bytes = 34 ∷ flat_map quoted_byte bytes ++ 34 ∷ []

-- A text; a dash for none.
abbrev pub text_word : Option (List ℕ) → List ℕ
text_word None = codes "-"
text_word (Some bytes) = if is_plain bytes then flat_map quoted_byte bytes else quoted_word bytes
