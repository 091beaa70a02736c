-- Words of a text, separated by white space: the characters with the Unicode property White_Space,
-- in UTF-8.
use Rattle.std.specs.Prelude.{◌≡◌, ℕ, zero, suc, ◌-◌, ◌<◌, ◌≤◌, drop, Bool, true, false, ◌&&◌, ◌||◌, ◌==◌, nat_le, nat_lt, if◌then◌else◌, List, [], ◌∷◌, filter, slice_index, Option, None, Some}
use Rattle.std.specs.Borrow.{Bor}
use Rattle.std.specs.Int.{trailing_zeros, w64}
use Rattle.std.specs.Option.{option_map}

-- TAB to CR, and SPACE.
abbrev pub is_ascii_space : ℕ → Bool
is_ascii_space a = (nat_le 9 a && nat_le a 13) || (a == 32)

-- U+0085 and U+00A0.
abbrev pub is_latin_space : ℕ → ℕ → Bool
is_latin_space a b = (a == 194) && ((b == 133) || (b == 160))

-- The last byte of U+2000 to U+200A, U+2028, U+2029 and U+202F.
abbrev pub ends_general_space : ℕ → Bool
ends_general_space c = (nat_le 128 c && nat_le c 138) || (c == 168) || (c == 169) || (c == 175)

-- The last two bytes of these characters and of U+205F.
abbrev pub is_general_space : ℕ → ℕ → Bool
is_general_space b c = ((b == 128) && ends_general_space c) || ((b == 129) && (c == 159))

-- U+1680, the characters of `is_general_space`, and U+3000.
abbrev pub is_wide_space : ℕ → ℕ → ℕ → Bool
is_wide_space a b c =
    ((a == 225) && (b == 154) && (c == 128))
    || ((a == 226) && is_general_space b c)
    || ((a == 227) && (b == 128) && (c == 128))

-- The length in bytes of the white space character that the bytes begin with, or 0 if they don't
-- begin with one.
unfoldable pub space_len : List ℕ → ℕ
space_len bytes =
    if is_ascii_space (slice_index bytes 0)
    then 1
    else (if is_latin_space (slice_index bytes 0) (slice_index bytes 1)
    then 2
    else (if is_wide_space (slice_index bytes 0) (slice_index bytes 1) (slice_index bytes 2)
    then 3
    else 0))

-- Prepends a byte to the first of some pieces.
abbrev pub onto_first : ℕ → List (List ℕ) → List (List ℕ)
onto_first x [] = (x ∷ []) ∷ []
onto_first x (piece ∷ pieces) = (x ∷ piece) ∷ pieces

-- The pieces between white space, including empty ones. The first `skipped` bytes still belong to a
-- white space character.
unfoldable pub pieces_after : ℕ → List ℕ → List (List ℕ)
pieces_after skipped [] = [] ∷ []
pieces_after (suc skipped) (x ∷ xs) = pieces_after skipped xs
pieces_after zero (x ∷ xs) =
    if space_len (x ∷ xs) == 0
    then onto_first x (pieces_after 0 xs)
    else [] ∷ pieces_after (space_len (x ∷ xs) - 1) xs

abbrev pub is_word : List ℕ → Bool
is_word [] = false
is_word (x ∷ xs) = true

abbrev pub words_of : List ℕ → List (List ℕ)
words_of bytes = filter is_word (pieces_after 0 bytes)

-- A byte of ASCII above SPACE, which is no part of white space.
abbrev pub is_plain : ℕ → Bool
is_plain b = nat_lt 32 b && nat_lt b 128

-- Each byte from one index up to another is plain.
pub record ArePlain (bytes : List ℕ) (start end : ℕ) : Type 0 where
  pub each : (k : ℕ) → start ≤ k → k < end → is_plain (slice_index bytes k) ≡ true

-- The index of the lowest set bit of 16 bits, or 16 if no bit is set.
abbrev pub first_set : ℕ → ℕ
first_set mask = if mask == 0 then 16 else trailing_zeros w64 mask

-- No white space begins at any of the first n bytes.
abbrev pub IsPlain : ℕ → List ℕ → Type 0
IsPlain n bytes = (k : ℕ) → k < n → space_len (drop k bytes) ≡ 0

-- Nothing is left, or white space comes first.
abbrev pub EndsWord : List ℕ → Type 0
EndsWord [] = Unit {0}
EndsWord (x ∷ xs) = (space_len (x ∷ xs) ≡ 0) → ⊥

-- The first and the third of some words, if there are three.
abbrev pub first_and_third : List (List ℕ) → Option (List ℕ × List ℕ)
first_and_third (first ∷ second ∷ third ∷ more) = Some (first, third)
first_and_third _ = None

-- The bytes of two borrowed words.
abbrev pub word_bytes : Option (Bor (List ℕ) × Bor (List ℕ)) → Option (List ℕ × List ℕ)
word_bytes words = option_map (λ p. (p.0.now, p.1.now)) words
