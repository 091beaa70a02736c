-- The values of words.
use Rattle.std.specs.Prelude.{◌≢◌, ℕ, ◌&&◌, ◌==◌, nat_lt, nat_le, Bool, if◌then◌else◌, List, [], ◌∷◌, length, codes, Option, Some, None, option_and_then}
use Rattle.std.specs.Fmt.{decimal}
use Rattle.std.specs.Option.{option_map}
use Rattle.std.specs.Result.{result_ok}
use Rattle.std.specs.Str.{bytes_eq}
use Rattle.std.specs.Str.Parse.{digits_value}
use Rattle.std.specs.Borrow.{Bor}
use Rattle.hex.specs.Hex.{decode_of, encode_lower}

-- Numbers.

-- Whether a number is at most `max` and these are its decimal digits.
abbrev pub is_number_upto : ℕ → List ℕ → ℕ → Bool
is_number_upto max word n = nat_le n max && bytes_eq (decimal n) word

-- The number whose decimal digits a word has, if it is at most `max`.
abbrev pub number_upto : ℕ → List ℕ → Option ℕ
number_upto max word =
    if is_number_upto max word (digits_value 10 word) then Some (digits_value 10 word) else None

-- Bytes.

-- Whether a word has the lower case hexadecimal digits of some bytes.
abbrev pub is_hex_of : List ℕ → List ℕ → Bool
is_hex_of word bytes = nat_lt 0 (length bytes) && bytes_eq (encode_lower bytes) word

-- The bytes of a word. A dash stands for no bytes.
abbrev pub hex_of : List ℕ → Option (List ℕ)
hex_of word =
    if bytes_eq word (codes "-")
    then Some []
    else option_and_then (λ bytes. if is_hex_of word bytes then Some bytes else None)
    (result_ok (decode_of word))

-- Words of a line.

-- An element put before a list.
abbrev pub onto : Option ℕ → Option (List ℕ) → Option (List ℕ)
onto (Some x) (Some xs) = Some (x ∷ xs)
onto _ _ = None

abbrev pub onto_first : ℕ → List (List ℕ) → List (List ℕ)
onto_first x [] = (x ∷ []) ∷ []
onto_first x (piece ∷ pieces) = (x ∷ piece) ∷ pieces

-- The pieces between the spaces of a line.
abbrev pub pieces_of : List ℕ → List (List ℕ)
pieces_of [] = [] ∷ []
pieces_of (x ∷ xs) = if x == 32 then [] ∷ pieces_of xs else onto_first x (pieces_of xs)

-- The remaining words of a line.
abbrev pub pieces_left : Option (Bor (List ℕ)) → List (List ℕ)
pieces_left None = []
pieces_left (Some rest) = pieces_of rest.now

-- The value of the first word, and the words after it.
abbrev pub first_by : {A : Type 0}
    → (List ℕ → Option A)
    → List (List ℕ)
    → Option (A × List (List ℕ))
first_by read [] = None
first_by read (word ∷ words) = option_map (λ a. (a, words)) (read word)

-- The bytes don't contain this byte.
abbrev pub Lacks : ℕ → List ℕ → Type 0
Lacks byte [] = Unit {0}
Lacks byte (x ∷ xs) = (x ≢ byte) × Lacks byte xs

-- The bytes contain no line feed.
abbrev pub IsUnbroken : List ℕ → Type 0
IsUnbroken bytes = Lacks 10 bytes
