-- Access strings (`access_str_off` of `struct bpf_core_relo`, include/uapi/linux/bpf.h): numbers
-- joined by `:`.
use Rattle.std.specs.Prelude.{ℕ, ◌^◌, ◌==◌, ◌&&◌, Bool, List, [], ◌∷◌, length, Option, None, Some, if◌then◌else◌, nat_lt}
use Rattle.std.specs.List.{slice_split}
use Rattle.std.specs.Option.{option_and_then, option_map}
use Rattle.std.specs.Str.{all_ascii_digits}
use Rattle.std.specs.Str.Parse.{digits_value, without_leading_plus}

-- Whether digits are a decimal number of 64 bits.
abbrev pub is_number : List ℕ → Bool
is_number digits =
    nat_lt 0 (length digits) && all_ascii_digits digits && nat_lt (digits_value 10 digits) (2 ^ 64)

-- The number that a text denotes. A `+` may precede the digits.
abbrev pub number_in : List ℕ → Option ℕ
number_in text =
    if is_number (without_leading_plus text)
    then Some (digits_value 10 (without_leading_plus text))
    else None

-- The numbers that texts denote, if each text denotes one.
abbrev pub numbers_in : List (List ℕ) → Option (List ℕ)
numbers_in [] = Some []
numbers_in (text ∷ texts) =
    option_and_then (λ n. option_map (λ ns. n ∷ ns) (numbers_in texts)) (number_in text)

-- The pieces of a text between its colons.
abbrev pub pieces : List ℕ → List (List ℕ)
pieces text = slice_split (λ b. b == 58) text

abbrev pub access_numbers : List ℕ → Option (List ℕ)
access_numbers text = numbers_in (pieces text)
