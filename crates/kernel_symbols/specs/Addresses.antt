-- Addresses in hexadecimal digits.
use Rattle.std.specs.Prelude.{ℕ, ◌^◌, ◌==◌, Bool, ◌&&◌, not, nat_lt, if◌then◌else◌, List, length, Option, None, Some}
use Rattle.std.specs.Char.{is_digit}
use Rattle.std.specs.List.{list_all}
use Rattle.std.specs.Str.Parse.{digits_value, without_leading_plus}

-- Whether a text is one or more hexadecimal digits of either case, and their value fits 64 bits.
abbrev pub is_number : List ℕ → Bool
is_number digits =
    not (length digits == 0)
    && list_all (λ c. is_digit c 16) digits
    && nat_lt (digits_value 16 digits) (2 ^ 64)

-- An address: a number in hexadecimal digits, after an optional plus.
unfoldable pub address_in : List ℕ → Option ℕ
address_in word =
    if is_number (without_leading_plus word)
    then Some (digits_value 16 (without_leading_plus word))
    else None
