-- Addresses that std reads.
use Rattle.std.proofs.Common.{◌≡◌, ℕ, ◌<◌, ◌^◌, Bool, true, false, not, List, [], ◌∷◌, length, None, Result, Ok, Err, refl, arith}
use Rattle.std.specs.Prelude.{◌==◌, nat_lt}
use Rattle.std.specs.Char.{is_digit}
use Rattle.std.specs.List.{list_all}
use Rattle.std.specs.Result.{result_ok}
use Rattle.std.specs.Str.{IsAscii, IsUtf8}
use Rattle.std.specs.Str.Parse.{AllDigits, IsNumeral, ParsesUnsigned, digits_value, without_leading_plus}
use Rattle.std.proofs.lemmas.Bool.Decides.{nat_tests}
use Rattle.std.proofs.lemmas.Bool.{and_parts, false_from_ne_true, lt-ltb}
use Rattle.std.proofs.lemmas.Str.{IsUtf8-from_ascii}
use Rattle.std.proofs.lemmas.Str.Ascii.{IsAscii-cons, IsAscii-nil}
use Rattle.kernel_symbols.specs.Addresses.{address_in, is_number}

test_digits : (ds : List ℕ) → AllDigits 16 ds → list_all (λ c. is_digit c 16) ds ≡ true
test_digits [] h = refl
test_digits (c ∷ cs) h = rw (lt-ltb _ 16 h.0) (test_digits cs h.1)

all_digits : (ds : List ℕ) → list_all (λ c. is_digit c 16) ds ≡ true → AllDigits 16 ds
all_digits [] h = tt
all_digits (c ∷ cs) h =
    let both = and_parts (is_digit c 16) _ h in
    (grind (arith, nat_tests, both.0), all_digits cs both.1)

numeral : (ds : List ℕ) → is_number ds ≡ true → IsNumeral 16 ds × (digits_value 16 ds < 2 ^ 64)
numeral ds h =
    let fits = and_parts _ (nat_lt (digits_value 16 ds) (2 ^ 64)) h in
    let digits = and_parts (not (length ds == 0)) _ fits.0 in
    ((grind (arith, nat_tests, digits.0), all_digits ds digits.1), grind (arith, nat_tests, fits.1))

number : (ds : List ℕ) → IsNumeral 16 ds → digits_value 16 ds < 2 ^ 64 → is_number ds ≡ true
number ds h fits =
    let some : (length ds == 0) ≡ false = grind (arith, nat_tests, h.0) in
    rw (some, test_digits ds h.1, lt-ltb _ (2 ^ 64) fits) refl

-- The number that std reads from a word is the address in it.
pub parsed : {E : Type 0} (word : List ℕ) (r : Result ℕ E) → ParsesUnsigned 64 16 word r → result_ok r ≡ address_in word
unfolding address_in
parsed word (Ok n) h = rw (number (without_leading_plus word) h.0.0 h.0.1, h.1) refl
parsed word (Err e) h = rw (false_from_ne_true (is_number (without_leading_plus word)) (λ is. h (numeral (without_leading_plus word) is))) refl

digits_ascii : (ds : List ℕ) → AllDigits 16 ds → IsAscii ds
digits_ascii [] h = IsAscii-nil
digits_ascii (c ∷ cs) h = IsAscii-cons c cs (grind (arith, nat_tests, h.0)) (digits_ascii cs h.1)

word_ascii : (word : List ℕ) → IsAscii (without_leading_plus word) → IsAscii word
word_ascii [] h = h
word_ascii (c ∷ cs) h = by (c == 43) refl h
  where
    by : (b : Bool) → (c == 43) ≡ b → IsAscii (without_leading_plus (c ∷ cs)) → IsAscii (c ∷ cs)
    by true is h = IsAscii-cons c cs (grind (arith, nat_tests, is)) (rw is at h)
    by false is h = rw is at h

-- No address is in a word that isn't UTF-8.
pub foreign_word : (word : List ℕ) → ¬ (IsUtf8 word) → None ≡ address_in word
unfolding address_in
foreign_word word h =
    rw (false_from_ne_true (is_number (without_leading_plus word)) (λ is. h (IsUtf8-from_ascii word (word_ascii word (digits_ascii _ (numeral (without_leading_plus word) is).0.1))))) refl
