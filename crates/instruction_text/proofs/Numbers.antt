-- Numbers in a text, and reading them.
use Rattle.std.proofs.Common.{◌≡◌, ℕ, suc, ◌+◌, ◌-◌, ◌*◌, ◌/◌, ◌%◌, ◌^◌, ◌<◌, ◌≤◌, Bool, true, false, not, List, [], ◌∷◌, ◌++◌, refl, ap, ◌∙◌, append_assoc, arith, ℤ, pos, negsuc}
use Rattle.std.specs.Prelude.{◌==◌, int_lt, FitsSigned}
use Rattle.std.specs.Int.{w16, w32, w64, cast_signed, cast_unsigned}
use Rattle.std.specs.Fmt.{decimal}
use Rattle.std.proofs.lemmas.Fmt.{decimal_by_steps}
use Rattle.std.proofs.lemmas.Bool.Decides.{nat_tests}
use Rattle.std.proofs.lemmas.Int.{ints, of_z-to_z, to_z-of_z}
use Rattle.std.proofs.Math.Facts.{sfits_to_z}
use Rattle.instruction_text.specs.declared.parts.Parts.{Parts}
use Rattle.instruction_text.specs.declared.parts.Field.{Field}
use Rattle.instruction_text.specs.declared.parts.Field.TheVariants.{Destination, Source, Offset, Immediate, LowerHalf, UpperHalf, High, Wide}
use Rattle.instruction_text.specs.declared.piece.Style.{Style}
use Rattle.instruction_text.specs.declared.piece.Style.TheVariants.{Plain, Signed, Spaced}
use Rattle.instruction_text.specs.Fields.{copied, lower_half, number_in, of_halves, upper_half, with_bits}
use Rattle.instruction_text.specs.Reading.{after_sign, after_space, digits_from, is_digit, is_minus, number_at}
use Rattle.instruction_text.specs.Texts.{shown_number}

-- Digits.

pub digit_is : (n : ℕ) → n < 10 → is_digit (48 + n) ≡ true
digit_is n h = grind (arith, nat_tests)

pub digit_step : (v d n : ℕ) (rest : List ℕ) → d < 10 → v * 10 + d ≡ n → n < 2 ^ 64 → digits_from v ((48 + d) ∷ rest) ≡ digits_from n rest
digit_step v d n rest h e s = rw (digit_is d h) (ap (λ m. digits_from m rest) (omega arith))

abbrev AreRead : ℕ → List ℕ → Type 0
AreRead n ds = n < 2 ^ 64 → (rest : List ℕ) → digits_from 0 (ds ++ rest) ≡ digits_from n rest

digits_read : (n : ℕ) → n < 2 ^ 64 → (rest : List ℕ) → digits_from 0 (decimal n ++ rest) ≡ digits_from n rest
digits_read n small rest = decimal_by_steps AreRead one more n small small rest
  where
    one : (n : ℕ) → n < 10 → AreRead n ((48 + n) ∷ [])
    one n h small rest = digit_step 0 n n rest h (omega arith) small

    more : (n : ℕ) (ds : List ℕ) → 10 ≤ n → AreRead (n / 10) ds → AreRead n (ds ++ ((48 + n % 10) ∷ []))
    more n ds low ih small rest =
        ap (digits_from 0) (append_assoc ds ((48 + n % 10) ∷ []) rest)
        ∙ ih (omega arith) ((48 + n % 10) ∷ rest)
        ∙ digit_step (n / 10) (n % 10) n rest (omega arith) (omega arith) small

abbrev pub Begins : List ℕ → Type 0
Begins [] = ⊥
Begins (c ∷ cs) = is_digit c ≡ true

begins_more : (ds es : List ℕ) → Begins ds → Begins (ds ++ es)
begins_more [] es h = absurd h
begins_more (d ∷ ds) es h = h

pub decimal_begins : (n : ℕ) → n < 2 ^ 64 → Begins (decimal n)
decimal_begins n small = decimal_by_steps (λ n ds. Begins ds) digit_is (λ n ds low ih. begins_more ds ((48 + n % 10) ∷ []) ih) n small

digit_no_space : (c : ℕ) → is_digit c ≡ true → (c == 32) ≡ false
digit_no_space c h = grind (arith, nat_tests)

digit_no_minus : (c : ℕ) → is_digit c ≡ true → (c == 45) ≡ false
digit_no_minus c h = grind (arith, nat_tests)

digit_no_plus : (c : ℕ) → is_digit c ≡ true → (c == 43) ≡ false
digit_no_plus c h = grind (arith, nat_tests)

no_space : (ds : List ℕ) (rest : List ℕ) → Begins ds → after_space (ds ++ rest) ≡ ds ++ rest
no_space [] rest h = absurd h
no_space (d ∷ ds) rest h = rw (digit_no_space d h) refl

no_sign : (ds : List ℕ) (rest : List ℕ) → Begins ds → after_sign (ds ++ rest) ≡ ds ++ rest
no_sign [] rest h = absurd h
no_sign (d ∷ ds) rest h = rw (digit_no_plus d h, digit_no_minus d h) refl

no_minus : (ds : List ℕ) (rest : List ℕ) → Begins ds → is_minus (ds ++ rest) ≡ false
no_minus [] rest h = absurd h
no_minus (d ∷ ds) rest h = digit_no_minus d h

-- Whether a text doesn't begin with a digit.
abbrev pub stops : List ℕ → Bool
stops [] = true
stops (c ∷ cs) = not (is_digit c)

not_true : (b : Bool) → not b ≡ true → b ≡ false
not_true true h = cc
not_true false h = refl

stopped : (n : ℕ) (rest : List ℕ) → stops rest ≡ true → digits_from n rest ≡ record { bits = n; rest = rest }
stopped n [] h = refl
stopped n (c ∷ cs) h = rw (not_true (is_digit c) h) refl

digits_are : (n : ℕ) (rest : List ℕ) → n < 2 ^ 64 → stops rest ≡ true → digits_from 0 (decimal n ++ rest) ≡ record { bits = n; rest = rest }
digits_are n rest small h = digits_read n small rest ∙ stopped n rest h

-- Signed numbers.

pub not_negative : (n : ℕ) → int_lt (pos n) (pos 0) ≡ false
not_negative n = grind (arith, nat_tests)

positive_read : (style : Style) (n : ℕ) (rest : List ℕ) → n < 2 ^ 64 → stops rest ≡ true → number_at (shown_number style (pos n) ++ rest) ≡ record { bits = n; rest = rest }
positive_read Plain n rest small h =
    let b = decimal_begins n small in
    rw (not_negative n, no_minus (decimal n) rest b, no_sign (decimal n) rest b, no_space (decimal n) rest b, digits_are n rest small h) refl
positive_read Signed n rest small h =
    let b = decimal_begins n small in
    rw (not_negative n, no_space (decimal n) rest b, digits_are n rest small h) refl
positive_read Spaced n rest small h =
    let b = decimal_begins n small in
    rw (not_negative n, digits_are n rest small h) refl

minus_bits : (n : ℕ) → n < 2 ^ 63 → (2 ^ 64 - suc n) % 2 ^ 64 ≡ 2 ^ 64 - suc n
minus_bits n h = omega arith

negative_read : (style : Style) (n : ℕ) (rest : List ℕ) → n < 2 ^ 63 → stops rest ≡ true → number_at (shown_number style (negsuc n) ++ rest) ≡ record { bits = 2 ^ 64 - suc n; rest = rest }
negative_read Plain n rest small h =
    let b = decimal_begins (suc n) (omega arith) in
    rw (no_space (decimal (suc n)) rest b, digits_are (suc n) rest (omega arith) h, minus_bits n small) refl
negative_read Signed n rest small h =
    let b = decimal_begins (suc n) (omega arith) in
    rw (no_space (decimal (suc n)) rest b, digits_are (suc n) rest (omega arith) h, minus_bits n small) refl
negative_read Spaced n rest small h =
    rw (digits_are (suc n) rest (omega arith) h, minus_bits n small) refl

pub number_read : (style : Style) (z : ℤ) (rest : List ℕ) → FitsSigned w64 z → stops rest ≡ true → number_at (shown_number style z ++ rest) ≡ record { bits = cast_unsigned w64 z; rest = rest }
number_read style (pos n) rest fits h = positive_read style n rest (omega (arith, fits.sfits)) h
number_read style (negsuc n) rest fits h = negative_read style n rest (omega (arith, fits.sfits)) h

-- Fields.

pub record IsParts (p : Parts) : Type 0 where
  pub destination : p.destination < 16
  pub source : p.source < 16
  pub offset : FitsSigned w16 p.offset
  pub immediate : FitsSigned w32 p.immediate
  pub high : FitsSigned w32 p.high

low_bits_16 : (n : ℕ) → n < 2 ^ 15 → (2 ^ 64 - suc n) % 2 ^ 16 ≡ 2 ^ 16 - suc n
low_bits_16 n h = omega arith

low_bits_32 : (n : ℕ) → n < 2 ^ 31 → (2 ^ 64 - suc n) % 2 ^ 32 ≡ 2 ^ 32 - suc n
low_bits_32 n h = omega arith

low_16 : (z : ℤ) → FitsSigned w16 z → cast_signed w16 (cast_unsigned w64 z % 2 ^ 16) ≡ z
low_16 (pos n) fits = omega (arith, ints)
low_16 (negsuc n) fits = ap (cast_signed w16) (low_bits_16 n (omega (arith, fits.sfits))) ∙ to_z-of_z w16 (negsuc n) fits

low_32 : (z : ℤ) → FitsSigned w32 z → cast_signed w32 (cast_unsigned w64 z % 2 ^ 32) ≡ z
low_32 (pos n) fits = omega (arith, ints)
low_32 (negsuc n) fits = ap (cast_signed w32) (low_bits_32 n (omega (arith, fits.sfits))) ∙ to_z-of_z w32 (negsuc n) fits

pub bits_32 : (z : ℤ) → FitsSigned w32 z → cast_unsigned w32 z < 2 ^ 32
bits_32 (pos n) fits = omega (arith, ints)
bits_32 (negsuc n) fits = omega (arith, ints)

wide_low : (a b : ℕ) → a < 2 ^ 32 → b < 2 ^ 32 → (a + 2 ^ 32 * b) % 2 ^ 32 ≡ a
wide_low a b h k = omega arith

wide_high : (a b : ℕ) → a < 2 ^ 32 → b < 2 ^ 32 → (a + 2 ^ 32 * b) / 2 ^ 32 ≡ b
wide_high a b h k = omega arith

wide_bits : (a b : ℕ) → a < 2 ^ 32 → b < 2 ^ 32 → cast_unsigned w64 (cast_signed w64 (a + 2 ^ 32 * b)) ≡ a + 2 ^ 32 * b
wide_bits a b h k = of_z-to_z w64 (a + 2 ^ 32 * b) (omega arith)

half_bits : (n : ℕ) → n < 2 ^ 16 → cast_unsigned w64 (pos n) % 2 ^ 16 ≡ n
half_bits n h = omega (arith, ints)

lower_few : (z : ℤ) → lower_half z < 2 ^ 16
lower_few z = omega arith

upper_few : (z : ℤ) → FitsSigned w32 z → upper_half z < 2 ^ 16
upper_few z fits = let h = bits_32 z fits in omega arith

pub bits_copied : (field : Field) (p q : Parts) → IsParts p → with_bits field (cast_unsigned w64 (number_in field p)) q ≡ copied field p q
bits_copied Destination p q fits =
    let h = fits.destination in
    let e : p.destination % 16 ≡ p.destination = omega arith in rw e refl
bits_copied Source p q fits =
    let h = fits.source in
    let e : p.source % 16 ≡ p.source = omega arith in rw e refl
bits_copied Offset p q fits = rw (low_16 p.offset fits.offset) refl
bits_copied Immediate p q fits = rw (low_32 p.immediate fits.immediate) refl
bits_copied LowerHalf p q fits =
    ap (λ n. record q { immediate = of_halves n (upper_half q.immediate) }) (half_bits (lower_half p.immediate) (lower_few p.immediate))
bits_copied UpperHalf p q fits =
    ap (λ n. record q { immediate = of_halves (lower_half q.immediate) n }) (half_bits (upper_half p.immediate) (upper_few p.immediate fits.immediate))
bits_copied High p q fits = rw (low_32 p.high fits.high) refl
bits_copied Wide p q fits =
    let a = cast_unsigned w32 p.immediate in
    let b = cast_unsigned w32 p.high in
    let h = bits_32 p.immediate fits.immediate in
    let k = bits_32 p.high fits.high in
    rw (wide_bits a b h k, wide_low a b h k, wide_high a b h k, to_z-of_z w32 p.immediate fits.immediate, to_z-of_z w32 p.high fits.high) refl

small_fits : (n : ℕ) → n < 2 ^ 16 → FitsSigned w64 (pos n)
small_fits n h = record { sfits = omega arith }

fits_16 : (z : ℤ) → FitsSigned w16 z → FitsSigned w64 z
fits_16 (pos n) f = record { sfits = omega (arith, f.sfits) }
fits_16 (negsuc n) f = record { sfits = omega (arith, f.sfits) }

fits_32 : (z : ℤ) → FitsSigned w32 z → FitsSigned w64 z
fits_32 (pos n) f = record { sfits = omega (arith, f.sfits) }
fits_32 (negsuc n) f = record { sfits = omega (arith, f.sfits) }

wide_fits : (a b : ℕ) → a < 2 ^ 32 → b < 2 ^ 32 → FitsSigned w64 (cast_signed w64 (a + 2 ^ 32 * b))
wide_fits a b h k = sfits_to_z (omega arith)

pub number_fits : (field : Field) (p : Parts) → IsParts p → FitsSigned w64 (number_in field p)
number_fits Destination p f = let h = f.destination in small_fits p.destination (omega arith)
number_fits Source p f = let h = f.source in small_fits p.source (omega arith)
number_fits Offset p f = fits_16 p.offset f.offset
number_fits Immediate p f = fits_32 p.immediate f.immediate
number_fits LowerHalf p f = small_fits (lower_half p.immediate) (lower_few p.immediate)
number_fits UpperHalf p f = small_fits (upper_half p.immediate) (upper_few p.immediate f.immediate)
number_fits High p f = fits_32 p.high f.high
number_fits Wide p f =
    wide_fits (cast_unsigned w32 p.immediate) (cast_unsigned w32 p.high) (bits_32 p.immediate f.immediate) (bits_32 p.high f.high)
