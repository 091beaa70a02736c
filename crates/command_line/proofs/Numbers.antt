-- The numbers that `parse` reads in decimal digits.
use Rattle.std.proofs.Common.{◌≡◌, ℕ, ◌<◌, ◌^◌, Bool, true, false, List, length, None, Some, Ok, Err, Option, Result, refl, ap, arith}
use Rattle.std.proofs.lemmas.Bool.Decides.{nat_tests}
use Rattle.std.proofs.lemmas.Str.Parse.{IsNumeralModel, numerals_by_value, parse_digits, tells_all_ascii_digits}
use Rattle.std.specs.Prelude.{◌&&◌, nat_lt, if◌then◌else◌}
use Rattle.std.specs.Result.{OkIff}
use Rattle.std.specs.Str.{all_ascii_digits}
use Rattle.std.specs.Str.Parse.{ParsesUnsigned, digits_value}
use Rattle.command_line.specs.SettingWords.{are_digits, small_number}

own : IsNumeralModel (λ ds. all_ascii_digits ds ≡ true) (digits_value 10)
own = numerals_by_value _ tells_all_ascii_digits

two : (a b : Bool) → (a && b) ≡ true → (a ≡ true) × (b ≡ true)
two true true h = (refl, refl)
two true false h = absurd cc
two false b h = absurd cc

shown : (ds : List ℕ) → are_digits ds ≡ true → (0 < length ds) × (all_ascii_digits ds ≡ true)
shown ds test =
    let parts = two (nat_lt 0 (length ds)) (all_ascii_digits ds) test in
    let some : 0 < length ds = grind (arith, nat_tests, parts.0) in
    (some, parts.1)

parsed : {E : Type 0} (ds : List ℕ) (r : Result ℕ E) → ParsesUnsigned 32 10 ds r → are_digits ds ≡ true → OkIff r ((0 < length ds) × (digits_value 10 ds < 2 ^ 32)) (digits_value 10 ds)
parsed ds r h test = parse_digits own 32 ds r h (shown ds test).1

-- The number that is read, if it is below 2^31.
abbrev pub small_of : {E : Type 0} → Result ℕ E → Option ℕ
small_of (Ok n) = if nat_lt n (2 ^ 31) then Some n else None
small_of (Err e) = None

small_unread : (ds : List ℕ) (b : Bool) → nat_lt (digits_value 10 ds) (2 ^ 31) ≡ b → (((0 < length ds) × (digits_value 10 ds < 2 ^ 32)) → ⊥) → 0 < length ds → None ≡ (if b then Some (digits_value 10 ds) else None)
small_unread ds true is isnt some =
    let small : digits_value 10 ds < 2 ^ 31 = grind (arith, nat_tests, is) in
    absurd (isnt (some, omega (arith, small)))
small_unread ds false is isnt some = refl

pub small_read : {E : Type 0} (ds : List ℕ) (r : Result ℕ E) → ParsesUnsigned 32 10 ds r → are_digits ds ≡ true → small_of r ≡ small_number ds
small_read {E} ds (Ok n) h test = ap (λ (m : ℕ). if nat_lt m (2 ^ 31) then Some m else None) (parsed {E = E} ds (Ok n) h test).1
small_read {E} ds (Err e) h test = small_unread ds (nat_lt (digits_value 10 ds) (2 ^ 31)) refl (parsed {E = E} ds (Err e) h test) (shown ds test).0
