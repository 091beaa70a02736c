-- The numbers of an access string, and the pieces between its colons.
use Rattle.std.proofs.Common.{◌≡◌, ℕ, ◌<◌, ◌^◌, Bool, true, false, List, [], ◌∷◌, ◌++◌, length, append_assoc, None, Some, Ok, Err, Option, Result, refl, sym, ap, ◌∙◌, arith, lit<, Bor}
use Rattle.std.proofs.lemmas.Bool.Decides.{nat_tests}
use Rattle.std.proofs.lemmas.List.Sums.{fails_before_first}
use Rattle.std.proofs.lemmas.Str.Pattern.{IsSplitOnceResult, split_once_first}
use Rattle.std.proofs.lemmas.List.Splits.{slice_split_first, slice_split_none}
use Rattle.std.proofs.lemmas.Str.Parse.{IsNumeralModel, numerals_by_value, tells_all_ascii_digits}
use Rattle.std.specs.Prelude.{◌==◌, ◌&&◌, nat_lt, All, if◌then◌else◌}
use Rattle.std.specs.List.{after_first, before_first, position_or_len}
use Rattle.std.specs.Option.{option_map}
use Rattle.std.specs.Result.{result_ok}
use Rattle.std.specs.Str.{all_ascii_digits}
use Rattle.std.specs.Str.Parse.{IsNumeral, ParsesUnsigned, digits_value, without_leading_plus}
use Rattle.core_spec.specs.AccessStrings.{is_number, number_in, numbers_in, pieces}

own : IsNumeralModel (λ ds. all_ascii_digits ds ≡ true) (digits_value 10)
own = numerals_by_value _ tells_all_ascii_digits

three : (a b c : Bool) → (a && b && c) ≡ true → (a ≡ true) × (b ≡ true) × (c ≡ true)
three true true true h = (refl, refl, refl)
three true true false h = absurd cc
three true false c h = absurd cc
three false b c h = absurd cc

tested : (ds : List ℕ) → IsNumeral 10 ds → digits_value 10 ds < 2 ^ 64 → is_number ds ≡ true
tested ds numeral fits =
    let some : nat_lt 0 (length ds) ≡ true = grind (arith, nat_tests, numeral.0) in
    let digits : all_ascii_digits ds ≡ true = own.from ds numeral.1 in
    let small : nat_lt (digits_value 10 ds) (2 ^ 64) ≡ true = grind (arith, nat_tests) in
    rw (some, digits, small) refl

shown : (ds : List ℕ) → is_number ds ≡ true → IsNumeral 10 ds × (digits_value 10 ds < 2 ^ 64)
shown ds test =
    let parts = three (nat_lt 0 (length ds)) (all_ascii_digits ds) (nat_lt (digits_value 10 ds) (2 ^ 64)) test in
    let some : 0 < length ds = grind (arith, nat_tests, parts.0) in
    let small : digits_value 10 ds < 2 ^ 64 = grind (arith, nat_tests, parts.2) in
    ((some, own.to ds parts.1), small)

refused : (ds : List ℕ) (n : ℕ) (test : Bool) (isnt : IsNumeral 10 ds × (digits_value 10 ds < 2 ^ 64) → ⊥) → is_number ds ≡ test → None ≡ (if test then Some n else None)
refused ds n true isnt is = absurd (isnt (shown ds is))
refused ds n false isnt is = refl

pub parsed_number : {E : Type 0} (bs : List ℕ) (r : Result ℕ E) → ParsesUnsigned 64 10 bs r → result_ok r ≡ number_in bs
parsed_number bs (Ok n) h =
    let test = tested (without_leading_plus bs) h.0.0 h.0.1 in
    rw test (ap (λ (m : ℕ). Some m) h.1)
parsed_number bs (Err e) h = refused (without_leading_plus bs) (digits_value 10 (without_leading_plus bs)) (is_number (without_leading_plus bs)) h refl

no_colon : (bs : List ℕ) → position_or_len (λ b. b == 58) bs ≡ length bs → All (λ b. (b == 58) ≡ false) bs
no_colon bs e = λ k d lt. fails_before_first (λ b. b == 58) bs k d (omega arith)

pub one_piece : (bs : List ℕ) → position_or_len (λ b. b == 58) bs ≡ length bs → pieces bs ≡ bs ∷ []
one_piece bs e = slice_split_none (λ b. b == 58) bs (no_colon bs e)

pub more_pieces : (bs front more : List ℕ) → position_or_len (λ b. b == 58) bs < length bs → front ≡ before_first (λ b. b == 58) bs → more ≡ after_first (λ b. b == 58) bs → pieces bs ≡ front ∷ pieces more
more_pieces bs front more lt f m = rw (f, m) (slice_split_first (λ b. b == 58) bs 0 lt)

-- The numbers that were read, followed by the numbers of the remaining pieces.
abbrev pub all_numbers : List ℕ → List (List ℕ) → Option (List ℕ)
all_numbers done left = option_map (λ (ns : List ℕ). done ++ ns) (numbers_in left)

pub no_number : (done bs front : List ℕ) (left : List (List ℕ)) (all : Option (List ℕ)) → all_numbers done (pieces bs) ≡ all → pieces bs ≡ front ∷ left → number_in front ≡ None → all ≡ None
no_number done bs front left all e split none = sym e ∙ rw (split, none) refl

appended : (done : List ℕ) (n : ℕ) (left : Option (List ℕ)) → option_map (λ (ns : List ℕ). (done ++ n ∷ []) ++ ns) left ≡ option_map (λ (ns : List ℕ). done ++ ns) (option_map (λ ns. n ∷ ns) left)
appended done n None = refl
appended done n (Some ns) = ap (λ (xs : List ℕ). Some xs) (append_assoc done (n ∷ []) ns)

pub one_number : (done bs front : List ℕ) (n : ℕ) (left : List (List ℕ)) (all : Option (List ℕ)) → all_numbers done (pieces bs) ≡ all → pieces bs ≡ front ∷ left → number_in front ≡ Some n → all_numbers (done ++ n ∷ []) left ≡ all
one_number done bs front n left all e split some = appended done n (numbers_in left) ∙ ((rw (split, some) refl) ∙ e)

pub last_number : (done bs : List ℕ) (n : ℕ) (all : Option (List ℕ)) → all_numbers done (pieces bs) ≡ all → pieces bs ≡ bs ∷ [] → number_in bs ≡ Some n → all ≡ Some (done ++ n ∷ [])
last_number done bs n all e whole some = sym e ∙ rw (whole, some) refl

pub cut_pieces : (bs : List ℕ) (x : Bor (List ℕ) × Bor (List ℕ)) → IsSplitOnceResult 58 bs (Some x) → pieces bs ≡ x.0.now ∷ pieces x.1.now
cut_pieces bs x h =
    let cut = split_once_first 58 bs (Some x) h (lit< tt) in
    more_pieces bs x.0.now x.1.now cut.0 cut.1 cut.2

pub whole_piece : (bs : List ℕ) → IsSplitOnceResult 58 bs None → pieces bs ≡ bs ∷ []
whole_piece bs h = one_piece bs (split_once_first 58 bs None h (lit< tt))
