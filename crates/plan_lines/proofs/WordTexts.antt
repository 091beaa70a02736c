-- Words and their values.
use Rattle.std.proofs.Common.{◌≡◌, ℕ, zero, suc, ◌^◌, ◌<◌, ◌≤◌, Bool, true, false, cond, nat_lt, nat_le, List, [], ◌∷◌, length, refl, ap, sym, ◌∙◌, subst, arith, Option, None, Some, Result, Ok, Err}
use Rattle.std.specs.Prelude.{◌==◌, ◌&&◌, option_and_then, codes}
use Rattle.std.specs.Fmt.{decimal}
use Rattle.std.specs.List.{AllPass}
use Rattle.std.specs.Result.{result_ok}
use Rattle.std.specs.Str.{bytes_eq}
use Rattle.std.specs.Str.Parse.{digits_value, AllDigits, ParsesUnsigned}
use Rattle.std.proofs.lemmas.Fmt.{decimal_is_IsNumeral}
use Rattle.std.proofs.lemmas.Str.Parse.{digit_from_value, numerals_by_value, parse_gives, tells_digits}
use Rattle.std.proofs.lemmas.Bool.Decides.{nat_tests}
use Rattle.std.proofs.lemmas.List.Elements.{All-from_get_or, All-head, All-nil, All-tail}
use Rattle.std.proofs.lemmas.Slice.Eq.{bytes_eq-Decides}
use Rattle.hex.proofs.HexLemmas.{decode_of-encode_lower, decode_of-ok, length-encode_with}
use Rattle.hex.specs.Hex.{IsBytes, decode_of, encode_lower, is_hex_digit, lower_digits}
use Rattle.hex.specs.declared.error.FromHexError.{FromHexError}
use Rattle.plan_lines.proofs.Written.{hex_word-some}
use Rattle.plan_lines.specs.Words.{AreBytes, hex_word}
use Rattle.plan_lines.specs.WordReading.{hex_of, is_hex_of, is_number_upto, number_upto}

-- The bytes contain neither a space nor a line feed.
abbrev pub IsPlain : List ℕ → Type 0
IsPlain [] = Unit {0}
IsPlain (b ∷ bs) = (32 < b) × IsPlain bs

pub guard_some : {A : Type 0} (b : Bool) (r : Option A) (y : A) → cond b r None ≡ Some y → (b ≡ true) × (r ≡ Some y)
guard_some true r y h = (refl, h)
guard_some false r y h = cc

pub guard_none : {A : Type 0} (b : Bool) (r : Option A) (y : A) → cond b None r ≡ Some y → (b ≡ false) × (r ≡ Some y)
guard_none false r y h = (refl, h)
guard_none true r y h = cc

pub bind_some : {A B : Type 0} (f : A → Option B) (r : Option A) (y : B) → option_and_then f r ≡ Some y → (x : A) × (r ≡ Some x) × (f x ≡ Some y)
bind_some f None y h = cc
bind_some f (Some x) y h = (x, refl, h)

pub both_true : (a b : Bool) → (a && b) ≡ true → (a ≡ true) × (b ≡ true)
both_true true true h = (refl, refl)
both_true true false h = cc
both_true false b h = cc

pub le_is : (m n : ℕ) → nat_le m n ≡ true → m ≤ n
le_is m n h = grind (arith, nat_tests)

lt_is : (m n : ℕ) → nat_lt m n ≡ true → m < n
lt_is m n h = grind (arith, nat_tests)

lt_true : (m n : ℕ) → m < n → nat_lt m n ≡ true
lt_true m n h = grind (arith, nat_tests)

pub le_true : (m n : ℕ) → m ≤ n → nat_le m n ≡ true
le_true m n h = grind (arith, nat_tests)

pub eq_is : (m n : ℕ) → (m == n) ≡ true → m ≡ n
eq_is m n h = grind (arith, nat_tests)

pub eq_less : (m n : ℕ) → m < n → (m == n) ≡ false
eq_less m n h = grind (arith, nat_tests)

pub eq_more : (m n : ℕ) → n < m → (m == n) ≡ false
eq_more m n h = grind (arith, nat_tests)

pub not_space : (x : ℕ) → 32 < x → (x == 32) ≡ false
not_space x h = grind (arith, nat_tests)

pub bytes_are : (w v : List ℕ) → bytes_eq w v ≡ true → w ≡ v
bytes_are w v h = grind (arith, bytes_eq-Decides)

bytes_same : (w v : List ℕ) → w ≡ v → bytes_eq w v ≡ true
bytes_same w v h = grind (arith, bytes_eq-Decides)

-- Decimal numbers.

-- A number whose digits a word has is the value of the digits.
pub number_is : (max : ℕ) → max < 2 ^ 64 → (word : List ℕ) (n : ℕ) → is_number_upto max word n ≡ true → (n ≤ max) × (word ≡ decimal n) × (digits_value 10 word ≡ n)
number_is max few word n h =
    let p = both_true (nat_le n max) (bytes_eq (decimal n) word) h in
    let within = le_is n max p.0 in
    let is = sym (bytes_are (decimal n) word p.1) in
    (within, is, ap (digits_value 10) is ∙ (decimal_is_IsNumeral n (omega arith)).1)

pub number_found : (max : ℕ) → max < 2 ^ 64 → (word : List ℕ) (n : ℕ) → is_number_upto max word n ≡ true → number_upto max word ≡ Some n
number_found max few word n h = rw ((number_is max few word n h).2, h) refl

pub no_number : (max : ℕ) → (word : List ℕ) → ((n : ℕ) → is_number_upto max word n ≡ true → ⊥) → number_upto max word ≡ None
no_number max word none = by_test (is_number_upto max word (digits_value 10 word)) refl
  where
    by_test : (b : Bool) → is_number_upto max word (digits_value 10 word) ≡ b → number_upto max word ≡ None
    by_test true e = absurd (none (digits_value 10 word) e)
    by_test false e = rw e refl

-- The parser of numbers reads the digits of a number.
pub parsed_again : {E : Type 0} (text : List ℕ) (r : Result ℕ E) (n : ℕ) → ParsesUnsigned 64 10 text r → n < 2 ^ 64 → text ≡ decimal n → result_ok r ≡ Some n
parsed_again text r n p few is =
    let d = decimal_is_IsNumeral n few in
    let value : digits_value 10 text ≡ n = ap (digits_value 10) is ∙ d.1 in
    ap result_ok (parse_gives (numerals_by_value (AllDigits 10) tells_digits) 64 text r p (subst (AllDigits 10) (sym is) d.0.1) (subst (λ w. 0 < length w) (sym is) d.0.0) (omega (arith, value, few)))
    ∙ ap Some value

-- A word that is read as a number has the number's digits.
pub number_upto_is : (max : ℕ) → max < 2 ^ 64 → (w : List ℕ) (n : ℕ) → number_upto max w ≡ Some n → (w ≡ decimal n) × (n ≤ max)
number_upto_is max few w n h =
    let g = guard_some (is_number_upto max w (digits_value 10 w)) (Some (digits_value 10 w)) n h in
    let e : digits_value 10 w ≡ n = cc (g.1) in
    let k = number_is max few w n (subst (λ m. is_number_upto max w m ≡ true) e g.0) in
    (k.1, k.0)

-- The digits of a number are read as the number.
pub number_upto_decimal : (max : ℕ) → max < 2 ^ 64 → (n : ℕ) → n ≤ max → number_upto max (decimal n) ≡ Some n
number_upto_decimal max few n h =
    number_found max few (decimal n) n (rw (le_true n max h, bytes_same (decimal n) (decimal n) refl) refl)

plain_all : (w : List ℕ) → AllDigits 10 w → IsPlain w
plain_all [] a = tt
plain_all (b ∷ bs) a = let r = digit_from_value b a.0 in let low : 48 ≤ b = r.0 in (omega arith, plain_all bs a.1)

pub plain_decimal : (n : ℕ) → n < 2 ^ 64 → IsPlain (decimal n)
plain_decimal n h = plain_all (decimal n) (decimal_is_IsNumeral n h).0.1

-- A number begins with a digit.
pub first_digit : (n : ℕ) → n < 2 ^ 64 → (b : ℕ) × (bs : List ℕ) × (decimal n ≡ b ∷ bs) × (48 ≤ b) × (b ≤ 57)
first_digit n h = let d = decimal_is_IsNumeral n h in from (decimal n) d.0.0 d.0.1
  where
    from : (w : List ℕ) → 0 < length w → AllDigits 10 w → (b : ℕ) × (bs : List ℕ) × (w ≡ b ∷ bs) × (48 ≤ b) × (b ≤ 57)
    from [] z a = absurd (omega arith)
    from (b ∷ bs) z a = let r = digit_from_value b a.0 in (b, bs, refl, r.0, r.1)

-- Hexadecimal digits.

-- Two words with different first bytes.
pub not_same : (w v : List ℕ) (x y : ℕ) (xs ys : List ℕ) → w ≡ x ∷ xs → v ≡ y ∷ ys → (x == y) ≡ false → bytes_eq w v ≡ false
not_same w v x y xs ys e f h = ap (λ z. bytes_eq z v) e ∙ (ap (bytes_eq (x ∷ xs)) f ∙ rw h refl)

-- A digit lies between the dash and `n`.
digit_between : (c : ℕ) → is_hex_digit c ≡ true → (45 < c) × (c < 110)
digit_between c h = (grind arith, grind arith)

bytes_within : (v : List ℕ) → AreBytes v → IsBytes v
bytes_within [] a i = omega arith
bytes_within (x ∷ xs) a zero = All-head (λ b. b < 256) x xs a
bytes_within (x ∷ xs) a (suc i) = bytes_within xs (All-tail (λ b. b < 256) x xs a) i

digits_pass : (v : List ℕ) → AreBytes v → AllPass is_hex_digit (encode_lower v)
digits_pass v a = (decode_of-ok (encode_lower v) v (decode_of-encode_lower v (bytes_within v a))).1

digits_first : (w : List ℕ) → AllPass is_hex_digit w → 0 < length w → (b : ℕ) × (bs : List ℕ) × (w ≡ b ∷ bs) × (45 < b) × (b < 110)
digits_first [] all some = absurd (omega (arith, some))
digits_first (b ∷ bs) all some =
    let d = digit_between b (All-head (λ c. is_hex_digit c ≡ true) b bs all) in (b, bs, refl, d.0, d.1)

bytes_first : (x : ℕ) (xs : List ℕ) → AreBytes (x ∷ xs) → (b : ℕ) × (bs : List ℕ) × (encode_lower (x ∷ xs) ≡ b ∷ bs) × (45 < b) × (b < 110)
bytes_first x xs a =
    digits_first (encode_lower (x ∷ xs)) (digits_pass (x ∷ xs) a) (omega (arith, length-encode_with lower_digits (x ∷ xs)))

-- The first byte of the word of some bytes.
pub hex_first : (v : List ℕ) → AreBytes v → (b : ℕ) × (bs : List ℕ) × (hex_word v ≡ b ∷ bs) × (b < 110)
hex_first [] a = (45, [], refl, omega arith)
hex_first (x ∷ xs) a = let f = bytes_first x xs a in (f.0, f.1, f.2, f.4)

ok_is : (r : Result (List ℕ) FromHexError) (bytes : List ℕ) → result_ok r ≡ Some bytes → r ≡ Ok bytes
ok_is (Ok read) bytes h = cc
ok_is (Err e) bytes h = cc

pub hex_of_is : (w v : List ℕ) → hex_of w ≡ Some v → (w ≡ hex_word v) × AreBytes v
hex_of_is w v h = by_test (bytes_eq w (codes "-")) refl h
  where
    by_test : (b : Bool) → bytes_eq w (codes "-") ≡ b → cond b (Some []) (option_and_then (λ bytes. cond (is_hex_of w bytes) (Some bytes) None) (result_ok (decode_of w))) ≡ Some v → (w ≡ hex_word v) × AreBytes v
    by_test true e h =
        let none : [] ≡ v = cc (h) in
        (bytes_are w (codes "-") e ∙ ap hex_word none, subst AreBytes none (All-nil (λ b. b < 256)))
    by_test false e h =
        let p = bind_some (λ bytes. cond (is_hex_of w bytes) (Some bytes) None) (result_ok (decode_of w)) v h in
        let g = guard_some (is_hex_of w p.0) (Some p.0) v p.2 in
        let same : p.0 ≡ v = cc (g.1) in
        let t = both_true (nat_lt 0 (length p.0)) (bytes_eq (encode_lower p.0) w) g.0 in
        let read = decode_of-ok w p.0 (ok_is (decode_of w) p.0 p.1) in
        let P : List ℕ → Type 0 = λ u. (w ≡ hex_word u) × AreBytes u in
        subst P same
        (sym (bytes_are (encode_lower p.0) w t.1) ∙ sym (hex_word-some p.0 (lt_is 0 (length p.0) t.0)), All-from_get_or (λ b. b < 256) p.0 0 (λ i h. read.3 i))

pub hex_of_hex : (v : List ℕ) → AreBytes v → hex_of (hex_word v) ≡ Some v
hex_of_hex [] a = refl
hex_of_hex (x ∷ xs) a =
    let w = encode_lower (x ∷ xs) in
    let f = bytes_first x xs a in
    rw (not_same w (codes "-") f.0 45 f.1 [] f.2 refl (eq_more f.0 45 f.3))
    (ap (λ r. option_and_then (λ bytes. cond (is_hex_of w bytes) (Some bytes) None) (result_ok r)) (decode_of-encode_lower (x ∷ xs) (bytes_within (x ∷ xs) a))
    ∙ rw (lt_true 0 (length (x ∷ xs)) (omega arith), bytes_same w w refl) refl)

plain_digits : (w : List ℕ) → AllPass is_hex_digit w → IsPlain w
plain_digits [] all = tt
plain_digits (b ∷ bs) all =
    let digit = (digit_between b (All-head (λ c. is_hex_digit c ≡ true) b bs all)).0 in
    (omega (arith, digit), plain_digits bs (All-tail (λ c. is_hex_digit c ≡ true) b bs all))

pub plain_hex : (v : List ℕ) → AreBytes v → IsPlain (hex_word v)
plain_hex [] a = (omega arith, tt)
plain_hex (x ∷ xs) a = plain_digits (encode_lower (x ∷ xs)) (digits_pass (x ∷ xs) a)
