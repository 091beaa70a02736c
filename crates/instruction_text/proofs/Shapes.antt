-- The shape of a text: the text without the numbers of its fields.
use Rattle.std.proofs.Common.{◌≡◌, ℕ, suc, ◌+◌, ◌/◌, ◌%◌, ◌^◌, ◌<◌, ◌≤◌, Bool, true, false, cond, not, List, [], ◌∷◌, ◌++◌, Some, refl, ap, ◌∙◌, append_assoc, arith, ℤ, pos, negsuc}
use Rattle.std.specs.Prelude.{◌==◌, ◌&&◌, ◌||◌, nat_lt, FitsSigned, encode_utf8, option_and_then}
use Rattle.std.specs.Int.{w64}
use Rattle.std.specs.Fmt.{decimal}
use Rattle.std.proofs.lemmas.Fmt.{decimal_by_steps}
use Rattle.std.proofs.lemmas.Bool.Decides.{nat_tests}
use Rattle.std.proofs.lemmas.Str.{encode_ascii}
use Rattle.instruction_text.specs.declared.parts.Parts.{Parts}
use Rattle.instruction_text.specs.declared.parts.Field.{Field}
use Rattle.instruction_text.specs.declared.piece.Piece.{Piece}
use Rattle.instruction_text.specs.declared.piece.Piece.TheVariants.{Mark, Number}
use Rattle.instruction_text.specs.declared.piece.Style.{Style}
use Rattle.instruction_text.specs.declared.piece.Style.TheVariants.{Plain, Signed, Spaced}
use Rattle.instruction_text.specs.Fields.{copied, number_in, with_bits}
use Rattle.instruction_text.specs.Reading.{Scan, is_digit, is_sign, read_mark, read_pieces, state}
use Rattle.instruction_text.specs.Texts.{filled, rendered, shown_number}
use Rattle.instruction_text.proofs.Numbers.{Begins, IsParts, bits_copied, decimal_begins, digit_is, not_negative, number_fits, number_read, stops}

-- Whether a number of a field may follow a character.
abbrev pub introduces : ℕ → Bool
introduces c = (c == 114) || (c == 119) || (c == 32) || (c == 35) || (c == 91)

-- Whether a sign before this text belongs to a number.
abbrev pub opens : List ℕ → Bool
opens [] = false
opens (c ∷ cs) = is_digit c || (c == 32)

abbrev pub shape : Bool → List ℕ → List ℕ
shape flag [] = []
shape flag (c ∷ cs) =
    cond (is_digit c) (cond flag (shape flag cs) (c ∷ shape flag cs))
    (cond (is_sign c && opens cs) (shape true cs) (c ∷ shape (introduces c) cs))

-- The shape of the letters of a form's text.
abbrev pub shape_of : Bool → List Piece → List ℕ
shape_of flag [] = []
shape_of flag (Mark c ∷ ps) =
    cond (is_digit c) (cond flag (shape_of flag ps) (c ∷ shape_of flag ps)) (c ∷ shape_of (introduces c) ps)
shape_of flag (Number field Plain ∷ ps) = shape_of true ps
shape_of flag (Number field Signed ∷ ps) = shape_of true ps
shape_of flag (Number field Spaced ∷ ps) = 32 ∷ shape_of true ps

abbrev pub pieces_open : List Piece → Bool
pieces_open [] = false
pieces_open (Mark c ∷ ps) = is_digit c || (c == 32)
pieces_open (Number field Plain ∷ ps) = true
pieces_open (Number field Signed ∷ ps) = false
pieces_open (Number field Spaced ∷ ps) = false

abbrev pub pieces_stop : List Piece → Bool
pieces_stop [] = true
pieces_stop (Mark c ∷ ps) = not (is_digit c)
pieces_stop (Number field Plain ∷ ps) = false
pieces_stop (Number field Signed ∷ ps) = true
pieces_stop (Number field Spaced ∷ ps) = true

-- Whether the shape of the letters separates numbers of fields from other digits.
abbrev pub is_regular : Bool → List Piece → Bool
is_regular flag [] = true
is_regular flag (Mark c ∷ ps) =
    nat_lt c 128 && not (is_sign c && pieces_open ps) && is_regular (cond (is_digit c) flag (introduces c)) ps
is_regular flag (Number field Plain ∷ ps) = flag && pieces_stop ps && is_regular true ps
is_regular flag (Number field Signed ∷ ps) = pieces_stop ps && is_regular true ps
is_regular flag (Number field Spaced ∷ ps) = pieces_stop ps && is_regular true ps

-- Tests.

pub both : (a b : Bool) → (a && b) ≡ true → (a ≡ true) × (b ≡ true)
both true true h = (refl, refl)
both true false h = cc
both false b h = cc

pub three : (a b c : Bool) → (a && b && c) ≡ true → (a ≡ true) × (b ≡ true) × (c ≡ true)
three true true true h = (refl, refl, refl)
three true true false h = cc
three true false c h = cc
three false b c h = cc

not_is : (b : Bool) → not b ≡ true → b ≡ false
not_is true h = cc
not_is false h = refl

pub less_is : (m n : ℕ) → nat_lt m n ≡ true → m < n
less_is m n h = grind (arith, nat_tests)

pub ascii : (c : ℕ) (rest : List ℕ) → nat_lt c 128 ≡ true → encode_utf8 c ++ rest ≡ c ∷ rest
ascii c rest h = ap (λ cs. cs ++ rest) (encode_ascii c (less_is c 128 h))

-- Numbers.

digit_dropped : (d : ℕ) (rest : List ℕ) → d < 10 → shape true ((48 + d) ∷ rest) ≡ shape true rest
digit_dropped d rest h = rw (digit_is d h) refl

abbrev AreDropped : ℕ → List ℕ → Type 0
AreDropped n ds = (rest : List ℕ) → shape true (ds ++ rest) ≡ shape true rest

digits_dropped : (n : ℕ) (rest : List ℕ) → n < 2 ^ 64 → shape true (decimal n ++ rest) ≡ shape true rest
digits_dropped n rest small = decimal_by_steps AreDropped one more n small rest
  where
    one : (n : ℕ) → n < 10 → AreDropped n ((48 + n) ∷ [])
    one n h rest = digit_dropped n rest h

    more : (n : ℕ) (ds : List ℕ) → 10 ≤ n → AreDropped (n / 10) ds → AreDropped n (ds ++ ((48 + n % 10) ∷ []))
    more n ds low ih rest =
        ap (shape true) (append_assoc ds ((48 + n % 10) ∷ []) rest)
        ∙ ih ((48 + n % 10) ∷ rest)
        ∙ digit_dropped (n % 10) rest (omega arith)

opened : (ds rest : List ℕ) → Begins ds → opens (ds ++ rest) ≡ true
opened [] rest h = absurd h
opened (d ∷ ds) rest h = rw h refl

sign_dropped : (flag : Bool) (n : ℕ) (rest : List ℕ) (s : ℕ) → is_digit s ≡ false → is_sign s ≡ true → n < 2 ^ 64 → shape flag (s ∷ decimal n ++ rest) ≡ shape true rest
sign_dropped flag n rest s d i small =
    rw (d, i, opened (decimal n) rest (decimal_begins n small)) (digits_dropped n rest small)

spaced_dropped : (flag : Bool) (n : ℕ) (rest : List ℕ) (s : ℕ) → is_digit s ≡ false → is_sign s ≡ true → n < 2 ^ 64 → shape flag (s ∷ 32 ∷ decimal n ++ rest) ≡ 32 ∷ shape true rest
spaced_dropped flag n rest s d i small = rw (d, i) (ap (λ cs. 32 ∷ cs) (digits_dropped n rest small))

-- The shape of a number, which keeps only its style.
abbrev pub number_shape : Style → List ℕ → List ℕ
number_shape Plain cs = cs
number_shape Signed cs = cs
number_shape Spaced cs = 32 ∷ cs

plain_shape : (z : ℤ) (rest : List ℕ) → FitsSigned w64 z → shape true (shown_number Plain z ++ rest) ≡ shape true rest
plain_shape (pos n) rest fits = rw (not_negative n) (digits_dropped n rest (omega (arith, fits.sfits)))
plain_shape (negsuc n) rest fits = sign_dropped true (suc n) rest 45 refl refl (omega (arith, fits.sfits))

signed_shape : (flag : Bool) (z : ℤ) (rest : List ℕ) → FitsSigned w64 z → shape flag (shown_number Signed z ++ rest) ≡ shape true rest
signed_shape flag (pos n) rest fits = rw (not_negative n) (sign_dropped flag n rest 43 refl refl (omega (arith, fits.sfits)))
signed_shape flag (negsuc n) rest fits = sign_dropped flag (suc n) rest 45 refl refl (omega (arith, fits.sfits))

spaced_shape : (flag : Bool) (z : ℤ) (rest : List ℕ) → FitsSigned w64 z → shape flag (shown_number Spaced z ++ rest) ≡ 32 ∷ shape true rest
spaced_shape flag (pos n) rest fits = rw (not_negative n) (spaced_dropped flag n rest 43 refl refl (omega (arith, fits.sfits)))
spaced_shape flag (negsuc n) rest fits = spaced_dropped flag (suc n) rest 45 refl refl (omega (arith, fits.sfits))

-- Forms.

signed_stops : (z : ℤ) (rest : List ℕ) → stops (shown_number Signed z ++ rest) ≡ true
signed_stops (pos n) rest = rw (not_negative n) refl
signed_stops (negsuc n) rest = refl

spaced_stops : (z : ℤ) (rest : List ℕ) → stops (shown_number Spaced z ++ rest) ≡ true
spaced_stops (pos n) rest = rw (not_negative n) refl
spaced_stops (negsuc n) rest = refl

signed_closed : (z : ℤ) (rest : List ℕ) → opens (shown_number Signed z ++ rest) ≡ false
signed_closed (pos n) rest = rw (not_negative n) refl
signed_closed (negsuc n) rest = refl

spaced_closed : (z : ℤ) (rest : List ℕ) → opens (shown_number Spaced z ++ rest) ≡ false
spaced_closed (pos n) rest = rw (not_negative n) refl
spaced_closed (negsuc n) rest = refl

pub text_stops : (flag : Bool) (ps : List Piece) (p : Parts) → is_regular flag ps ≡ true → pieces_stop ps ≡ true → stops (rendered ps p) ≡ true
text_stops flag [] p r h = refl
text_stops flag (Mark c ∷ ps) p r h =
    ap stops (ascii c (rendered ps p) (three (nat_lt c 128) (not (is_sign c && pieces_open ps)) (is_regular (cond (is_digit c) flag (introduces c)) ps) r).0) ∙ h
text_stops flag (Number field Plain ∷ ps) p r h = cc
text_stops flag (Number field Signed ∷ ps) p r h = signed_stops (number_in field p) (rendered ps p)
text_stops flag (Number field Spaced ∷ ps) p r h = spaced_stops (number_in field p) (rendered ps p)

text_closed : (flag : Bool) (ps : List Piece) (p : Parts) → is_regular flag ps ≡ true → pieces_open ps ≡ false → opens (rendered ps p) ≡ false
text_closed flag [] p r h = refl
text_closed flag (Mark c ∷ ps) p r h =
    ap opens (ascii c (rendered ps p) (three (nat_lt c 128) (not (is_sign c && pieces_open ps)) (is_regular (cond (is_digit c) flag (introduces c)) ps) r).0) ∙ h
text_closed flag (Number field Plain ∷ ps) p r h = cc
text_closed flag (Number field Signed ∷ ps) p r h = signed_closed (number_in field p) (rendered ps p)
text_closed flag (Number field Spaced ∷ ps) p r h = spaced_closed (number_in field p) (rendered ps p)

-- A letter that stands for itself.
mark_shape : (flag : Bool) (c : ℕ) (ps : List Piece) (rest : List ℕ) → not (is_sign c && pieces_open ps) ≡ true → (pieces_open ps ≡ false → opens rest ≡ false) → shape (cond (is_digit c) flag (introduces c)) rest ≡ shape_of (cond (is_digit c) flag (introduces c)) ps → shape flag (c ∷ rest) ≡ shape_of flag (Mark c ∷ ps)
mark_shape flag c ps rest kept closed ih = by_digit (is_digit c) (is_sign c) (pieces_open ps) flag kept closed ih
  where
    by_digit : (d s o f : Bool) → not (s && o) ≡ true → (o ≡ false → opens rest ≡ false) → shape (cond d f (introduces c)) rest ≡ shape_of (cond d f (introduces c)) ps → cond d (cond f (shape f rest) (c ∷ shape f rest)) (cond (s && opens rest) (shape true rest) (c ∷ shape (introduces c) rest)) ≡ cond d (cond f (shape_of f ps) (c ∷ shape_of f ps)) (c ∷ shape_of (introduces c) ps)
    by_digit true s o true kept closed ih = ih
    by_digit true s o false kept closed ih = ap (λ cs. c ∷ cs) ih
    by_digit false true true f kept closed ih = cc
    by_digit false true false f kept closed ih = rw (closed refl) (ap (λ cs. c ∷ cs) ih)
    by_digit false false o f kept closed ih = ap (λ cs. c ∷ cs) ih

number_then : (field : Field) (style : Style) (ps : List Piece) (p q : Parts) → IsParts p → stops (rendered ps p) ≡ true → ((q : Parts) → read_pieces ps (state (rendered ps p) q) ≡ Some (filled ps p q)) → read_pieces (Number field style ∷ ps) (state (shown_number style (number_in field p) ++ rendered ps p) q) ≡ Some (filled (Number field style ∷ ps) p q)
number_then field style ps p q fits stop ih =
    ap (λ (scan : Scan). read_pieces ps (state scan.rest (with_bits field scan.bits q))) (number_read style (number_in field p) (rendered ps p) (number_fits field p fits) stop)
    ∙ ap (λ parts. read_pieces ps (state (rendered ps p) parts)) (bits_copied field p q fits)
    ∙ ih (copied field p q)

-- The text of a form has the form's shape.
pub text_shape : (flag : Bool) (ps : List Piece) (p : Parts) → IsParts p → is_regular flag ps ≡ true → shape flag (rendered ps p) ≡ shape_of flag ps
text_shape flag [] p fits r = refl
text_shape flag (Mark c ∷ ps) p fits r =
    let t = three (nat_lt c 128) (not (is_sign c && pieces_open ps)) (is_regular (cond (is_digit c) flag (introduces c)) ps) r in
    ap (shape flag) (ascii c (rendered ps p) t.0)
    ∙ mark_shape flag c ps (rendered ps p) t.1 (text_closed (cond (is_digit c) flag (introduces c)) ps p t.2) (text_shape (cond (is_digit c) flag (introduces c)) ps p fits t.2)
text_shape flag (Number field Plain ∷ ps) p fits r =
    let t = three flag (pieces_stop ps) (is_regular true ps) r in
    ap (λ f. shape f (shown_number Plain (number_in field p) ++ rendered ps p)) t.0
    ∙ plain_shape (number_in field p) (rendered ps p) (number_fits field p fits)
    ∙ text_shape true ps p fits t.2
text_shape flag (Number field Signed ∷ ps) p fits r =
    let t = both (pieces_stop ps) (is_regular true ps) r in
    signed_shape flag (number_in field p) (rendered ps p) (number_fits field p fits) ∙ text_shape true ps p fits t.1
text_shape flag (Number field Spaced ∷ ps) p fits r =
    let t = both (pieces_stop ps) (is_regular true ps) r in
    spaced_shape flag (number_in field p) (rendered ps p) (number_fits field p fits)
    ∙ ap (λ cs. 32 ∷ cs) (text_shape true ps p fits t.1)

-- Reading.

mark_read : (c : ℕ) (rest : List ℕ) (p : Parts) → read_mark c (c ∷ rest) p ≡ Some (state rest p)
mark_read c rest p = rw (same c) refl
  where
    same : (c : ℕ) → (c == c) ≡ true
    same c = grind (arith, nat_tests)

-- The fields that a text names are read from the text of a form.
pub text_read : (flag : Bool) (ps : List Piece) (p q : Parts) → IsParts p → is_regular flag ps ≡ true → read_pieces ps (state (rendered ps p) q) ≡ Some (filled ps p q)
text_read flag [] p q fits r = refl
text_read flag (Mark c ∷ ps) p q fits r =
    let t = three (nat_lt c 128) (not (is_sign c && pieces_open ps)) (is_regular (cond (is_digit c) flag (introduces c)) ps) r in
    ap (λ text. option_and_then (read_pieces ps) (read_mark c text q)) (ascii c (rendered ps p) t.0)
    ∙ ap (option_and_then (read_pieces ps)) (mark_read c (rendered ps p) q)
    ∙ text_read (cond (is_digit c) flag (introduces c)) ps p q fits t.2
text_read flag (Number field Plain ∷ ps) p q fits r =
    let t = three flag (pieces_stop ps) (is_regular true ps) r in
    number_then field Plain ps p q fits (text_stops true ps p t.2 t.1) (λ q. text_read true ps p q fits t.2)
text_read flag (Number field Signed ∷ ps) p q fits r =
    let t = both (pieces_stop ps) (is_regular true ps) r in
    number_then field Signed ps p q fits (text_stops true ps p t.1 t.0) (λ q. text_read true ps p q fits t.1)
text_read flag (Number field Spaced ∷ ps) p q fits r =
    let t = both (pieces_stop ps) (is_regular true ps) r in
    number_then field Spaced ps p q fits (text_stops true ps p t.1 t.0) (λ q. text_read true ps p q fits t.1)
