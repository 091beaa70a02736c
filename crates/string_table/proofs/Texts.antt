-- The bytes before the first NUL.
use Rattle.std.proofs.Common.{◌≡◌, ℕ, suc, ◌+◌, Bool, true, false, cond, List, [], ◌∷◌, ◌++◌, length, take, drop, None, Some, refl, ap, sym, ◌∙◌, arith, nat_lt, nat_eq, not, Option}
use Rattle.std.specs.Prelude.{◌==◌, option_and_then, ◌||◌}
use Rattle.std.specs.List.{list_any, position_or_len}
use Rattle.std.specs.Option.{option_map}
use Rattle.std.specs.Str.{is_utf8}
use Rattle.std.proofs.lemmas.Bool.Decides.{nat_tests}
use Rattle.std.proofs.Math.Seq.{drop-append_seam, take-append_seam}
use Rattle.std.proofs.lemmas.List.{take-append-drop}
use Rattle.string_table.specs.Texts.{before_nul, text_at, text_of}

-- The index of the first NUL, or the length.
abbrev nul_at : List ℕ → ℕ
nul_at bytes = position_or_len (λ b. b == 0) bytes

-- The bytes before the first NUL, by cases on whether the first byte is a NUL.
abbrev after_first : Bool → ℕ → Option (List ℕ) → Option (List ℕ)
after_first true b rest = Some []
after_first false b rest = option_map (λ bs. b ∷ bs) rest

taken : (test : Bool) (b n : ℕ) (bs : List ℕ) → option_map (λ len. take len (b ∷ bs)) (cond test (Some (1 + n)) None) ≡ option_map (λ t. b ∷ t) (option_map (λ len. take len bs) (cond test (Some n) None))
taken true b n bs = ap (λ (m : ℕ). Some (take m (b ∷ bs))) (let e : 1 + n ≡ suc n = omega arith in e)
taken false b n bs = refl

shifted : (a b : ℕ) → nat_lt (1 + a) (suc b) ≡ nat_lt a b
shifted a b = grind (arith, nat_tests)

before_nul_by : (test : Bool) (b : ℕ) (bs : List ℕ) → option_map (λ len. take len (b ∷ bs)) (cond (nat_lt (cond (not test) (1 + nul_at bs) 0) (suc (length bs))) (Some (cond (not test) (1 + nul_at bs) 0)) None) ≡ after_first test b (before_nul bs)
before_nul_by true b bs = let some : nat_lt 0 (suc (length bs)) ≡ true = grind (arith, nat_tests) in rw some refl
before_nul_by false b bs = rw (shifted (nul_at bs) (length bs)) (taken (nat_lt (nul_at bs) (length bs)) b (nul_at bs) bs)

before_nul-cons : (b : ℕ) (bs : List ℕ) → before_nul (b ∷ bs) ≡ after_first (nat_eq b 0) b (before_nul bs)
before_nul-cons b bs = before_nul_by (nat_eq b 0) b bs

-- Bytes that begin with a text and a NUL.
record Begins (bytes text : List ℕ) : Type 0 where
  pub more : List ℕ
  pub is : bytes ≡ text ++ 0 ∷ more
  pub plain : list_any (λ b. b == 0) text ≡ false

left_false : (a b : Bool) → (a || b) ≡ false → a ≡ false
left_false true b e = e
left_false false b e = refl

right_false : (a b : Bool) → (a || b) ≡ false → b ≡ false
right_false true b e = absurd cc
right_false false b e = e

both_false : (a b : Bool) → a ≡ false → b ≡ false → (a || b) ≡ false
both_false a b e f = rw (e, f) refl

begins_text : (text more : List ℕ) → list_any (λ b. b == 0) text ≡ false → before_nul (text ++ 0 ∷ more) ≡ Some text
begins_text [] more plain = before_nul-cons 0 more
begins_text (b ∷ bs) more plain =
    let rest = begins_text bs more (right_false (nat_eq b 0) (list_any (λ c. c == 0) bs) plain) in
    let first : nat_eq b 0 ≡ false = left_false (nat_eq b 0) (list_any (λ c. c == 0) bs) plain in
    before_nul-cons b (bs ++ 0 ∷ more) ∙ rw (first, rest) refl

begins : (bytes text : List ℕ) → Begins bytes text → before_nul bytes ≡ Some text
begins bytes text b = ap before_nul b.is ∙ begins_text text b.more b.plain

-- The induction step of `begun`.
begun_after : (b : ℕ) (bs text : List ℕ) (test : Bool) (rest : Option (List ℕ)) → nat_eq b 0 ≡ test → before_nul bs ≡ rest → ((t : List ℕ) → before_nul bs ≡ Some t → Begins bs t) → after_first test b rest ≡ Some text → Begins (b ∷ bs) text
begun_after b bs text true rest is_nul is go e =
    let none : [] ≡ text = cc in
    let nul : b ≡ 0 = grind (arith, nat_tests) in
    rw (← none, nul) (record { more = bs; is = refl; plain = refl })
begun_after b bs text false None is_nul is go e = absurd cc
begun_after b bs text false (Some t) is_nul is go e =
    let whole : b ∷ t ≡ text = cc in
    let rest = go t is in
    rw (← whole) (record { more = rest.more; is = ap (λ (xs : List ℕ). b ∷ xs) rest.is; plain = both_false (nat_eq b 0) (list_any (λ c. c == 0) t) is_nul rest.plain })

begun : (bytes text : List ℕ) → before_nul bytes ≡ Some text → Begins bytes text
begun [] text e = absurd cc
begun (b ∷ bs) text e = begun_after b bs text (nat_eq b 0) (before_nul bs) refl refl (λ t is. begun bs t is) (sym (before_nul-cons b bs) ∙ e)

-- The result of comparing bytes with a text: the text is a prefix, and a NUL follows it.
pub record Compared (bytes text : List ℕ) : Type 0 where
  pub more : List ℕ
  pub prefix : take (length text) bytes ≡ text
  pub after : drop (length text) bytes ≡ 0 ∷ more
  pub plain : list_any (λ b. b == 0) text ≡ false

pub compared : (bytes text : List ℕ) → before_nul bytes ≡ Some text → Compared bytes text
compared bytes text e =
    let b = begun bytes text e in
    record {
      more = b.more;
      prefix = ap (take (length text)) b.is ∙ take-append_seam text (0 ∷ b.more);
      after = ap (drop (length text)) b.is ∙ drop-append_seam text (0 ∷ b.more);
      plain = b.plain;
    }

pub equal_by_bytes : (bytes text : List ℕ) → Compared bytes text → before_nul bytes ≡ Some text
equal_by_bytes bytes text c =
    let whole : take (length text) bytes ++ drop (length text) bytes ≡ bytes = take-append-drop (length text) bytes in
    let parts : take (length text) bytes ++ drop (length text) bytes ≡ text ++ 0 ∷ c.more = rw (c.prefix, c.after) refl in
    begins bytes text (record { more = c.more; is = sym whole ∙ parts; plain = c.plain })

utf8_text : (test : Bool) (text : List ℕ) → test ≡ true → cond test (Some text) None ≡ Some text
utf8_text test text e = rw e refl

-- The text at an offset is the bytes before the next NUL, where they are UTF-8.
pub text_from : (strings text : List ℕ) (offset : ℕ) → is_utf8 text ≡ true → before_nul (drop offset strings) ≡ Some text → text_at strings offset ≡ Some text
unfolding text_at
text_from strings text offset utf8 e = ap (option_and_then text_of) e ∙ utf8_text (is_utf8 text) text utf8

here_by : (bytes text : List ℕ) (test : Bool) → cond test (Some bytes) None ≡ Some text → bytes ≡ text
here_by bytes text true e = cc
here_by bytes text false e = absurd cc

before_by : (found : Option (List ℕ)) (text : List ℕ) → option_and_then text_of found ≡ Some text → found ≡ Some text
before_by None text e = absurd cc
before_by (Some bytes) text e = ap (λ (t : List ℕ). Some t) (here_by bytes text (is_utf8 bytes) e)

pub text_here : (strings text : List ℕ) (offset : ℕ) → text_at strings offset ≡ Some text → before_nul (drop offset strings) ≡ Some text
unfolding text_at
text_here strings text offset e = before_by (before_nul (drop offset strings)) text e
