-- Words, and the bytes that contain them.
use Rattle.std.proofs.Common.{◌≡◌, ℕ, zero, suc, ◌-◌, ◌<◌, ◌≤◌, Bool, true, false, cond, List, [], ◌∷◌, ◌+◌, length, length-drop, take, drop, zero-le, refl, ap, sym, ◌∙◌, arith, inl, inr}
use Rattle.std.specs.Prelude.{filter, slice_index, ◌==◌}
use Rattle.std.proofs.lemmas.Bool.{cases_lt}
use Rattle.std.proofs.lemmas.Bool.Decides.{nat_tests}
use Rattle.std.proofs.lemmas.List.{drop-drop, get_or-drop}
use Rattle.kernel_symbols.specs.Words.{ArePlain, is_ascii_space, is_plain, words_of, pieces_after, space_len, is_word, onto_first, IsPlain, EndsWord}

plain_byte : (b : ℕ) → is_plain b ≡ true → (is_ascii_space b ≡ false) × ((b == 194) ≡ false) × ((b == 225) ≡ false) × ((b == 226) ≡ false) × ((b == 227) ≡ false)
plain_byte b plain = grind (arith, nat_tests)

-- No white space begins at a plain byte.
no_space : (bytes : List ℕ) → is_plain (slice_index bytes 0) ≡ true → space_len bytes ≡ 0
unfolding space_len
no_space bytes plain =
    let other = plain_byte (slice_index bytes 0) plain in
    rw (other.0, other.1, other.2, other.3, other.4) refl

no_space_at : (bytes : List ℕ) (k : ℕ) → is_plain (slice_index bytes k) ≡ true → space_len (drop k bytes) ≡ 0
no_space_at bytes k plain =
    let same : slice_index (drop k bytes) 0 ≡ slice_index bytes k = get_or-drop k bytes 0 0 ∙ ap (slice_index bytes) (omega arith) in
    no_space (drop k bytes) (rw same plain)

pub front_plain : (bytes : List ℕ) (n : ℕ) → ArePlain bytes 0 n → IsPlain n bytes
front_plain bytes n plain k within = no_space_at bytes k (plain.each k zero-le within)

-- Two ranges of plain bytes that overlap or meet are one range of plain bytes.
pub plain_last : (bytes : List ℕ) (len last end : ℕ) → last ≤ len → ArePlain bytes 0 len → ArePlain bytes last end → ArePlain bytes 0 end
plain_last bytes len last end before front back = record {
  each = λ k from to. elim (cases_lt k len) [ inl early ↦ front.each k from early | inr late ↦ back.each k (omega (arith, before, late)) to ];
}

pub plain_more : (bytes : List ℕ) (start between end : ℕ) → ArePlain bytes start between → ArePlain bytes between end → ArePlain bytes start end
plain_more bytes start between end front back = record {
  each = λ k from to. elim (cases_lt k between) [ inl early ↦ front.each k from early | inr late ↦ back.each k late to ];
}

-- The remaining bytes of a white space character are skipped.
skipped : (n : ℕ) (xs : List ℕ) → pieces_after n xs ≡ pieces_after 0 (drop n xs)
unfolding pieces_after
skipped zero [] = refl
skipped (suc n) [] = refl
skipped zero (x ∷ xs) = refl
skipped (suc n) (x ∷ xs) = skipped n xs

not_zero : (n : ℕ) → (n ≡ 0 → ⊥) → (n == 0) ≡ false
not_zero zero h = absurd (h refl)
not_zero (suc n) h = grind (arith, nat_tests)

after_space : (x : ℕ) (xs : List ℕ) (n : ℕ) → space_len (x ∷ xs) ≡ suc n → words_of (x ∷ xs) ≡ words_of (drop n xs)
unfolding pieces_after
after_space x xs n is =
    let less : suc n - 1 ≡ n = omega arith in
    rw (is, not_zero (suc n) (λ h. omega (arith, h)), less) (ap (filter is_word) (skipped n xs))

at_space : (bytes : List ℕ) (n : ℕ) → 0 < length bytes → space_len bytes ≡ n → (n ≡ 0 → ⊥) → words_of (drop n bytes) ≡ words_of bytes
at_space [] n some is more = absurd (omega arith)
at_space (x ∷ xs) zero some is more = absurd (more refl)
at_space (x ∷ xs) (suc n) some is more = sym (after_space x xs n is)

-- Skipping white space at the front leaves the words as they are.
pub words_past : (bytes rest : List ℕ) (n : ℕ) → 0 < length bytes → n ≡ space_len bytes → (n ≡ 0 → ⊥) → rest ≡ drop n bytes → words_of rest ≡ words_of bytes
words_past bytes rest n some is more left = ap words_of left ∙ at_space bytes n some (sym is) more

after_word : List ℕ → List (List ℕ)
after_word [] = []
after_word (x ∷ xs) = pieces_after (space_len (x ∷ xs) - 1) xs

pieces_front : (bytes : List ℕ) (n : ℕ) → n ≤ length bytes → IsPlain n bytes → EndsWord (drop n bytes) → pieces_after 0 bytes ≡ take n bytes ∷ after_word (drop n bytes)
unfolding after_word pieces_after
pieces_front [] zero within plain ends = refl
pieces_front [] (suc n) within plain ends = absurd (omega arith)
pieces_front (x ∷ xs) zero within plain ends = rw (not_zero (space_len (x ∷ xs)) ends) refl
pieces_front (x ∷ xs) (suc n) within plain ends =
    rw (plain 0 (omega arith)) (ap (onto_first x) (pieces_front xs n (omega arith) (λ k h. plain (suc k) (omega arith)) ends))

words_after : (rest : List ℕ) → EndsWord rest → words_of rest ≡ filter is_word (after_word rest)
unfolding after_word pieces_after
words_after [] ends = refl
words_after (x ∷ xs) ends = rw (not_zero (space_len (x ∷ xs)) ends) refl

some_word : (bytes : List ℕ) (n : ℕ) → 0 < length bytes → n ≤ length bytes → EndsWord (drop n bytes) → space_len bytes ≡ 0 → is_word (take n bytes) ≡ true
some_word [] n some within ends front = absurd (omega arith)
some_word (x ∷ xs) zero some within ends front = absurd (ends front)
some_word (x ∷ xs) (suc n) some within ends front = refl

-- Bytes that don't begin with white space begin with a word.
pub words_split : (bytes : List ℕ) (n : ℕ) → 0 < length bytes → space_len bytes ≡ 0 → n ≤ length bytes → IsPlain n bytes → EndsWord (drop n bytes) → words_of bytes ≡ take n bytes ∷ words_of (drop n bytes)
words_split bytes n some front within plain ends =
    let word : is_word (take n bytes) ≡ true = some_word bytes n some within ends front in
    ap (filter is_word) (pieces_front bytes n within plain ends)
    ∙ ap (λ (b : Bool). cond b (take n bytes ∷ filter is_word (after_word (drop n bytes))) (filter is_word (after_word (drop n bytes)))) word
    ∙ ap (λ ws. take n bytes ∷ ws) (sym (words_after (drop n bytes) ends))

-- ---- Words in columns

index_at : (bytes : List ℕ) (k : ℕ) → slice_index (drop k bytes) 0 ≡ slice_index bytes k
index_at bytes k = get_or-drop k bytes 0 0 ∙ ap (slice_index bytes) (omega arith)

blank_len : (bytes : List ℕ) → slice_index bytes 0 ≡ 32 → space_len bytes ≡ 1
unfolding space_len
blank_len bytes is = rw is refl

not_none : (bytes : List ℕ) → slice_index bytes 0 ≡ 32 → space_len bytes ≡ 0 → ⊥
not_none bytes is none = omega (arith, blank_len bytes is, none)

ends_at_blank : (bytes : List ℕ) → slice_index bytes 0 ≡ 32 → EndsWord bytes
ends_at_blank [] is = absurd (omega (arith, is))
ends_at_blank (x ∷ xs) is = not_none (x ∷ xs) is

-- A blank before words.
past_blank : (bytes : List ℕ) (k : ℕ) → k < length bytes → slice_index bytes k ≡ 32 → words_of (drop (k + 1) bytes) ≡ words_of (drop k bytes)
past_blank bytes k within is =
    let blank : slice_index (drop k bytes) 0 ≡ 32 = index_at bytes k ∙ is in
    words_past (drop k bytes) (drop (k + 1) bytes) 1 (omega (arith, length-drop k bytes)) (sym (blank_len (drop k bytes) blank)) (λ h. omega (arith, h)) (sym (drop-drop 1 k bytes))

-- A word of n plain bytes before a blank.
plain_word : (bytes : List ℕ) (n : ℕ) → 0 < n → n < length bytes → ArePlain bytes 0 n → slice_index bytes n ≡ 32 → words_of bytes ≡ take n bytes ∷ words_of (drop (n + 1) bytes)
plain_word bytes n some within plain is =
    let ends : EndsWord (drop n bytes) = ends_at_blank (drop n bytes) (index_at bytes n ∙ is) in
    words_split bytes n (omega (arith, within)) (no_space bytes (plain.each 0 zero-le some)) (omega (arith, within)) (front_plain bytes n plain) ends
    ∙ ap (λ ws. take n bytes ∷ ws) (sym (past_blank bytes n within is))

one_plain : (bytes : List ℕ) → is_plain (slice_index bytes 0) ≡ true → ArePlain bytes 0 1
one_plain bytes is = record {
  each = λ k from to. let first : k ≡ 0 = omega (arith, to) in rw first is;
}

pub column_words : (line : List ℕ) → 19 ≤ length line → ArePlain line 0 16 → slice_index line 16 ≡ 32 → is_plain (slice_index line 17) ≡ true → slice_index line 18 ≡ 32 → words_of line ≡ take 16 line ∷ take 1 (drop 17 line) ∷ words_of (drop 19 line)
column_words line long address blank kind second =
    let rest : List ℕ = drop 17 line in
    let kind_first : is_plain (slice_index rest 0) ≡ true = rw (index_at line 17) kind in
    let blank_next : slice_index rest 1 ≡ 32 = get_or-drop 17 line 1 0 ∙ second in
    let left : words_of rest ≡ take 1 rest ∷ words_of (drop 2 rest) = plain_word rest 1 (omega arith) (omega (arith, length-drop 17 line, long)) (one_plain rest kind_first) blank_next in
    plain_word line 16 (omega arith) (omega (arith, long)) address blank
    ∙ ap (λ ws. take 16 line ∷ ws) (left ∙ ap (λ (name : List ℕ). take 1 rest ∷ words_of name) (drop-drop 2 17 line))

pub no_words : (bytes : List ℕ) → length bytes ≡ 0 → words_of bytes ≡ []
unfolding pieces_after
no_words [] h = refl
no_words (x ∷ xs) h = absurd (omega arith)
