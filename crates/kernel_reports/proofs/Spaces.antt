-- Names without white space.
use Rattle.std.proofs.Common.{◌≡◌, ℕ, ◌+◌, ◌*◌, ◌/◌, ◌%◌, ◌<◌, ◌≤◌, Bool, true, false, ◌&&◌, ◌||◌, List, [], ◌∷◌, ◌++◌, refl, sym, subst, arith, inl, inr, IsUtf8}
use Rattle.std.specs.Prelude.{slice_index, ◌==◌, nat_lt}
use Rattle.std.specs.Char.{is_whitespace}
use Rattle.std.specs.List.{list_any}
use Rattle.std.specs.Str.{chars}
use Rattle.std.proofs.lemmas.Bool.{cases_lt, le-ltb, lt-ltb}
use Rattle.std.proofs.lemmas.Nat.{div-add-mod'}
use Rattle.std.proofs.lemmas.Bool.Decides.{nat_tests}
use Rattle.std.proofs.lemmas.Str.{encodes-chars}
use lib.Utf8.{encode, encodes}
use Rattle.kernel_symbols.specs.Words.{is_ascii_space, is_latin_space, is_wide_space, is_general_space, ends_general_space, space_len}
use Rattle.kernel_reports.specs.Symbols.{HasNoSpace}

no_space : (x : ℕ) (xs : List ℕ) → is_ascii_space x ≡ false → is_latin_space x (slice_index xs 0) ≡ false → is_wide_space x (slice_index xs 0) (slice_index xs 1) ≡ false → space_len (x ∷ xs) ≡ 0
unfolding space_len
no_space x xs a b c = rw (a, b, c) refl

-- A byte that begins no white space, whatever follows.
other_byte : (x b c : ℕ) → 128 ≤ x → (x == 194) ≡ false → (x == 225) ≡ false → (x == 226) ≡ false → (x == 227) ≡ false → (is_ascii_space x ≡ false) × (is_latin_space x b ≡ false) × (is_wide_space x b c ≡ false)
other_byte x b c high h i j k = rw (h, i, j, k) (grind (arith, nat_tests), refl, refl)

inner : (x : ℕ) (xs : List ℕ) → 128 ≤ x → x < 192 → space_len (x ∷ xs) ≡ 0
inner x xs low high =
    let o = other_byte x (slice_index xs 0) (slice_index xs 1) low (grind (arith, nat_tests)) (grind (arith, nat_tests)) (grind (arith, nat_tests)) (grind (arith, nat_tests)) in
    no_space x xs o.0 o.1 o.2

lead_of_four : (x : ℕ) (xs : List ℕ) → 240 ≤ x → space_len (x ∷ xs) ≡ 0
lead_of_four x xs low =
    let o = other_byte x (slice_index xs 0) (slice_index xs 1) (omega arith) (grind (arith, nat_tests)) (grind (arith, nat_tests)) (grind (arith, nat_tests)) (grind (arith, nat_tests)) in
    no_space x xs o.0 o.1 o.2

one : (c b d : ℕ) → c < 128 → is_whitespace c ≡ false → (is_ascii_space c ≡ false) × (is_latin_space c b ≡ false) × (is_wide_space c b d ≡ false)
one c b d small other = grind (arith, nat_tests)

two : (p q b : ℕ) → p < 32 → q < 64 → is_whitespace (p * 64 + q) ≡ false → (is_ascii_space (192 + p) ≡ false) × (is_latin_space (192 + p) (128 + q) ≡ false) × (is_wide_space (192 + p) (128 + q) b ≡ false)
two p q b small rest other = grind (arith, nat_tests)

-- A character that isn't wide white space.
pub record IsNoWideSpace (c : ℕ) : Type 0 where
  ogham : (c == 5760) ≡ false
  quads : (nat_lt 8191 c && nat_lt c 8203) ≡ false
  line : (c == 8232) ≡ false
  paragraph : (c == 8233) ≡ false
  narrow : (c == 8239) ≡ false
  medium : (c == 8287) ≡ false
  ideographic : (c == 12288) ≡ false

pub neither : (a b : Bool) → (a || b) ≡ false → (a ≡ false) × (b ≡ false)
neither true b h = grind arith
neither false b h = (refl, h)

parts : (c : ℕ) → is_whitespace c ≡ false → IsNoWideSpace c
parts c h =
    let a = neither _ (c == 12288) h in
    let b = neither _ (c == 8287) a.0 in
    let d = neither _ (c == 8239) b.0 in
    let e = neither _ (c == 8233) d.0 in
    let f = neither _ (c == 8232) e.0 in
    let g = neither _ (nat_lt 8191 c && nat_lt c 8203) f.0 in
    let i = neither _ (c == 5760) g.0 in
    record { ogham = i.1; quads = g.1; line = f.1; paragraph = e.1; narrow = d.1; medium = b.1; ideographic = a.1 }

at_one : (q r : ℕ) → q < 64 → r < 64 → (4096 + q * 64 + r == 5760) ≡ false → ((128 + q == 154) && (128 + r == 128)) ≡ false
at_one q r small rest h = grind (arith, nat_tests)

at_three : (q r : ℕ) → q < 64 → r < 64 → (12288 + q * 64 + r == 12288) ≡ false → ((128 + q == 128) && (128 + r == 128)) ≡ false
at_three q r small rest h = grind (arith, nat_tests)

general_first : (r : ℕ) → r < 64 → IsNoWideSpace (8192 + r) → ends_general_space (128 + r) ≡ false
general_first r small h =
    let a = h.quads in
    let b = h.line in
    let c = h.paragraph in
    let d = h.narrow in
    grind (arith, nat_tests)

general_second : (r : ℕ) → r < 64 → (8192 + 64 + r == 8287) ≡ false → (128 + r == 159) ≡ false
general_second r small h = grind (arith, nat_tests)

general_other : (q r : ℕ) → q < 64 → r < 64 → (b : Bool) → (q == 0) ≡ b → (e : Bool) → (q == 1) ≡ e → IsNoWideSpace (8192 + q * 64 + r) → is_general_space (128 + q) (128 + r) ≡ false
general_other q r small rest true none e some h =
    let is : q ≡ 0 = grind (arith, nat_tests) in
    let h' : IsNoWideSpace (8192 + r) = subst IsNoWideSpace (rw is (omega arith)) h in
    rw (is, general_first r rest h') refl
general_other q r small rest false none true some h =
    let is : q ≡ 1 = grind (arith, nat_tests) in
    let same : 8192 + q * 64 + r ≡ 8192 + 64 + r = rw is (omega arith) in
    rw (is, general_second r rest (subst (λ c. (c == 8287) ≡ false) same h.medium)) refl
general_other q r small rest false none false some h =
    let a : (128 + q == 128) ≡ false = grind (arith, nat_tests) in
    let b : (128 + q == 129) ≡ false = grind (arith, nat_tests) in
    rw (a, b) refl

wide_at : (p q r : ℕ) → q < 64 → r < 64 → IsNoWideSpace (p * 4096 + q * 64 + r) → (a : Bool) → (p == 1) ≡ a → (b : Bool) → (p == 2) ≡ b → (c : Bool) → (p == 3) ≡ c → is_wide_space (224 + p) (128 + q) (128 + r) ≡ false
wide_at p q r small rest h true is b _ c _ =
    let one : p ≡ 1 = grind (arith, nat_tests) in
    let same : p * 4096 + q * 64 + r ≡ 4096 + q * 64 + r = rw one (omega arith) in
    rw (one, at_one q r small rest (subst (λ c. (c == 5760) ≡ false) same h.ogham)) refl
wide_at p q r small rest h false _ true is c _ =
    let two : p ≡ 2 = grind (arith, nat_tests) in
    let same : p * 4096 + q * 64 + r ≡ 8192 + q * 64 + r = rw two (omega arith) in
    rw (two, general_other q r small rest (q == 0) refl (q == 1) refl (subst IsNoWideSpace same h)) refl
wide_at p q r small rest h false _ false _ true is =
    let three : p ≡ 3 = grind (arith, nat_tests) in
    let same : p * 4096 + q * 64 + r ≡ 12288 + q * 64 + r = rw three (omega arith) in
    rw (three, at_three q r small rest (subst (λ c. (c == 12288) ≡ false) same h.ideographic)) refl
wide_at p q r small rest h false x false y false z =
    let a : (224 + p == 225) ≡ false = grind (arith, nat_tests) in
    let b : (224 + p == 226) ≡ false = grind (arith, nat_tests) in
    let c : (224 + p == 227) ≡ false = grind (arith, nat_tests) in
    rw (a, b, c) refl

wide : (p q r : ℕ) → q < 64 → r < 64 → IsNoWideSpace (p * 4096 + q * 64 + r) → is_wide_space (224 + p) (128 + q) (128 + r) ≡ false
wide p q r small rest h = wide_at p q r small rest h (p == 1) refl (p == 2) refl (p == 3) refl

-- The first byte of three.
high_lead : (p q : ℕ) → (is_ascii_space (224 + p) ≡ false) × (is_latin_space (224 + p) q ≡ false)
high_lead p q =
    let a : (224 + p == 194) ≡ false = grind (arith, nat_tests) in
    rw a (grind (arith, nat_tests), refl)

-- A character of any length.
one_byte : (c : ℕ) (rest : List ℕ) → c < 128 → is_whitespace c ≡ false → HasNoSpace rest → HasNoSpace (c ∷ rest)
one_byte c rest small other h =
    let o = one c (slice_index rest 0) (slice_index rest 1) small other in
    (no_space c rest o.0 o.1 o.2, h)

two_bytes : (p q : ℕ) (rest : List ℕ) → p < 32 → q < 64 → is_whitespace (p * 64 + q) ≡ false → HasNoSpace rest → HasNoSpace ((192 + p) ∷ (128 + q) ∷ rest)
two_bytes p q rest few small other h =
    let o = two p q (slice_index rest 0) few small other in
    (no_space (192 + p) ((128 + q) ∷ rest) o.0 o.1 o.2, (inner (128 + q) rest (omega arith) (omega arith), h))

three_bytes : (p q r : ℕ) (rest : List ℕ) → q < 64 → r < 64 → is_whitespace (p * 4096 + q * 64 + r) ≡ false → HasNoSpace rest → HasNoSpace ((224 + p) ∷ (128 + q) ∷ (128 + r) ∷ rest)
three_bytes p q r rest few small other h =
    let o = high_lead p (128 + q) in (
      no_space (224 + p) ((128 + q) ∷ (128 + r) ∷ rest) o.0 o.1 (wide p q r few small (parts (p * 4096 + q * 64 + r) other)),
      (inner (128 + q) ((128 + r) ∷ rest) (omega arith) (omega arith), (inner (128 + r) rest (omega arith) (omega arith), h)),
    )

four_bytes : (p q r s : ℕ) (rest : List ℕ) → q < 64 → r < 64 → s < 64 → HasNoSpace rest → HasNoSpace ((240 + p) ∷ (128 + q) ∷ (128 + r) ∷ (128 + s) ∷ rest)
four_bytes p q r s rest a b c h = (
  lead_of_four (240 + p) ((128 + q) ∷ (128 + r) ∷ (128 + s) ∷ rest) (omega arith),
  (
    inner (128 + q) ((128 + r) ∷ (128 + s) ∷ rest) (omega arith) (omega arith),
    (inner (128 + r) ((128 + s) ∷ rest) (omega arith) (omega arith), (inner (128 + s) rest (omega arith) (omega arith), h)),
  ),
)

whole_two : (c : ℕ) → c / 64 * 64 + c % 64 ≡ c
whole_two c = div-add-mod' c 64

whole_three : (c : ℕ) → c / 4096 * 4096 + c / 64 % 64 * 64 + c % 64 ≡ c
whole_three c = omega arith

written : (c : ℕ) (rest : List ℕ) → is_whitespace c ≡ false → HasNoSpace rest → HasNoSpace (encode c ++ rest)
unfolding encode
written c rest other h =
    elim (cases_lt c 128) [
      | inl a ↦ rw (lt-ltb c 128 a) (one_byte c rest a other h)
      | inr a ↦ elim (cases_lt c 2048) [
        | inl b ↦ rw (le-ltb c 128 a, lt-ltb c 2048 b) (two_bytes (c / 64) (c % 64) rest (omega arith) (omega arith) (subst (λ n. is_whitespace n ≡ false) (sym (whole_two c)) other) h)
        | inr b ↦ elim (cases_lt c 65536) [
          | inl d ↦ rw (le-ltb c 128 a, le-ltb c 2048 b, lt-ltb c 65536 d) (three_bytes (c / 4096) (c / 64 % 64) (c % 64) rest (omega arith) (omega arith) (subst (λ n. is_whitespace n ≡ false) (sym (whole_three c)) other) h)
          | inr d ↦ rw (le-ltb c 128 a, le-ltb c 2048 b, le-ltb c 65536 d) (four_bytes (c / 262144) (c / 4096 % 64) (c / 64 % 64) (c % 64) rest (omega arith) (omega arith) (omega arith) h)
        ]
      ]
    ]

written_all : (cs : List ℕ) → list_any is_whitespace cs ≡ false → HasNoSpace (encodes cs)
written_all [] h = tt
written_all (c ∷ cs) h =
    let both = neither (is_whitespace c) (list_any is_whitespace cs) h in
    written c (encodes cs) both.0 (written_all cs both.1)

-- A text without a white space character.
pub no_space_in : (bytes : List ℕ) → IsUtf8 bytes → list_any is_whitespace (chars bytes) ≡ false → HasNoSpace bytes
no_space_in bytes u h = subst HasNoSpace (encodes-chars bytes u) (written_all (chars bytes) h)
