-- Strings in which a text begins at each byte.
use Rattle.std.proofs.Common.{◌≡◌, ℕ, zero, suc, ◌+◌, ◌-◌, ◌<◌, Bool, true, false, cond, nat_eq, nat_lt, not, List, [], ◌∷◌, None, Some, drop, take, length, length-drop, get_or, refl, ap, ◌∙◌, arith}
use Rattle.std.specs.Prelude.{◌==◌, is_some, option_and_then, slice_get}
use Rattle.std.proofs.lemmas.Bool.Decides.{nat_tests}
use Rattle.std.proofs.lemmas.List.{get_or-drop}
use Rattle.std.proofs.lemmas.Option.{get_or_from_slice_get}
use Rattle.std.proofs.lemmas.Str.{IsAscii-drop, IsAscii-take, IsUtf8-from_ascii, is_utf8-from_IsUtf8}
use Rattle.std.specs.List.{position_or_len}
use Rattle.std.specs.Option.{option_map}
use Rattle.std.specs.Str.{IsAscii}
use Rattle.string_table.specs.FirstBytes.{AreTexts}
use Rattle.string_table.specs.Texts.{before_nul, text_at, text_of}

abbrev nul_at : List ℕ → ℕ
nul_at bytes = position_or_len (λ b. b == 0) bytes

below_by : (test : Bool) (n len : ℕ) → (test ≡ false → n < len) → cond (not test) (1 + n) 0 < suc len
below_by true n len h = omega arith
below_by false n len h = omega (arith, h refl)

below_first : (b n len : ℕ) → b ≡ 0 → cond (not (nat_eq b 0)) (1 + n) 0 < suc len
below_first b n len is = let yes : nat_eq b 0 ≡ true = grind (arith, nat_tests) in rw yes (omega arith)

-- If some byte is a NUL, the search for the first NUL finds one.
below : (bytes : List ℕ) (k : ℕ) → k < length bytes → get_or bytes k 1 ≡ 0 → nul_at bytes < length bytes
below [] k lt is = absurd (omega (arith, lt))
below (b ∷ bs) zero lt is = below_first b (nul_at bs) (length bs) is
below (b ∷ bs) (suc k) lt is = below_by (nat_eq b 0) (nul_at bs) (length bs) (λ _. below bs k (omega (arith, lt)) is)

text_by : (test : Bool) (len : ℕ) (bytes : List ℕ) → IsAscii bytes → test ≡ true → is_some (option_and_then text_of (option_map (λ n. take n bytes) (cond test (Some len) None))) ≡ true
text_by true len bytes ascii is = ap (λ (b : Bool). is_some (cond b (Some (take len bytes)) None)) (is_utf8-from_IsUtf8 (take len bytes) (IsUtf8-from_ascii (take len bytes) (IsAscii-take bytes len ascii)))
text_by false len bytes ascii is = absurd cc

-- Bytes of ASCII with a NUL among them begin with a text.
text_before : (bytes : List ℕ) → IsAscii bytes → nul_at bytes < length bytes → is_some (option_and_then text_of (before_nul bytes)) ≡ true
text_before bytes ascii lt = let yes : nat_lt (nul_at bytes) (length bytes) ≡ true = grind (arith, nat_tests, lt) in text_by (nat_lt (nul_at bytes) (length bytes)) (nul_at bytes) bytes ascii yes

last_left : (strings : List ℕ) (offset : ℕ) → slice_get strings (length strings - 1) ≡ Some 0 → offset < length strings → get_or (drop offset strings) (length strings - 1 - offset) 1 ≡ 0
last_left strings offset last lt =
    let at : offset + (length strings - 1 - offset) ≡ length strings - 1 = omega (arith, lt) in
    get_or-drop offset strings (length strings - 1 - offset) 1 ∙ ap (λ (k : ℕ). get_or strings k 1) at ∙ get_or_from_slice_get strings (length strings - 1) 0 1 last

left_len : (strings : List ℕ) (offset : ℕ) → offset < length strings → length strings - 1 - offset < length (drop offset strings)
left_len strings offset lt = omega (arith, lt, length-drop offset strings)

-- In strings of ASCII that end in a NUL, a text begins at each byte.
text_from : (strings : List ℕ) → slice_get strings (length strings - 1) ≡ Some 0 → IsAscii strings → (offset : ℕ) → offset < length strings → is_some (text_at strings offset) ≡ true
unfolding text_at
text_from strings last ascii offset lt =
    text_before (drop offset strings) (IsAscii-drop strings offset ascii) (below (drop offset strings) (length strings - 1 - offset) (left_len strings offset lt) (last_left strings offset last lt))

pub all_texts : (strings : List ℕ) → slice_get strings (length strings - 1) ≡ Some 0 → IsAscii strings → AreTexts strings
all_texts strings last ascii = record { each = text_from strings last ascii }
