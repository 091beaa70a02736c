-- Words that are written piece by piece.
use Rattle.std.proofs.Common.{◌≡◌, ℕ, ◌+◌, ◌<◌, List, [], ◌∷◌, ◌++◌, length, take, get_or, map, Some, refl, ap, sym, ◌∙◌, append_assoc, append-nil, arith}
use Rattle.std.specs.Prelude.{slice_index, ◌/◌, ◌%◌}
use Rattle.std.specs.Fmt.{decimal}
use Rattle.std.proofs.lemmas.List.{map-append, take_more}
use Rattle.hex.specs.Hex.{encode_with, encode_lower, lower_digits}
use Rattle.ebpf_items.specs.declared.instruction.bpf_insn.{bpf_insn}
use Rattle.ebpf_items.specs.Instruction.{bytes_of}
use Rattle.plan_lines.specs.Lines.{table_words}
use Rattle.plan_lines.specs.Words.{hex_word, slot_bytes, words_onto}

encode_with-append : (digits xs ys : List ℕ) → encode_with digits (xs ++ ys) ≡ encode_with digits xs ++ encode_with digits ys
unfolding encode_with
encode_with-append digits [] ys = refl
encode_with-append digits (x ∷ xs) ys =
    ap (λ rest. slice_index digits (x / 16) ∷ slice_index digits (x % 16) ∷ rest) (encode_with-append digits xs ys)

-- Some words, followed by more bytes.
words_onto-append : (words : List (List ℕ)) (s t : List ℕ) → words_onto words s ++ t ≡ words_onto words (s ++ t)
words_onto-append [] s t = refl
words_onto-append (w ∷ ws) s t = ap (λ x. 32 ∷ x) (append_assoc w (words_onto ws s) t ∙ ap (λ x. w ++ x) (words_onto-append ws s t))

words_onto-words : (xs ys : List (List ℕ)) (t : List ℕ) → words_onto (xs ++ ys) t ≡ words_onto xs (words_onto ys t)
words_onto-words [] ys t = refl
words_onto-words (x ∷ xs) ys t = ap (λ s. 32 ∷ x ++ s) (words_onto-words xs ys t)

words_onto-split : (words : List (List ℕ)) (t : List ℕ) → words_onto words t ≡ words_onto words [] ++ t
words_onto-split words t = sym (words_onto-append words [] t)

-- The digits of the first `i + 1` bytes are those of the first `i` bytes, followed by those of the
-- byte at index `i`.
pub encode_lower-more : (bytes : List ℕ) (i : ℕ) → i < length bytes → encode_lower (take (i + 1) bytes) ≡ encode_lower (take i bytes) ++ encode_lower (get_or bytes i 0 ∷ [])
encode_lower-more bytes i within =
    ap encode_lower (take_more bytes i 0 within) ∙ encode_with-append lower_digits (take i bytes) (get_or bytes i 0 ∷ [])

pub numbers-more : (numbers : List ℕ) (i : ℕ) → i < length numbers → words_onto (map decimal (take (i + 1) numbers)) [] ≡ words_onto (map decimal (take i numbers)) [] ++ 32 ∷ decimal (get_or numbers i 0)
numbers-more numbers i within =
    ap (λ some. words_onto (map decimal some) []) (take_more numbers i 0 within)
    ∙ ap (λ words. words_onto words []) (map-append decimal (take i numbers) (get_or numbers i 0 ∷ []))
    ∙ words_onto-words (map decimal (take i numbers)) (decimal (get_or numbers i 0) ∷ []) []
    ∙ words_onto-split (map decimal (take i numbers)) (32 ∷ decimal (get_or numbers i 0) ++ [])
    ∙ ap (λ last. words_onto (map decimal (take i numbers)) [] ++ 32 ∷ last) (append-nil (decimal (get_or numbers i 0)))

-- The digits of a slot, followed by those of the other slots.
pub slot_digits-first : (slot : bpf_insn) (slots : List bpf_insn) → encode_lower (slot_bytes (slot ∷ slots)) ≡ encode_lower (bytes_of slot) ++ encode_lower (slot_bytes slots)
slot_digits-first slot slots = encode_with-append lower_digits (bytes_of slot) (slot_bytes slots)

pub hex_word-some : (bytes : List ℕ) → 0 < length bytes → hex_word bytes ≡ encode_lower bytes
hex_word-some [] some = absurd (omega (arith, some))
hex_word-some (byte ∷ bytes) some = refl

pub hex_word-slots : (slots : List bpf_insn) → 0 < length slots → hex_word (slot_bytes slots) ≡ encode_lower (slot_bytes slots)
hex_word-slots [] some = absurd (omega (arith, some))
hex_word-slots (slot ∷ slots) some = refl

pub table_words-some : (places : List ℕ) → 0 < length places → table_words (Some places) ≡ map decimal places
table_words-some [] some = absurd (omega (arith, some))
table_words-some (place ∷ places) some = refl

pub encode_lower-nil : encode_lower [] ≡ []
unfolding encode_with
encode_lower-nil = refl
