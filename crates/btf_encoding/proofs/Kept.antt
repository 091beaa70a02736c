-- Records that are written with the bytes they were read from.
use Rattle.std.proofs.Common.{◌≡◌, ℕ, zero, suc, ◌+◌, ◌*◌, ◌/◌, ◌%◌, ◌<◌, ◌≤◌, ◌^◌, Bool, true, false, List, [], ◌∷◌, ◌++◌, length, take, drop, get_or, refl, sym, ap, subst, ◌∙◌, arith, length-drop, length-take, append-nil, mul-zero, nat_eq, inl, inr}
use Rattle.std.specs.Prelude.{◌==◌, ◌&&◌, nat_lt}
use Rattle.std.specs.List.{flat_map}
use Rattle.std.specs.Int.{w32, from_le_bytes, from_be_bytes}
use Rattle.std.proofs.Math.Seq.{take-add}
use Rattle.std.proofs.lemmas.Bool.{cases_lt, eqb-true, ltb-true}
use Rattle.std.proofs.lemmas.Grind.{flat_map-append}
use Rattle.std.proofs.lemmas.List.{drop-drop, get_or-drop, get_or-take, get_or_past}
use Rattle.std.proofs.lemmas.Nat.{be_bytes_4, le_bytes_4}
use Rattle.btf_records.specs.Encodings.{number_of_var_linkage, var_linkage_of}
use Rattle.btf_records.specs.Info.{bit, bits_in, count_in, info_of, kind_number_in}
use Rattle.btf_records.specs.Kinds.{kind_of, number_of}
use Rattle.btf_records.specs.Words.{word_at, word_bytes, words_bytes}
use Rattle.btf_encoding.specs.Items.{array_in, array_words, entry_in, entry_words, enum64_in, enum64_words, items_in, member_in, member_words, param_in, param_words, variant_in, variant_words}
use Rattle.btf_encoding.specs.Records.{HasRecord, bits_at, count_at, kind_at, kind_number_at, len_after, name_at, record_bytes, record_len, third_at, type_as, type_in, words_of}
use Rattle.btf_encoding.specs.Rewriting.{is_kept}
use Rattle.btf_encoding.proofs.InBytes.{length-items_in}
use Rattle.btf_encoding.proofs.RoundTrip.{fourth}
use Rattle.btf_records.specs.declared.kind.BtfKind.{BtfKind}
use Rattle.btf_records.specs.declared.kind.BtfKind.TheVariants as kinds
use Rattle.btf_records.specs.declared.words.Endianness.{Endianness}
use Rattle.btf_records.specs.declared.words.Endianness.TheVariants.{Little, Big}

-- Each number is a byte.
abbrev pub IsBytes : List ℕ → Type 0
IsBytes bytes = (i : ℕ) → get_or bytes i 0 < 256

IsBytes-drop : (n : ℕ) (bytes : List ℕ) → IsBytes bytes → IsBytes (drop n bytes)
IsBytes-drop n bytes h i = rw get_or-drop (h (n + i))

IsBytes-take : (n : ℕ) (bytes : List ℕ) → IsBytes bytes → IsBytes (take n bytes)
IsBytes-take n bytes h i =
    elim (cases_lt i n) [
      | inl lt ↦ rw (get_or-take n bytes i 0 lt) (h i)
      | inr le ↦ rw (get_or_past (take n bytes) i 0 (omega (arith, length-take n bytes))) (omega arith)
    ]

four_of : (at : ℕ) (bytes : List ℕ) → IsBytes bytes → IsBytes (take 4 (drop at bytes))
four_of at bytes fits = IsBytes-take 4 (drop at bytes) (IsBytes-drop at bytes fits)

word_back : (order : Endianness) (bytes : List ℕ) (at : ℕ) → at + 4 ≤ length bytes → IsBytes bytes → word_bytes order (word_at order bytes at) ≡ take 4 (drop at bytes)
unfolding word_bytes word_at
word_back Little bytes at h fits = le_bytes_4 (take 4 (drop at bytes)) (from_le_bytes w32 (take 4 (drop at bytes))) (omega (arith, length-take 4 (drop at bytes), length-drop at bytes)) (four_of at bytes fits) refl
word_back Big bytes at h fits = be_bytes_4 (take 4 (drop at bytes)) (from_be_bytes w32 (take 4 (drop at bytes))) (omega (arith, length-take 4 (drop at bytes), length-drop at bytes)) (four_of at bytes fits) refl

from_le_small : (bytes : List ℕ) → IsBytes bytes → from_le_bytes w32 bytes < 2 ^ 32
from_le_small bytes fits = omega (arith, fits 0, fits 1, fits 2, fits 3)

from_be_small : (bytes : List ℕ) → IsBytes bytes → from_be_bytes w32 bytes < 2 ^ 32
from_be_small bytes fits = omega (arith, fits 0, fits 1, fits 2, fits 3)

word_small : (order : Endianness) (bytes : List ℕ) (at : ℕ) → IsBytes bytes → word_at order bytes at < 2 ^ 32
unfolding word_at
word_small Little bytes at fits = from_le_small (take 4 (drop at bytes)) (four_of at bytes fits)
word_small Big bytes at fits = from_be_small (take 4 (drop at bytes)) (four_of at bytes fits)

bit_of : (n : ℕ) → n < 2 → bit (nat_eq n 1) ≡ n
bit_of zero lt = refl
bit_of (suc zero) lt = refl
bit_of (suc (suc n)) lt = absurd (omega (arith, lt))

info_back : (info : ℕ) → info < 2 ^ 32 → info_of (kind_number_in info) (count_in info) (bits_in info) ≡ info
unfolding info_of bits_in
info_back info lt =
    let f = bit_of (info / 2147483648 % 2) (omega arith) in
    let x = bit_of (info / 1073741824 % 2) (omega arith) in
    let y = bit_of (info / 536870912 % 2) (omega arith) in
    rw (f, x, y) (omega (arith, lt))

-- One word, two words, three words, and three words with more after them.
one_back : (order : Endianness) (bytes : List ℕ) → 4 ≤ length bytes → IsBytes bytes → words_bytes order (word_at order bytes 0 ∷ []) ≡ take 4 bytes
one_back order bytes h fits = append-nil (word_bytes order (word_at order bytes 0)) ∙ word_back order bytes 0 h fits

two_back : (order : Endianness) (bytes : List ℕ) → 8 ≤ length bytes → IsBytes bytes → words_bytes order (word_at order bytes 0 ∷ word_at order bytes 4 ∷ []) ≡ take 8 bytes
two_back order bytes h fits =
    let one = word_back order bytes 0 (omega arith) fits in
    let two = word_back order bytes 4 (omega arith) fits in
    rw (append-nil, one, two) (sym (take-add 4 4 bytes))

take_three : (m : ℕ) (bytes : List ℕ) → take (12 + m) bytes ≡ take 4 bytes ++ (take 4 (drop 4 bytes) ++ (take 4 (drop 8 bytes) ++ take m (drop 12 bytes)))
take_three m bytes =
    let eight : 12 + m ≡ 4 + (8 + m) = omega arith in
    let four : 8 + m ≡ 4 + (4 + m) = omega arith in
    ap (λ (k : ℕ). take k bytes) eight ∙ take-add 4 (8 + m) bytes
    ∙ ap (λ (b : List ℕ). take 4 bytes ++ b) (ap (λ (k : ℕ). take k (drop 4 bytes)) four ∙ (take-add 4 (4 + m) (drop 4 bytes) ∙ ap (λ (b : List ℕ). take 4 (drop 4 bytes) ++ b) (rw (drop-drop 4 4 bytes) (take-add 4 m (drop 8 bytes)) ∙ ap (λ (b : List ℕ). take 4 (drop 8 bytes) ++ take m b) (drop-drop 4 8 bytes))))

after_three : (order : Endianness) (bytes ws : List ℕ) (m : ℕ) → 12 + m ≤ length bytes → IsBytes bytes → words_bytes order ws ≡ take m (drop 12 bytes) → words_bytes order (word_at order bytes 0 ∷ word_at order bytes 4 ∷ word_at order bytes 8 ∷ ws) ≡ take (12 + m) bytes
after_three order bytes ws m h fits after =
    let one = word_back order bytes 0 (omega arith) fits in
    let two = word_back order bytes 4 (omega arith) fits in
    let three = word_back order bytes 8 (omega arith) fits in
    let parts : take (12 + m) bytes ≡ take 4 bytes ++ (take 4 (drop 4 bytes) ++ (take 4 (drop 8 bytes) ++ take m (drop 12 bytes))) =
    take_three m bytes
    in
    rw (one, two, three, after) (sym parts)

three_back : (order : Endianness) (bytes : List ℕ) → 12 ≤ length bytes → IsBytes bytes → words_bytes order (word_at order bytes 0 ∷ word_at order bytes 4 ∷ word_at order bytes 8 ∷ []) ≡ take 12 bytes
three_back order bytes h fits = after_three order bytes [] 0 (omega arith) fits refl

-- Items, one after the other.
items_back : {X : Type 0} (order : Endianness) (item : List ℕ → X) (words : X → List ℕ) (size n : ℕ) (bytes : List ℕ) → ((b : List ℕ) → size ≤ length b → IsBytes b → words_bytes order (words (item b)) ≡ take size b) → size * n ≤ length bytes → IsBytes bytes → words_bytes order (flat_map words (items_in item size n bytes)) ≡ take (size * n) bytes
items_back order item words size zero bytes each h fits = rw mul-zero refl
items_back order item words size (suc n) bytes each h fits =
    let more : size * suc n ≡ size + size * n = omega arith in
    let others = items_back order item words size n (drop size bytes) each (omega (arith, length-drop size bytes)) (IsBytes-drop size bytes fits) in
    let this = each bytes (omega arith) fits in
    flat_map-append (word_bytes order) (words (item bytes)) (flat_map words (items_in item size n (drop size bytes))) ∙ rw (this, others, more) (sym (take-add size (size * n) bytes))

-- The first three words of a record, and the bytes after them.
head_back : (order : Endianness) (bytes : List ℕ) (kind : ℕ) (ws : List ℕ) (m : ℕ) → kind ≡ kind_number_at order bytes → 12 + m ≤ length bytes → IsBytes bytes → words_bytes order ws ≡ take m (drop 12 bytes) → words_bytes order (name_at order bytes ∷ info_of kind (count_at order bytes) (bits_at order bytes) ∷ third_at order bytes ∷ ws) ≡ take (12 + m) bytes
head_back order bytes kind ws m number h fits after =
    let info : info_of kind (count_at order bytes) (bits_at order bytes) ≡ word_at order bytes 4 = rw number (info_back (word_at order bytes 4) (word_small order bytes 4 fits)) in
    rw info (after_three order bytes ws m h fits after)

-- One more word.
word_after : (order : Endianness) (bytes : List ℕ) → 16 ≤ length bytes → IsBytes bytes → words_bytes order (word_at order bytes 12 ∷ []) ≡ take 4 (drop 12 bytes)
word_after order bytes h fits = rw (fourth order bytes) (one_back order (drop 12 bytes) (omega (arith, length-drop 12 bytes)) (IsBytes-drop 12 bytes fits))

linkage_back : (n : ℕ) → nat_lt n 4 ≡ true → number_of_var_linkage (var_linkage_of n) ≡ n
linkage_back zero lt = refl
linkage_back (suc zero) lt = refl
linkage_back (suc (suc zero)) lt = refl
linkage_back (suc (suc (suc zero))) lt = refl
linkage_back (suc (suc (suc (suc n)))) lt = absurd (omega (arith, ltb-true (suc (suc (suc (suc n)))) 4 lt))

first_true : (a b : Bool) → (a && b) ≡ true → a ≡ true
first_true true b e = refl
first_true false b e = e

second_true : (a b : Bool) → (a && b) ≡ true → b ≡ true
second_true true b e = e
second_true false b e = absurd cc

zeros : (order : Endianness) (bytes : List ℕ) → name_at order bytes ≡ 0 → word_at order bytes 4 ≡ 0 → third_at order bytes ≡ 0 → words_bytes order (name_at order bytes ∷ word_at order bytes 4 ∷ third_at order bytes ∷ []) ≡ take 12 bytes → words_bytes order (0 ∷ 0 ∷ 0 ∷ []) ≡ take 12 bytes
zeros order bytes one two three same = ap (λ (w : ℕ). words_bytes order (w ∷ 0 ∷ 0 ∷ [])) (sym one) ∙ ap (λ (w : ℕ). words_bytes order (name_at order bytes ∷ w ∷ 0 ∷ [])) (sym two) ∙ ap (λ (w : ℕ). words_bytes order (name_at order bytes ∷ word_at order bytes 4 ∷ w ∷ [])) (sym three) ∙ same

third_zero : (order : Endianness) (front ws : List ℕ) (third : ℕ) (bytes : List ℕ) → third ≡ 0 → words_bytes order (front ++ third ∷ ws) ≡ bytes → words_bytes order (front ++ 0 ∷ ws) ≡ bytes
third_zero order front ws third bytes none same = ap (λ (w : ℕ). words_bytes order (front ++ w ∷ ws)) (sym none) ∙ same

kept_back : (kind : BtfKind) (order : Endianness) (bytes : List ℕ) → number_of kind ≡ kind_number_at order bytes → 12 + len_after kind (count_at order bytes) ≤ length bytes → IsBytes bytes → is_kept kind order bytes ≡ true → words_bytes order (words_of (type_as kind order bytes)) ≡ take (12 + len_after kind (count_at order bytes)) bytes
kept_back kinds.Unknown order bytes number whole fits kept =
    let rest : ((word_at order bytes 4 == 0) && (third_at order bytes == 0)) ≡ true = second_true (name_at order bytes == 0) ((word_at order bytes 4 == 0) && (third_at order bytes == 0)) kept in
    let one : name_at order bytes ≡ 0 = eqb-true (name_at order bytes) 0 (first_true (name_at order bytes == 0) ((word_at order bytes 4 == 0) && (third_at order bytes == 0)) kept) in
    let two : word_at order bytes 4 ≡ 0 = eqb-true (word_at order bytes 4) 0 (first_true (word_at order bytes 4 == 0) (third_at order bytes == 0) rest) in
    let three : third_at order bytes ≡ 0 = eqb-true (third_at order bytes) 0 (second_true (word_at order bytes 4 == 0) (third_at order bytes == 0) rest) in
    zeros order bytes one two three (three_back order bytes (omega arith) fits)
kept_back kinds.Int order bytes number whole fits kept = head_back order bytes 1 (word_at order bytes 12 ∷ []) 4 number whole fits (word_after order bytes whole fits)
kept_back kinds.Ptr order bytes number whole fits kept = head_back order bytes 2 [] 0 number whole fits refl
kept_back kinds.Array order bytes number whole fits kept =
    third_zero order (name_at order bytes ∷ info_of 3 (count_at order bytes) (bits_at order bytes) ∷ []) (array_words (array_in order (drop 12 bytes))) (third_at order bytes) (take (12 + 12) bytes) (eqb-true (third_at order bytes) 0 kept) (head_back order bytes 3 (array_words (array_in order (drop 12 bytes))) 12 number whole fits (three_back order (drop 12 bytes) (omega (arith, length-drop 12 bytes)) (IsBytes-drop 12 bytes fits)))
kept_back kinds.Struct order bytes number whole fits kept =
    rw (length-items_in (member_in order) 12 (count_at order bytes) (drop 12 bytes))
    (head_back order bytes 4 (flat_map member_words (items_in (member_in order) 12 (count_at order bytes) (drop 12 bytes))) (12 * count_at order bytes) number whole fits
    (items_back order (member_in order) member_words 12 (count_at order bytes) (drop 12 bytes) (three_back order) (omega (arith, length-drop 12 bytes)) (IsBytes-drop 12 bytes fits)))
kept_back kinds.Union order bytes number whole fits kept =
    rw (length-items_in (member_in order) 12 (count_at order bytes) (drop 12 bytes))
    (head_back order bytes 5 (flat_map member_words (items_in (member_in order) 12 (count_at order bytes) (drop 12 bytes))) (12 * count_at order bytes) number whole fits
    (items_back order (member_in order) member_words 12 (count_at order bytes) (drop 12 bytes) (three_back order) (omega (arith, length-drop 12 bytes)) (IsBytes-drop 12 bytes fits)))
kept_back kinds.Enum order bytes number whole fits kept =
    rw (length-items_in (variant_in order) 8 (count_at order bytes) (drop 12 bytes))
    (head_back order bytes 6 (flat_map variant_words (items_in (variant_in order) 8 (count_at order bytes) (drop 12 bytes))) (8 * count_at order bytes) number whole fits
    (items_back order (variant_in order) variant_words 8 (count_at order bytes) (drop 12 bytes) (two_back order) (omega (arith, length-drop 12 bytes)) (IsBytes-drop 12 bytes fits)))
kept_back kinds.Fwd order bytes number whole fits kept =
    third_zero order (name_at order bytes ∷ info_of 7 (count_at order bytes) (bits_at order bytes) ∷ []) ([]) (third_at order bytes) (take (12 + 0) bytes) (eqb-true (third_at order bytes) 0 kept) (head_back order bytes 7 ([]) 0 number whole fits refl)
kept_back kinds.Typedef order bytes number whole fits kept = head_back order bytes 8 [] 0 number whole fits refl
kept_back kinds.Volatile order bytes number whole fits kept = head_back order bytes 9 [] 0 number whole fits refl
kept_back kinds.Const order bytes number whole fits kept = head_back order bytes 10 [] 0 number whole fits refl
kept_back kinds.Restrict order bytes number whole fits kept = head_back order bytes 11 [] 0 number whole fits refl
kept_back kinds.Func order bytes number whole fits kept = head_back order bytes 12 [] 0 number whole fits refl
kept_back kinds.FuncProto order bytes number whole fits kept =
    rw (length-items_in (param_in order) 8 (count_at order bytes) (drop 12 bytes))
    (head_back order bytes 13 (flat_map param_words (items_in (param_in order) 8 (count_at order bytes) (drop 12 bytes))) (8 * count_at order bytes) number whole fits
    (items_back order (param_in order) param_words 8 (count_at order bytes) (drop 12 bytes) (two_back order) (omega (arith, length-drop 12 bytes)) (IsBytes-drop 12 bytes fits)))
kept_back kinds.Var order bytes number whole fits kept =
    let linkage : number_of_var_linkage (var_linkage_of (word_at order bytes 12)) ≡ word_at order bytes 12 = linkage_back (word_at order bytes 12) kept in
    rw linkage (head_back order bytes 14 (word_at order bytes 12 ∷ []) 4 number whole fits (word_after order bytes whole fits))
kept_back kinds.DataSec order bytes number whole fits kept =
    rw (length-items_in (entry_in order) 12 (count_at order bytes) (drop 12 bytes))
    (head_back order bytes 15 (flat_map entry_words (items_in (entry_in order) 12 (count_at order bytes) (drop 12 bytes))) (12 * count_at order bytes) number whole fits
    (items_back order (entry_in order) entry_words 12 (count_at order bytes) (drop 12 bytes) (three_back order) (omega (arith, length-drop 12 bytes)) (IsBytes-drop 12 bytes fits)))
kept_back kinds.Float order bytes number whole fits kept = head_back order bytes 16 [] 0 number whole fits refl
kept_back kinds.DeclTag order bytes number whole fits kept = head_back order bytes 17 (word_at order bytes 12 ∷ []) 4 number whole fits (word_after order bytes whole fits)
kept_back kinds.TypeTag order bytes number whole fits kept = head_back order bytes 18 [] 0 number whole fits refl
kept_back kinds.Enum64 order bytes number whole fits kept =
    rw (length-items_in (enum64_in order) 12 (count_at order bytes) (drop 12 bytes))
    (head_back order bytes 19 (flat_map enum64_words (items_in (enum64_in order) 12 (count_at order bytes) (drop 12 bytes))) (12 * count_at order bytes) number whole fits
    (items_back order (enum64_in order) enum64_words 12 (count_at order bytes) (drop 12 bytes) (three_back order) (omega (arith, length-drop 12 bytes)) (IsBytes-drop 12 bytes fits)))

number_of-kind_of : (n : ℕ) → n < 20 → number_of (kind_of n) ≡ n
unfolding kind_of
number_of-kind_of zero lt = refl
number_of-kind_of (suc zero) lt = refl
number_of-kind_of (suc (suc zero)) lt = refl
number_of-kind_of (suc (suc (suc zero))) lt = refl
number_of-kind_of (suc (suc (suc (suc zero)))) lt = refl
number_of-kind_of (suc (suc (suc (suc (suc zero))))) lt = refl
number_of-kind_of (suc (suc (suc (suc (suc (suc zero)))))) lt = refl
number_of-kind_of (suc (suc (suc (suc (suc (suc (suc zero))))))) lt = refl
number_of-kind_of (suc (suc (suc (suc (suc (suc (suc (suc zero)))))))) lt = refl
number_of-kind_of (suc (suc (suc (suc (suc (suc (suc (suc (suc zero))))))))) lt = refl
number_of-kind_of (suc (suc (suc (suc (suc (suc (suc (suc (suc (suc zero)))))))))) lt = refl
number_of-kind_of (suc (suc (suc (suc (suc (suc (suc (suc (suc (suc (suc zero))))))))))) lt = refl
number_of-kind_of (suc (suc (suc (suc (suc (suc (suc (suc (suc (suc (suc (suc zero)))))))))))) lt = refl
number_of-kind_of (suc (suc (suc (suc (suc (suc (suc (suc (suc (suc (suc (suc (suc zero))))))))))))) lt = refl
number_of-kind_of (suc (suc (suc (suc (suc (suc (suc (suc (suc (suc (suc (suc (suc (suc zero)))))))))))))) lt = refl
number_of-kind_of (suc (suc (suc (suc (suc (suc (suc (suc (suc (suc (suc (suc (suc (suc (suc zero))))))))))))))) lt = refl
number_of-kind_of (suc (suc (suc (suc (suc (suc (suc (suc (suc (suc (suc (suc (suc (suc (suc (suc zero)))))))))))))))) lt = refl
number_of-kind_of (suc (suc (suc (suc (suc (suc (suc (suc (suc (suc (suc (suc (suc (suc (suc (suc (suc zero))))))))))))))))) lt = refl
number_of-kind_of (suc (suc (suc (suc (suc (suc (suc (suc (suc (suc (suc (suc (suc (suc (suc (suc (suc (suc zero)))))))))))))))))) lt = refl
number_of-kind_of (suc (suc (suc (suc (suc (suc (suc (suc (suc (suc (suc (suc (suc (suc (suc (suc (suc (suc (suc zero))))))))))))))))))) lt = refl
number_of-kind_of (suc (suc (suc (suc (suc (suc (suc (suc (suc (suc (suc (suc (suc (suc (suc (suc (suc (suc (suc (suc n)))))))))))))))))))) lt = absurd (omega (arith, lt))

-- A record whose bytes are kept is written with the bytes it was read from.
pub is_kept_back : (order : Endianness) (bytes : List ℕ) → HasRecord order bytes → IsBytes bytes → is_kept (kind_at order bytes) order bytes ≡ true → record_bytes order (type_in order bytes) ≡ take (record_len order bytes) bytes
unfolding record_bytes
is_kept_back order bytes has fits kept = kept_back (kind_at order bytes) order bytes (number_of-kind_of (kind_number_at order bytes) has.known) has.whole fits kept

pub is_kept_after : (order : Endianness) (bytes rest : List ℕ) (done : ℕ) → rest ≡ drop done bytes → HasRecord order rest → IsBytes bytes → is_kept (kind_at order rest) order rest ≡ true → record_bytes order (type_in order rest) ≡ take (record_len order rest) rest
is_kept_after order bytes rest done left has fits kept = is_kept_back order rest has (subst (λ (bs : List ℕ). IsBytes bs) (sym left) (IsBytes-drop done bytes fits)) kept
