-- Reading back a record that was written.
use Rattle.std.proofs.Common.{◌≡◌, ℕ, suc, ◌+◌, ◌*◌, ◌^◌, ◌<◌, Bool, true, false, List, [], ◌∷◌, ◌++◌, length, drop, refl, sym, ap, subst, ◌∙◌, arith, length-append, append_assoc, append-nil, nat_eq}
use Rattle.std.specs.Prelude.{All}
use Rattle.std.specs.List.{flat_map}
use Rattle.std.proofs.lemmas.List.Elements.{All-head, All-tail}
use Rattle.std.proofs.lemmas.Nat.{from_le_bytes-to_le_bytes_4, from_be_bytes-to_be_bytes_4}
use Rattle.btf_records.specs.Info.{bit, bits_in, count_in, info_of, kind_number_in}
use Rattle.btf_records.specs.Encodings.{number_of_var_linkage, var_linkage_of}
use Rattle.btf_records.specs.Fields.{kind_of_type, name_offset_of}
use Rattle.btf_encoding.specs.Items.{array_in, array_words, entry_in, entry_words, enum64_in, enum64_words, items_in, member_in, member_words, param_in, param_words, variant_in, variant_words}
use Rattle.btf_records.specs.Kinds.{kind_of, number_of}
use Rattle.btf_encoding.specs.Records.{HasRecord, IsInRange, ReadsBack, Spells, bits_of, count_at, count_of, kind_at, kind_number_at, len_after, record_bytes, record_len, type_as, type_in, without_fallback, words_after, words_of}
use Rattle.btf_records.specs.Words.{word_at, word_bytes, words_bytes}
use Rattle.btf_encoding.proofs.ManyTypes.{follows}
use Rattle.btf_encoding.proofs.WhateverFollows.{reads_same}
use Rattle.btf_records.specs.declared.encoding.VarLinkage.{VarLinkage}
use Rattle.btf_records.specs.declared.encoding.VarLinkage.TheVariants as variables
use Rattle.btf_records.specs.declared.item.BtfArray.{BtfArray}
use Rattle.btf_records.specs.declared.item.BtfEnum.{BtfEnum}
use Rattle.btf_records.specs.declared.item.BtfEnum64.{BtfEnum64}
use Rattle.btf_records.specs.declared.item.BtfMember.{BtfMember}
use Rattle.btf_records.specs.declared.item.BtfParam.{BtfParam}
use Rattle.btf_records.specs.declared.item.DataSecEntry.{DataSecEntry}
use Rattle.btf_records.specs.declared.kind.BtfKind.{BtfKind}
use Rattle.btf_records.specs.declared.kind.BtfKind.TheVariants as kinds
use Rattle.btf_records.specs.declared.types.BtfType.{BtfType}
use Rattle.btf_records.specs.declared.types.BtfType.TheVariants as types
use Rattle.btf_records.specs.declared.info.InfoBits.{InfoBits}
use Rattle.btf_records.specs.declared.words.Endianness.{Endianness}
use Rattle.btf_records.specs.declared.words.Endianness.TheVariants.{Little, Big}

length-word : (order : Endianness) (n : ℕ) → length (word_bytes order n) ≡ 4
unfolding word_bytes
length-word Little n = refl
length-word Big n = refl

pub length-words : (order : Endianness) (ws : List ℕ) → length (words_bytes order ws) ≡ 4 * length ws
length-words order [] = refl
length-words order (w ∷ ws) = omega (arith, length-append (word_bytes order w) (words_bytes order ws), length-word order w, length-words order ws)

-- Three words, and the bytes after them.
abbrev pub three : Endianness → ℕ → ℕ → ℕ → List ℕ → List ℕ
three order a b c rest = word_bytes order a ++ (word_bytes order b ++ (word_bytes order c ++ rest))

pub three_first : (order : Endianness) (a b c : ℕ) (ws rest : List ℕ) → words_bytes order (a ∷ b ∷ c ∷ ws) ++ rest ≡ three order a b c (words_bytes order ws ++ rest)
three_first order a b c ws rest = rw (append_assoc, append_assoc, append_assoc) refl

pub first : (order : Endianness) (a : ℕ) (rest : List ℕ) → a < 2 ^ 32 → word_at order (word_bytes order a ++ rest) 0 ≡ a
unfolding word_bytes word_at
first Little a rest lt = from_le_bytes-to_le_bytes_4 a lt
first Big a rest lt = from_be_bytes-to_be_bytes_4 a lt

pub second : (order : Endianness) (a b : ℕ) (rest : List ℕ) → b < 2 ^ 32 → word_at order (word_bytes order a ++ (word_bytes order b ++ rest)) 4 ≡ b
unfolding word_bytes word_at
second Little a b rest lt = from_le_bytes-to_le_bytes_4 b lt
second Big a b rest lt = from_be_bytes-to_be_bytes_4 b lt

pub third_word : (order : Endianness) (a b c : ℕ) (rest : List ℕ) → c < 2 ^ 32 → word_at order (three order a b c rest) 8 ≡ c
unfolding word_bytes word_at
third_word Little a b c rest lt = from_le_bytes-to_le_bytes_4 c lt
third_word Big a b c rest lt = from_be_bytes-to_be_bytes_4 c lt

pub fourth : (order : Endianness) (bytes : List ℕ) → word_at order bytes 12 ≡ word_at order (drop 12 bytes) 0
unfolding word_at
fourth Little bytes = refl
fourth Big bytes = refl

pub drop-two : (order : Endianness) (a b : ℕ) (rest : List ℕ) → drop 8 (word_bytes order a ++ (word_bytes order b ++ rest)) ≡ rest
unfolding word_bytes
drop-two Little a b rest = refl
drop-two Big a b rest = refl

pub drop-three : (order : Endianness) (a b c : ℕ) (rest : List ℕ) → drop 12 (three order a b c rest) ≡ rest
unfolding word_bytes
drop-three Little a b c rest = refl
drop-three Big a b c rest = refl

bit_small : (b : Bool) → bit b < 2
bit_small true = omega arith
bit_small false = omega arith

bit_is : (b : Bool) → nat_eq (bit b) 1 ≡ b
bit_is true = refl
bit_is false = refl

abbrev bits_from : Bool → Bool → Bool → ℕ → InfoBits
bits_from flag bit_30 bit_29 middle = record { flag = flag; bit_30 = bit_30; bit_29 = bit_29; bits_16_to_23 = middle }

bits_same : (flag bit_30 bit_29 : Bool) (middle : ℕ) (bits : InfoBits) → flag ≡ bits.flag → bit_30 ≡ bits.bit_30 → bit_29 ≡ bits.bit_29 → middle ≡ bits.bits_16_to_23 → bits_from flag bit_30 bit_29 middle ≡ bits
bits_same flag bit_30 bit_29 middle bits a b c d = rw (a, b, c, d) refl

-- The parts of an info word.
record InfoIs (info kind count : ℕ) (bits : InfoBits) : Type 0 where
  pub kind_is : kind_number_in info ≡ kind
  pub count_is : count_in info ≡ count
  pub bits_are : bits_in info ≡ bits

info_parts : (kind count : ℕ) (bits : InfoBits) → kind < 32 → count < 65536 → bits.bits_16_to_23 < 256 → InfoIs (info_of kind count bits) kind count bits
unfolding info_of bits_in
info_parts kind count bits k c m =
    let f : bit bits.flag < 2 = bit_small bits.flag in
    let x : bit bits.bit_30 < 2 = bit_small bits.bit_30 in
    let y : bit bits.bit_29 < 2 = bit_small bits.bit_29 in
    record {
      kind_is = omega arith;
      count_is = omega arith;
      bits_are =
          bits_same _ _ _ _ bits
          (ap (λ (n : ℕ). nat_eq n 1) (omega arith) ∙ bit_is bits.flag)
          (ap (λ (n : ℕ). nat_eq n 1) (omega arith) ∙ bit_is bits.bit_30)
          (ap (λ (n : ℕ). nat_eq n 1) (omega arith) ∙ bit_is bits.bit_29)
          (omega arith);
    }

kind_of-number_of : (k : BtfKind) → kind_of (number_of k) ≡ k
unfolding kind_of
kind_of-number_of kinds.Unknown = refl
kind_of-number_of kinds.Int = refl
kind_of-number_of kinds.Ptr = refl
kind_of-number_of kinds.Array = refl
kind_of-number_of kinds.Struct = refl
kind_of-number_of kinds.Union = refl
kind_of-number_of kinds.Enum = refl
kind_of-number_of kinds.Fwd = refl
kind_of-number_of kinds.Typedef = refl
kind_of-number_of kinds.Volatile = refl
kind_of-number_of kinds.Const = refl
kind_of-number_of kinds.Restrict = refl
kind_of-number_of kinds.Func = refl
kind_of-number_of kinds.FuncProto = refl
kind_of-number_of kinds.Var = refl
kind_of-number_of kinds.DataSec = refl
kind_of-number_of kinds.Float = refl
kind_of-number_of kinds.DeclTag = refl
kind_of-number_of kinds.TypeTag = refl
kind_of-number_of kinds.Enum64 = refl

number_of-small : (k : BtfKind) → number_of k < 20
number_of-small kinds.Unknown = omega arith
number_of-small kinds.Int = omega arith
number_of-small kinds.Ptr = omega arith
number_of-small kinds.Array = omega arith
number_of-small kinds.Struct = omega arith
number_of-small kinds.Union = omega arith
number_of-small kinds.Enum = omega arith
number_of-small kinds.Fwd = omega arith
number_of-small kinds.Typedef = omega arith
number_of-small kinds.Volatile = omega arith
number_of-small kinds.Const = omega arith
number_of-small kinds.Restrict = omega arith
number_of-small kinds.Func = omega arith
number_of-small kinds.FuncProto = omega arith
number_of-small kinds.Var = omega arith
number_of-small kinds.DataSec = omega arith
number_of-small kinds.Float = omega arith
number_of-small kinds.DeclTag = omega arith
number_of-small kinds.TypeTag = omega arith
number_of-small kinds.Enum64 = omega arith

-- The third word of a record.
abbrev third_of : BtfType → ℕ
third_of types.Unknown = 0
third_of (types.Int t) = t.size
third_of (types.Ptr t) = t.btf_type
third_of (types.Array t) = 0
third_of (types.Struct t) = t.size
third_of (types.Union t) = t.size
third_of (types.Enum t) = t.size
third_of (types.Fwd t) = 0
third_of (types.Typedef t) = t.btf_type
third_of (types.Volatile t) = t.btf_type
third_of (types.Const t) = t.btf_type
third_of (types.Restrict t) = t.btf_type
third_of (types.Func t) = t.btf_type
third_of (types.FuncProto t) = t.return_type
third_of (types.Var t) = t.btf_type
third_of (types.DataSec t) = t.size
third_of (types.Float t) = t.size
third_of (types.DeclTag t) = t.btf_type
third_of (types.TypeTag t) = t.btf_type
third_of (types.Enum64 t) = t.size

words_parts : (t : BtfType) → words_of t ≡ name_offset_of t ∷ info_of (number_of (kind_of_type t)) (count_of t) (bits_of t) ∷ third_of t ∷ words_after t
unfolding info_of
words_parts types.Unknown = refl
words_parts (types.Int t) = refl
words_parts (types.Ptr t) = refl
words_parts (types.Array t) = refl
words_parts (types.Struct t) = refl
words_parts (types.Union t) = refl
words_parts (types.Enum t) = refl
words_parts (types.Fwd t) = refl
words_parts (types.Typedef t) = refl
words_parts (types.Volatile t) = refl
words_parts (types.Const t) = refl
words_parts (types.Restrict t) = refl
words_parts (types.Func t) = refl
words_parts (types.FuncProto t) = refl
words_parts (types.Var t) = refl
words_parts (types.DataSec t) = refl
words_parts (types.Float t) = refl
words_parts (types.DeclTag t) = refl
words_parts (types.TypeTag t) = refl
words_parts (types.Enum64 t) = refl

-- The first three words of a record, and the bytes after them.
record HeadIs (order : Endianness) (bytes : List ℕ) (t : BtfType) (rest : List ℕ) : Type 0 where
  pub kind_is : kind_at order bytes ≡ kind_of_type t
  pub number_is : kind_number_at order bytes ≡ number_of (kind_of_type t)
  pub name_is : word_at order bytes 0 ≡ name_offset_of t
  pub count_is : count_at order bytes ≡ count_of t
  pub bits_are : bits_in (word_at order bytes 4) ≡ bits_of t
  pub third_is : word_at order bytes 8 ≡ third_of t
  pub rest_is : drop 12 bytes ≡ rest

head_from : (order : Endianness) (t : BtfType) (name info third : ℕ) (rest bytes : List ℕ) → bytes ≡ three order name info third rest → name < 2 ^ 32 → info < 2 ^ 32 → third < 2 ^ 32 → name ≡ name_offset_of t → third ≡ third_of t → InfoIs info (number_of (kind_of_type t)) (count_of t) (bits_of t) → HeadIs order bytes t rest
head_from order t name info third rest bytes parts n i h name_is third_is parts_of =
    let word : word_at order bytes 4 ≡ info = rw parts (second order name info _ i) in
    record {
      kind_is = ap (λ (w : ℕ). kind_of (kind_number_in w)) word ∙ ap kind_of parts_of.kind_is ∙ kind_of-number_of (kind_of_type t);
      number_is = ap kind_number_in word ∙ parts_of.kind_is;
      name_is = rw parts (first order name _ n) ∙ name_is;
      count_is = ap count_in word ∙ parts_of.count_is;
      bits_are = ap bits_in word ∙ parts_of.bits_are;
      third_is = rw parts (third_word order name info third rest h) ∙ third_is;
      rest_is = rw parts (drop-three order name info third rest);
    }

-- Each word fits 32 bits.
abbrev Fit : List ℕ → Type 0
Fit [] = Unit {0}
Fit (w ∷ ws) = (w < 2 ^ 32) × Fit ws

fit-All : (ws : List ℕ) → All (λ w. w < 2 ^ 32) ws → Fit ws
fit-All [] h = tt
fit-All (w ∷ ws) h = (All-head (λ (n : ℕ). n < 2 ^ 32) w ws h, fit-All ws (All-tail (λ (n : ℕ). n < 2 ^ 32) w ws h))

fit_parts : (t : BtfType) → IsInRange t → Fit (name_offset_of t ∷ info_of (number_of (kind_of_type t)) (count_of t) (bits_of t) ∷ third_of t ∷ words_after t)
fit_parts t r = subst (λ (ws : List ℕ). Fit ws) (words_parts t) (fit-All (words_of t) r.words)

head_written : (order : Endianness) (t : BtfType) (after : List ℕ) → IsInRange t → HeadIs order (words_bytes order (words_of t) ++ after) t (words_bytes order (words_after t) ++ after)
head_written order t after r =
    let info : ℕ = info_of (number_of (kind_of_type t)) (count_of t) (bits_of t) in
    let fits : Fit (name_offset_of t ∷ info ∷ third_of t ∷ words_after t) = fit_parts t r in
    let small : number_of (kind_of_type t) < 20 = number_of-small (kind_of_type t) in
    head_from order t (name_offset_of t) info (third_of t) (words_bytes order (words_after t) ++ after) (words_bytes order (words_of t) ++ after)
    (ap (λ (ws : List ℕ). words_bytes order ws ++ after) (words_parts t) ∙ three_first order (name_offset_of t) info (third_of t) (words_after t) after)
    fits.0 fits.1.0 fits.1.1.0
    refl refl
    (info_parts (number_of (kind_of_type t)) (count_of t) (bits_of t) (omega arith) r.count r.bits)

cons_same : {X : Type 0} (x y : X) (xs ys : List X) → x ≡ y → xs ≡ ys → x ∷ xs ≡ y ∷ ys
cons_same x y xs ys p q = rw (p, q) refl

two_first : (order : Endianness) (a b : ℕ) (ws rest : List ℕ) → words_bytes order (a ∷ b ∷ ws) ++ rest ≡ word_bytes order a ++ (word_bytes order b ++ (words_bytes order ws ++ rest))
two_first order a b ws rest = rw (append_assoc, append_assoc) refl

member_back : (order : Endianness) (x : BtfMember) (rest : List ℕ) → Fit (member_words x) → member_in order (three order x.name_offset x.btf_type x.offset rest) ≡ x
member_back order x rest h =
    let one = first order x.name_offset (word_bytes order x.btf_type ++ (word_bytes order x.offset ++ rest)) h.0 in
    let two = second order x.name_offset x.btf_type (word_bytes order x.offset ++ rest) h.1.0 in
    let three = third_word order x.name_offset x.btf_type x.offset rest h.1.1.0 in
    rw (one, two, three) refl

members_back : (order : Endianness) (xs : List BtfMember) (rest : List ℕ) → Fit (flat_map member_words xs) → items_in (member_in order) 12 (length xs) (words_bytes order (flat_map member_words xs) ++ rest) ≡ xs
members_back order [] rest h = refl
members_back order (x ∷ xs) rest h =
    let left : List ℕ = words_bytes order (flat_map member_words xs) ++ rest in
    let parts : words_bytes order (flat_map member_words (x ∷ xs)) ++ rest ≡ three order x.name_offset x.btf_type x.offset left = three_first order x.name_offset x.btf_type x.offset (flat_map member_words xs) rest in
    let fits : Fit (member_words x) = (h.0, (h.1.0, (h.1.1.0, tt))) in
    let others : Fit (flat_map member_words xs) = h.1.1.1 in
    ap (λ (bytes : List ℕ). items_in (member_in order) 12 (suc (length xs)) bytes) parts
    ∙ cons_same _ _ _ _ (member_back order x left fits) (ap (λ (bytes : List ℕ). items_in (member_in order) 12 (length xs) bytes) (drop-three order x.name_offset x.btf_type x.offset left) ∙ members_back order xs rest others)

enum64_back : (order : Endianness) (x : BtfEnum64) (rest : List ℕ) → Fit (enum64_words x) → enum64_in order (three order x.name_offset x.value_low x.value_high rest) ≡ x
enum64_back order x rest h =
    let one = first order x.name_offset (word_bytes order x.value_low ++ (word_bytes order x.value_high ++ rest)) h.0 in
    let two = second order x.name_offset x.value_low (word_bytes order x.value_high ++ rest) h.1.0 in
    let three = third_word order x.name_offset x.value_low x.value_high rest h.1.1.0 in
    rw (one, two, three) refl

enum64s_back : (order : Endianness) (xs : List BtfEnum64) (rest : List ℕ) → Fit (flat_map enum64_words xs) → items_in (enum64_in order) 12 (length xs) (words_bytes order (flat_map enum64_words xs) ++ rest) ≡ xs
enum64s_back order [] rest h = refl
enum64s_back order (x ∷ xs) rest h =
    let left : List ℕ = words_bytes order (flat_map enum64_words xs) ++ rest in
    let parts : words_bytes order (flat_map enum64_words (x ∷ xs)) ++ rest ≡ three order x.name_offset x.value_low x.value_high left = three_first order x.name_offset x.value_low x.value_high (flat_map enum64_words xs) rest in
    let fits : Fit (enum64_words x) = (h.0, (h.1.0, (h.1.1.0, tt))) in
    let others : Fit (flat_map enum64_words xs) = h.1.1.1 in
    ap (λ (bytes : List ℕ). items_in (enum64_in order) 12 (suc (length xs)) bytes) parts
    ∙ cons_same _ _ _ _ (enum64_back order x left fits) (ap (λ (bytes : List ℕ). items_in (enum64_in order) 12 (length xs) bytes) (drop-three order x.name_offset x.value_low x.value_high left) ∙ enum64s_back order xs rest others)

entry_back : (order : Endianness) (x : DataSecEntry) (rest : List ℕ) → Fit (entry_words x) → entry_in order (three order x.btf_type x.offset x.size rest) ≡ x
entry_back order x rest h =
    let one = first order x.btf_type (word_bytes order x.offset ++ (word_bytes order x.size ++ rest)) h.0 in
    let two = second order x.btf_type x.offset (word_bytes order x.size ++ rest) h.1.0 in
    let three = third_word order x.btf_type x.offset x.size rest h.1.1.0 in
    rw (one, two, three) refl

entrys_back : (order : Endianness) (xs : List DataSecEntry) (rest : List ℕ) → Fit (flat_map entry_words xs) → items_in (entry_in order) 12 (length xs) (words_bytes order (flat_map entry_words xs) ++ rest) ≡ xs
entrys_back order [] rest h = refl
entrys_back order (x ∷ xs) rest h =
    let left : List ℕ = words_bytes order (flat_map entry_words xs) ++ rest in
    let parts : words_bytes order (flat_map entry_words (x ∷ xs)) ++ rest ≡ three order x.btf_type x.offset x.size left = three_first order x.btf_type x.offset x.size (flat_map entry_words xs) rest in
    let fits : Fit (entry_words x) = (h.0, (h.1.0, (h.1.1.0, tt))) in
    let others : Fit (flat_map entry_words xs) = h.1.1.1 in
    ap (λ (bytes : List ℕ). items_in (entry_in order) 12 (suc (length xs)) bytes) parts
    ∙ cons_same _ _ _ _ (entry_back order x left fits) (ap (λ (bytes : List ℕ). items_in (entry_in order) 12 (length xs) bytes) (drop-three order x.btf_type x.offset x.size left) ∙ entrys_back order xs rest others)

variant_back : (order : Endianness) (x : BtfEnum) (rest : List ℕ) → Fit (variant_words x) → variant_in order (word_bytes order x.name_offset ++ (word_bytes order x.value ++ rest)) ≡ x
variant_back order x rest h =
    let one = first order x.name_offset (word_bytes order x.value ++ rest) h.0 in
    let two = second order x.name_offset x.value rest h.1.0 in
    rw (one, two) refl

variants_back : (order : Endianness) (xs : List BtfEnum) (rest : List ℕ) → Fit (flat_map variant_words xs) → items_in (variant_in order) 8 (length xs) (words_bytes order (flat_map variant_words xs) ++ rest) ≡ xs
variants_back order [] rest h = refl
variants_back order (x ∷ xs) rest h =
    let left : List ℕ = words_bytes order (flat_map variant_words xs) ++ rest in
    let parts : words_bytes order (flat_map variant_words (x ∷ xs)) ++ rest ≡ word_bytes order x.name_offset ++ (word_bytes order x.value ++ left) = two_first order x.name_offset x.value (flat_map variant_words xs) rest in
    let fits : Fit (variant_words x) = (h.0, (h.1.0, tt)) in
    let others : Fit (flat_map variant_words xs) = h.1.1 in
    ap (λ (bytes : List ℕ). items_in (variant_in order) 8 (suc (length xs)) bytes) parts
    ∙ cons_same _ _ _ _ (variant_back order x left fits) (ap (λ (bytes : List ℕ). items_in (variant_in order) 8 (length xs) bytes) (drop-two order x.name_offset x.value left) ∙ variants_back order xs rest others)

param_back : (order : Endianness) (x : BtfParam) (rest : List ℕ) → Fit (param_words x) → param_in order (word_bytes order x.name_offset ++ (word_bytes order x.btf_type ++ rest)) ≡ x
param_back order x rest h =
    let one = first order x.name_offset (word_bytes order x.btf_type ++ rest) h.0 in
    let two = second order x.name_offset x.btf_type rest h.1.0 in
    rw (one, two) refl

params_back : (order : Endianness) (xs : List BtfParam) (rest : List ℕ) → Fit (flat_map param_words xs) → items_in (param_in order) 8 (length xs) (words_bytes order (flat_map param_words xs) ++ rest) ≡ xs
params_back order [] rest h = refl
params_back order (x ∷ xs) rest h =
    let left : List ℕ = words_bytes order (flat_map param_words xs) ++ rest in
    let parts : words_bytes order (flat_map param_words (x ∷ xs)) ++ rest ≡ word_bytes order x.name_offset ++ (word_bytes order x.btf_type ++ left) = two_first order x.name_offset x.btf_type (flat_map param_words xs) rest in
    let fits : Fit (param_words x) = (h.0, (h.1.0, tt)) in
    let others : Fit (flat_map param_words xs) = h.1.1 in
    ap (λ (bytes : List ℕ). items_in (param_in order) 8 (suc (length xs)) bytes) parts
    ∙ cons_same _ _ _ _ (param_back order x left fits) (ap (λ (bytes : List ℕ). items_in (param_in order) 8 (length xs) bytes) (drop-two order x.name_offset x.btf_type left) ∙ params_back order xs rest others)

array_back : (order : Endianness) (x : BtfArray) (rest : List ℕ) → Fit (array_words x) → array_in order (three order x.element_type x.index_type x.len rest) ≡ x
array_back order x rest h =
    let one = first order x.element_type (word_bytes order x.index_type ++ (word_bytes order x.len ++ rest)) h.0 in
    let two = second order x.element_type x.index_type (word_bytes order x.len ++ rest) h.1.0 in
    let three = third_word order x.element_type x.index_type x.len rest h.1.1.0 in
    rw (one, two, three) refl

var_linkage-number : (l : VarLinkage) → var_linkage_of (number_of_var_linkage l) ≡ l
var_linkage-number variables.Static = refl
var_linkage-number variables.Global = refl
var_linkage-number variables.Extern = refl
var_linkage-number variables.Unknown = refl

-- The word after the first three.
word_after : (order : Endianness) (bytes after : List ℕ) (w : ℕ) → drop 12 bytes ≡ words_bytes order (w ∷ []) ++ after → w < 2 ^ 32 → word_at order bytes 12 ≡ w
word_after order bytes after w rest lt =
    fourth order bytes ∙ ap (λ (b : List ℕ). word_at order b 0) (rest ∙ append_assoc (word_bytes order w) [] after) ∙ first order w after lt

same : (order : Endianness) (t : BtfType) (bytes after : List ℕ) → HeadIs order bytes t (words_bytes order (words_after t) ++ after) → Fit (words_after t) → type_in order bytes ≡ without_fallback t
same order types.Unknown bytes after h fits = ap (λ (k : BtfKind). type_as k order bytes) h.kind_is
same order (types.Int t) bytes after h fits =
    let word = word_after order bytes after t.int_word h.rest_is fits.0 in
    ap (λ (k : BtfKind). type_as k order bytes) h.kind_is ∙ rw (word, h.name_is, h.bits_are, h.count_is, h.third_is) refl
same order (types.Ptr t) bytes after h fits =
    ap (λ (k : BtfKind). type_as k order bytes) h.kind_is ∙ rw (h.name_is, h.bits_are, h.count_is, h.third_is) refl
same order (types.Array t) bytes after h fits =
    let array : array_in order (drop 12 bytes) ≡ t.array = ap (array_in order) (h.rest_is ∙ three_first order t.array.element_type t.array.index_type t.array.len [] after) ∙ array_back order t.array after fits in
    ap (λ (k : BtfKind). type_as k order bytes) h.kind_is ∙ rw (array, h.name_is, h.bits_are, h.count_is) refl
same order (types.Struct t) bytes after h fits =
    let list : items_in (member_in order) 12 (count_at order bytes) (drop 12 bytes) ≡ t.members = rw (h.count_is, h.rest_is) (members_back order t.members after fits) in
    ap (λ (k : BtfKind). type_as k order bytes) h.kind_is ∙ rw (list, h.name_is, h.bits_are, h.third_is) refl
same order (types.Union t) bytes after h fits =
    let list : items_in (member_in order) 12 (count_at order bytes) (drop 12 bytes) ≡ t.members = rw (h.count_is, h.rest_is) (members_back order t.members after fits) in
    ap (λ (k : BtfKind). type_as k order bytes) h.kind_is ∙ rw (list, h.name_is, h.bits_are, h.third_is) refl
same order (types.Enum t) bytes after h fits =
    let list : items_in (variant_in order) 8 (count_at order bytes) (drop 12 bytes) ≡ t.variants = rw (h.count_is, h.rest_is) (variants_back order t.variants after fits) in
    ap (λ (k : BtfKind). type_as k order bytes) h.kind_is ∙ rw (list, h.name_is, h.bits_are, h.third_is) refl
same order (types.Fwd t) bytes after h fits =
    ap (λ (k : BtfKind). type_as k order bytes) h.kind_is ∙ rw (h.name_is, h.bits_are, h.count_is) refl
same order (types.Typedef t) bytes after h fits =
    ap (λ (k : BtfKind). type_as k order bytes) h.kind_is ∙ rw (h.name_is, h.bits_are, h.count_is, h.third_is) refl
same order (types.Volatile t) bytes after h fits =
    ap (λ (k : BtfKind). type_as k order bytes) h.kind_is ∙ rw (h.name_is, h.bits_are, h.count_is, h.third_is) refl
same order (types.Const t) bytes after h fits =
    ap (λ (k : BtfKind). type_as k order bytes) h.kind_is ∙ rw (h.name_is, h.bits_are, h.count_is, h.third_is) refl
same order (types.Restrict t) bytes after h fits =
    ap (λ (k : BtfKind). type_as k order bytes) h.kind_is ∙ rw (h.name_is, h.bits_are, h.count_is, h.third_is) refl
same order (types.Func t) bytes after h fits =
    ap (λ (k : BtfKind). type_as k order bytes) h.kind_is ∙ rw (h.name_is, h.bits_are, h.count_is, h.third_is) refl
same order (types.FuncProto t) bytes after h fits =
    let list : items_in (param_in order) 8 (count_at order bytes) (drop 12 bytes) ≡ t.params = rw (h.count_is, h.rest_is) (params_back order t.params after fits) in
    ap (λ (k : BtfKind). type_as k order bytes) h.kind_is ∙ rw (list, h.name_is, h.bits_are, h.third_is) refl
same order (types.Var t) bytes after h fits =
    let linkage : var_linkage_of (word_at order bytes 12) ≡ t.linkage = ap var_linkage_of (word_after order bytes after (number_of_var_linkage t.linkage) h.rest_is fits.0) ∙ var_linkage-number t.linkage in
    ap (λ (k : BtfKind). type_as k order bytes) h.kind_is ∙ rw (linkage, h.name_is, h.bits_are, h.count_is, h.third_is) refl
same order (types.DataSec t) bytes after h fits =
    let list : items_in (entry_in order) 12 (count_at order bytes) (drop 12 bytes) ≡ t.entries = rw (h.count_is, h.rest_is) (entrys_back order t.entries after fits) in
    ap (λ (k : BtfKind). type_as k order bytes) h.kind_is ∙ rw (list, h.name_is, h.bits_are, h.third_is) refl
same order (types.Float t) bytes after h fits =
    ap (λ (k : BtfKind). type_as k order bytes) h.kind_is ∙ rw (h.name_is, h.bits_are, h.count_is, h.third_is) refl
same order (types.DeclTag t) bytes after h fits =
    let word = word_after order bytes after t.index_word h.rest_is fits.0 in
    ap (λ (k : BtfKind). type_as k order bytes) h.kind_is ∙ rw (word, h.name_is, h.bits_are, h.count_is, h.third_is) refl
same order (types.TypeTag t) bytes after h fits =
    ap (λ (k : BtfKind). type_as k order bytes) h.kind_is ∙ rw (h.name_is, h.bits_are, h.count_is, h.third_is) refl
same order (types.Enum64 t) bytes after h fits =
    let list : items_in (enum64_in order) 12 (count_at order bytes) (drop 12 bytes) ≡ t.variants = rw (h.count_is, h.rest_is) (enum64s_back order t.variants after fits) in
    ap (λ (k : BtfKind). type_as k order bytes) h.kind_is ∙ rw (list, h.name_is, h.bits_are, h.third_is) refl

length-flat : {X : Type 0} (words : X → List ℕ) (n : ℕ) (xs : List X) → ((x : X) → length (words x) ≡ n) → length (flat_map words xs) ≡ n * length xs
length-flat words n [] h = omega arith
length-flat words n (x ∷ xs) h = length-append (words x) (flat_map words xs) ∙ omega (arith, h x, length-flat words n xs h)

len_same : (t : BtfType) → 12 + len_after (kind_of_type t) (count_of t) ≡ 4 * length (words_of t)
len_same types.Unknown = refl
len_same (types.Int t) = refl
len_same (types.Ptr t) = refl
len_same (types.Array t) = refl
len_same (types.Struct t) = omega (arith, length-flat member_words 3 t.members (λ x. refl))
len_same (types.Union t) = omega (arith, length-flat member_words 3 t.members (λ x. refl))
len_same (types.Enum t) = omega (arith, length-flat variant_words 2 t.variants (λ x. refl))
len_same (types.Fwd t) = refl
len_same (types.Typedef t) = refl
len_same (types.Volatile t) = refl
len_same (types.Const t) = refl
len_same (types.Restrict t) = refl
len_same (types.Func t) = refl
len_same (types.FuncProto t) = omega (arith, length-flat param_words 2 t.params (λ x. refl))
len_same (types.Var t) = refl
len_same (types.DataSec t) = omega (arith, length-flat entry_words 3 t.entries (λ x. refl))
len_same (types.Float t) = refl
len_same (types.DeclTag t) = refl
len_same (types.TypeTag t) = refl
len_same (types.Enum64 t) = omega (arith, length-flat enum64_words 3 t.variants (λ x. refl))

len : (order : Endianness) (t : BtfType) (bytes rest : List ℕ) → HeadIs order bytes t rest → record_len order bytes ≡ length (words_bytes order (words_of t))
len order t bytes rest h = rw (h.kind_is, h.count_is) (len_same t ∙ sym (length-words order (words_of t)))

begins : (order : Endianness) (t : BtfType) (after : List ℕ) → IsInRange t → HasRecord order (words_bytes order (words_of t) ++ after)
begins order t after r =
    let h : HeadIs order (words_bytes order (words_of t) ++ after) t (words_bytes order (words_after t) ++ after) = head_written order t after r in
    let whole : record_len order (words_bytes order (words_of t) ++ after) ≡ length (words_bytes order (words_of t)) = len order t _ _ h in
    let long : length (words_bytes order (words_of t) ++ after) ≡ length (words_bytes order (words_of t)) + length after = length-append (words_bytes order (words_of t)) after in
    let small : number_of (kind_of_type t) < 20 = number_of-small (kind_of_type t) in
    record {
      head = omega (arith, whole, long);
      known = omega (arith, h.number_is);
      whole = omega (arith, whole, long);
    }

follows_written : (order : Endianness) (t : BtfType) → IsInRange t → (front : List BtfType) (bytes : List ℕ) → Spells order front bytes → Spells order (front ++ without_fallback t ∷ []) (bytes ++ words_bytes order (words_of t))
follows_written order t r =
    let head : HeadIs order (words_bytes order (words_of t) ++ []) t (words_bytes order (words_after t) ++ []) = head_written order t [] r in
    let alone : words_bytes order (words_of t) ++ [] ≡ words_bytes order (words_of t) = append-nil (words_bytes order (words_of t)) in
    follows order (without_fallback t) (words_bytes order (words_of t))
    (subst (λ (bs : List ℕ). HasRecord order bs) alone (begins order t [] r))
    (subst (λ (bs : List ℕ). type_in order bs ≡ without_fallback t) alone (same order t _ [] head (fit_parts t r).1.1.1))
    (subst (λ (bs : List ℕ). record_len order bs ≡ length (words_bytes order (words_of t))) alone (len order t _ _ head))

pub read_back : (order : Endianness) (t : BtfType) → IsInRange t → ReadsBack order t
unfolding record_bytes
read_back order t r = record {
  begins = λ after. begins order t after r;
  same = λ after. same order t _ after (head_written order t after r) (fit_parts t r).1.1.1;
  len = λ after. len order t _ _ (head_written order t after r);
  alone = reads_same order (words_bytes order (words_of t)) (subst (λ (bs : List ℕ). HasRecord order bs) (append-nil (words_bytes order (words_of t))) (begins order t [] r));
  follows = follows_written order t r;
}
