-- Reading back a header that was written.
use Rattle.std.proofs.Common.{◌≡◌, ℕ, ◌+◌, ◌<◌, ◌^◌, List, ◌∷◌, ◌++◌, length, drop, refl, sym, ap, subst, ◌∙◌, arith, append-nil, append_assoc, length-append, slice_index}
use Rattle.std.proofs.lemmas.Nat.{from_le_bytes-to_le_bytes_2, from_be_bytes-to_be_bytes_2, from_le_bytes-to_le_bytes_4, from_be_bytes-to_be_bytes_4}
use Rattle.std.proofs.lemmas.List.{drop-drop}
use Rattle.std.proofs.Math.Seq.{drop-append_seam, take-append_seam, take-length}
use Rattle.btf_tables.specs.Sections.{HoldsTable}
use Rattle.btf_tables.specs.Headers.{bytes_of_header}
use Rattle.btf_tables.specs.declared.section.Header.{Header}
use Rattle.btf_tables.proofs.Sections.{holds_table}
use Rattle.btf_encoding.specs.Records.{Spells}
use Rattle.btf_tables.specs.Tables.{IsTable, Table, string_bytes_in, strings_start, type_bytes_in, types_start}
use Rattle.btf_tables.specs.HalfWords.{half_at, half_bytes}
use Rattle.btf_records.specs.Words.{word_at, word_bytes}
use Rattle.btf_records.specs.declared.words.Endianness.{Endianness}
use Rattle.btf_records.specs.declared.words.Endianness.TheVariants.{Little, Big}

-- A header, and the bytes after it.
abbrev pub headed : Endianness → Header → List ℕ → List ℕ
headed order h rest = half_bytes order h.magic ++ (h.version ∷ h.flags ∷ (word_bytes order 24 ++ (word_bytes order 0 ++ (word_bytes order h.types_len ++ (word_bytes order h.types_len ++ (word_bytes order h.strings_len ++ rest))))))

pub is_headed : (order : Endianness) (h : Header) (rest : List ℕ) → bytes_of_header order h ++ rest ≡ headed order h rest
is_headed order h rest = simp (append_assoc, append-nil)

magic_at : (order : Endianness) (h : Header) (rest : List ℕ) → h.magic < 2 ^ 16 → half_at order (headed order h rest) 0 ≡ h.magic
unfolding half_at half_bytes word_bytes
magic_at Little h rest lt = from_le_bytes-to_le_bytes_2 h.magic lt
magic_at Big h rest lt = from_be_bytes-to_be_bytes_2 h.magic lt

version_at : (order : Endianness) (h : Header) (rest : List ℕ) → slice_index (headed order h rest) 2 ≡ h.version
unfolding half_bytes word_bytes
version_at Little h rest = refl
version_at Big h rest = refl

flags_at : (order : Endianness) (h : Header) (rest : List ℕ) → slice_index (headed order h rest) 3 ≡ h.flags
unfolding half_bytes word_bytes
flags_at Little h rest = refl
flags_at Big h rest = refl

header_len_at : (order : Endianness) (h : Header) (rest : List ℕ) → word_at order (headed order h rest) 4 ≡ 24
unfolding word_at half_bytes word_bytes
header_len_at Little h rest = from_le_bytes-to_le_bytes_4 24 (omega arith)
header_len_at Big h rest = from_be_bytes-to_be_bytes_4 24 (omega arith)

types_at_0 : (order : Endianness) (h : Header) (rest : List ℕ) → word_at order (headed order h rest) 8 ≡ 0
unfolding word_at half_bytes word_bytes
types_at_0 Little h rest = from_le_bytes-to_le_bytes_4 0 (omega arith)
types_at_0 Big h rest = from_be_bytes-to_be_bytes_4 0 (omega arith)

types_len_at : (order : Endianness) (h : Header) (rest : List ℕ) → h.types_len < 2 ^ 32 → word_at order (headed order h rest) 12 ≡ h.types_len
unfolding word_at half_bytes word_bytes
types_len_at Little h rest lt = from_le_bytes-to_le_bytes_4 h.types_len lt
types_len_at Big h rest lt = from_be_bytes-to_be_bytes_4 h.types_len lt

strings_at : (order : Endianness) (h : Header) (rest : List ℕ) → h.types_len < 2 ^ 32 → word_at order (headed order h rest) 16 ≡ h.types_len
unfolding word_at half_bytes word_bytes
strings_at Little h rest lt = from_le_bytes-to_le_bytes_4 h.types_len lt
strings_at Big h rest lt = from_be_bytes-to_be_bytes_4 h.types_len lt

strings_len_at : (order : Endianness) (h : Header) (rest : List ℕ) → h.strings_len < 2 ^ 32 → word_at order (headed order h rest) 20 ≡ h.strings_len
unfolding word_at half_bytes word_bytes
strings_len_at Little h rest lt = from_le_bytes-to_le_bytes_4 h.strings_len lt
strings_len_at Big h rest lt = from_be_bytes-to_be_bytes_4 h.strings_len lt

after_header : (order : Endianness) (h : Header) (rest : List ℕ) → drop 24 (headed order h rest) ≡ rest
unfolding half_bytes word_bytes
after_header Little h rest = refl
after_header Big h rest = refl

length_headed : (order : Endianness) (h : Header) (rest : List ℕ) → length (headed order h rest) ≡ 24 + length rest
unfolding half_bytes word_bytes
length_headed Little h rest = omega arith
length_headed Big h rest = omega arith

-- The header gives these types and strings, and belongs to this table.
pub record Tells (order : Endianness) (h : Header) (ts ss : List ℕ) (table : Table) : Type 0 where
  pub types_len : h.types_len ≡ length ts
  pub strings_len : h.strings_len ≡ length ss
  pub few_types : h.types_len < 2 ^ 32
  pub few_strings : h.strings_len < 2 ^ 32
  pub magic_fits : h.magic < 2 ^ 16
  pub same_order : table.order ≡ order
  pub magic : table.magic ≡ h.magic
  pub version : table.version ≡ h.version
  pub flags : table.flags ≡ h.flags
  pub strings : table.strings ≡ ss
  pub spelled : Spells order table.types ts

types_of_section : (order : Endianness) (h : Header) (types strings : List ℕ) (table : Table) → Tells order h types strings table → type_bytes_in order (headed order h (types ++ strings)) ≡ types
types_of_section order h types strings table tells =
    let b = headed order h (types ++ strings) in
    let len = types_len_at order h (types ++ strings) tells.few_types ∙ tells.types_len in
    let start : types_start order b ≡ 24 = rw (header_len_at order h (types ++ strings), types_at_0 order h (types ++ strings)) refl in
    let rest : drop (types_start order b) b ≡ types ++ strings = ap (λ (n : ℕ). drop n b) start ∙ after_header order h (types ++ strings) in
    rw (len, rest) (take-append_seam types strings)

strings_of_section : (order : Endianness) (h : Header) (types strings : List ℕ) (table : Table) → Tells order h types strings table → string_bytes_in order (headed order h (types ++ strings)) ≡ strings
strings_of_section order h types strings table tells =
    let b = headed order h (types ++ strings) in
    let len = strings_len_at order h (types ++ strings) tells.few_strings ∙ tells.strings_len in
    let start : strings_start order b ≡ 24 + length types = rw (header_len_at order h (types ++ strings), strings_at order h (types ++ strings) tells.few_types, tells.types_len) refl in
    let rest : drop (24 + length types) b ≡ strings = sym (drop-drop (length types) 24 b) ∙ (ap (drop (length types)) (after_header order h (types ++ strings)) ∙ drop-append_seam types strings) in
    rw (len, start, rest) (take-length strings)

section_is_table : (order : Endianness) (h : Header) (types strings : List ℕ) (table : Table) → Tells order h types strings table → IsTable order (headed order h (types ++ strings)) table
section_is_table order h types strings table tells =
    let rest = types ++ strings in
    let all : length (headed order h rest) ≡ 24 + (length types + length strings) = length_headed order h rest ∙ ap (λ (n : ℕ). 24 + n) (length-append types strings) in
    let four = header_len_at order h rest in
    let eight = types_at_0 order h rest in
    let twelve = types_len_at order h rest tells.few_types in
    let sixteen = strings_at order h rest tells.few_types in
    let twenty = strings_len_at order h rest tells.few_strings in
    record {
      head = omega (arith, all);
      strings_within = omega (arith, all, four, sixteen, twenty, tells.types_len, tells.strings_len);
      types_within = omega (arith, all, four, eight, twelve, tells.types_len);
      same_order = tells.same_order;
      magic = tells.magic ∙ sym (magic_at order h rest tells.magic_fits);
      version = tells.version ∙ sym (version_at order h rest);
      flags = tells.flags ∙ sym (flags_at order h rest);
      strings = tells.strings ∙ sym (strings_of_section order h types strings table tells);
      types = subst (λ (b : List ℕ). Spells order table.types b) (sym (types_of_section order h types strings table tells)) tells.spelled;
    }

pub section_holds : (order : Endianness) (h : Header) (types strings bytes : List ℕ) (table : Table) → bytes ≡ (bytes_of_header order h ++ types) ++ strings → Tells order h types strings table → HoldsTable order bytes table
section_holds order h types strings bytes table is tells =
    let same : bytes ≡ headed order h (types ++ strings) = is ∙ (append_assoc (bytes_of_header order h) types strings ∙ is_headed order h (types ++ strings)) in
    subst (λ (b : List ℕ). HoldsTable order b table) (sym same) (holds_table order (headed order h (types ++ strings)) table (section_is_table order h types strings table tells))
