-- Appending bytes leaves the record that the bytes begin with as it is.
use Rattle.std.proofs.Common.{◌≡◌, ℕ, zero, suc, ◌+◌, ◌*◌, ◌≤◌, List, ◌++◌, length, take, drop, refl, ap, ◌∙◌, arith, length-append, length-drop}
use Rattle.std.proofs.lemmas.List.{drop-append-le, take-append-le}
use Rattle.std.specs.Int.{w32, from_le_bytes, from_be_bytes}
use Rattle.btf_records.specs.Info.{kind_number_in}
use Rattle.btf_encoding.specs.Items.{array_in, entry_in, enum64_in, items_in, member_in, param_in, variant_in}
use Rattle.btf_records.specs.Kinds.{kind_of}
use Rattle.btf_encoding.specs.Records.{HasRecord, ReadsSame, count_at, kind_at, kind_number_at, len_after, record_len, type_as}
use Rattle.btf_records.specs.Words.{word_at}
use Rattle.btf_records.specs.declared.kind.BtfKind.{BtfKind}
use Rattle.btf_records.specs.declared.kind.BtfKind.TheVariants as kinds
use Rattle.btf_records.specs.declared.words.Endianness.{Endianness}
use Rattle.btf_records.specs.declared.words.Endianness.TheVariants.{Little, Big}

four_same : (bytes x : List ℕ) (offset : ℕ) → offset + 4 ≤ length bytes → take 4 (drop offset (bytes ++ x)) ≡ take 4 (drop offset bytes)
four_same bytes x offset h =
    let within : 4 ≤ length (drop offset bytes) = omega (arith, length-drop offset bytes) in
    ap (take 4) (drop-append-le offset bytes x (omega arith)) ∙ take-append-le 4 (drop offset bytes) x within

pub word_same : (order : Endianness) (bytes x : List ℕ) (offset : ℕ) → offset + 4 ≤ length bytes → word_at order (bytes ++ x) offset ≡ word_at order bytes offset
unfolding word_at
word_same Little bytes x offset h = ap (from_le_bytes w32) (four_same bytes x offset h)
word_same Big bytes x offset h = ap (from_be_bytes w32) (four_same bytes x offset h)

items_same : {X : Type 0} (item : List ℕ → X) (size n : ℕ) (bytes x : List ℕ) → ((b : List ℕ) → size ≤ length b → item (b ++ x) ≡ item b) → size * n ≤ length bytes → items_in item size n (bytes ++ x) ≡ items_in item size n bytes
items_same item size zero bytes x same h = refl
items_same item size (suc n) bytes x same h =
    let within : size ≤ length bytes = omega arith in
    let left : size * n ≤ length (drop size bytes) = omega (arith, length-drop size bytes) in
    let after : drop size (bytes ++ x) ≡ drop size bytes ++ x = drop-append-le size bytes x within in
    let others : items_in item size n (drop size (bytes ++ x)) ≡ items_in item size n (drop size bytes) = ap (items_in item size n) after ∙ items_same item size n (drop size bytes) x same left in
    rw (same bytes within, others) refl

member_same : (order : Endianness) (bytes x : List ℕ) → 12 ≤ length bytes → member_in order (bytes ++ x) ≡ member_in order bytes
member_same order bytes x h =
    let one = word_same order bytes x 0 (omega arith) in
    let two = word_same order bytes x 4 (omega arith) in
    let three = word_same order bytes x 8 (omega arith) in
    rw (one, two, three) refl

enum64_same : (order : Endianness) (bytes x : List ℕ) → 12 ≤ length bytes → enum64_in order (bytes ++ x) ≡ enum64_in order bytes
enum64_same order bytes x h =
    let one = word_same order bytes x 0 (omega arith) in
    let two = word_same order bytes x 4 (omega arith) in
    let three = word_same order bytes x 8 (omega arith) in
    rw (one, two, three) refl

entry_same : (order : Endianness) (bytes x : List ℕ) → 12 ≤ length bytes → entry_in order (bytes ++ x) ≡ entry_in order bytes
entry_same order bytes x h =
    let one = word_same order bytes x 0 (omega arith) in
    let two = word_same order bytes x 4 (omega arith) in
    let three = word_same order bytes x 8 (omega arith) in
    rw (one, two, three) refl

array_same : (order : Endianness) (bytes x : List ℕ) → 12 ≤ length bytes → array_in order (bytes ++ x) ≡ array_in order bytes
array_same order bytes x h =
    let one = word_same order bytes x 0 (omega arith) in
    let two = word_same order bytes x 4 (omega arith) in
    let three = word_same order bytes x 8 (omega arith) in
    rw (one, two, three) refl

variant_same : (order : Endianness) (bytes x : List ℕ) → 8 ≤ length bytes → variant_in order (bytes ++ x) ≡ variant_in order bytes
variant_same order bytes x h =
    let one = word_same order bytes x 0 (omega arith) in
    let two = word_same order bytes x 4 (omega arith) in
    rw (one, two) refl

param_same : (order : Endianness) (bytes x : List ℕ) → 8 ≤ length bytes → param_in order (bytes ++ x) ≡ param_in order bytes
param_same order bytes x h =
    let one = word_same order bytes x 0 (omega arith) in
    let two = word_same order bytes x 4 (omega arith) in
    rw (one, two) refl

type_same : (kind : BtfKind) (order : Endianness) (bytes x : List ℕ) → 12 + len_after kind (count_at order bytes) ≤ length bytes → type_as kind order (bytes ++ x) ≡ type_as kind order bytes
type_same kinds.Unknown order bytes x h = refl
type_same kinds.Int order bytes x h =
    let name = word_same order bytes x 0 (omega arith) in
    let info = word_same order bytes x 4 (omega arith) in
    let third = word_same order bytes x 8 (omega arith) in
    let fourth = word_same order bytes x 12 (omega arith) in
    rw (name, info, third, fourth) refl
type_same kinds.Ptr order bytes x h =
    let name = word_same order bytes x 0 (omega arith) in
    let info = word_same order bytes x 4 (omega arith) in
    let third = word_same order bytes x 8 (omega arith) in
    rw (name, info, third) refl
type_same kinds.Array order bytes x h =
    let name = word_same order bytes x 0 (omega arith) in
    let info = word_same order bytes x 4 (omega arith) in
    let after : drop 12 (bytes ++ x) ≡ drop 12 bytes ++ x = drop-append-le 12 bytes x (omega arith) in
    let array : array_in order (drop 12 (bytes ++ x)) ≡ array_in order (drop 12 bytes) = ap (array_in order) after ∙ array_same order (drop 12 bytes) x (omega (arith, length-drop 12 bytes)) in
    rw (array, name, info) refl
type_same kinds.Struct order bytes x h =
    let name = word_same order bytes x 0 (omega arith) in
    let info = word_same order bytes x 4 (omega arith) in
    let third = word_same order bytes x 8 (omega arith) in
    let after : drop 12 (bytes ++ x) ≡ drop 12 bytes ++ x = drop-append-le 12 bytes x (omega arith) in
    let list : items_in (member_in order) 12 (count_at order (bytes ++ x)) (drop 12 (bytes ++ x)) ≡ items_in (member_in order) 12 (count_at order bytes) (drop 12 bytes) = rw (info, after) (items_same (member_in order) 12 (count_at order bytes) (drop 12 bytes) x (λ b. member_same order b x) (omega (arith, length-drop 12 bytes))) in
    rw (list, name, info, third) refl
type_same kinds.Union order bytes x h =
    let name = word_same order bytes x 0 (omega arith) in
    let info = word_same order bytes x 4 (omega arith) in
    let third = word_same order bytes x 8 (omega arith) in
    let after : drop 12 (bytes ++ x) ≡ drop 12 bytes ++ x = drop-append-le 12 bytes x (omega arith) in
    let list : items_in (member_in order) 12 (count_at order (bytes ++ x)) (drop 12 (bytes ++ x)) ≡ items_in (member_in order) 12 (count_at order bytes) (drop 12 bytes) = rw (info, after) (items_same (member_in order) 12 (count_at order bytes) (drop 12 bytes) x (λ b. member_same order b x) (omega (arith, length-drop 12 bytes))) in
    rw (list, name, info, third) refl
type_same kinds.Enum order bytes x h =
    let name = word_same order bytes x 0 (omega arith) in
    let info = word_same order bytes x 4 (omega arith) in
    let third = word_same order bytes x 8 (omega arith) in
    let after : drop 12 (bytes ++ x) ≡ drop 12 bytes ++ x = drop-append-le 12 bytes x (omega arith) in
    let list : items_in (variant_in order) 8 (count_at order (bytes ++ x)) (drop 12 (bytes ++ x)) ≡ items_in (variant_in order) 8 (count_at order bytes) (drop 12 bytes) = rw (info, after) (items_same (variant_in order) 8 (count_at order bytes) (drop 12 bytes) x (λ b. variant_same order b x) (omega (arith, length-drop 12 bytes))) in
    rw (list, name, info, third) refl
type_same kinds.Fwd order bytes x h =
    let name = word_same order bytes x 0 (omega arith) in
    let info = word_same order bytes x 4 (omega arith) in
    rw (name, info) refl
type_same kinds.Typedef order bytes x h =
    let name = word_same order bytes x 0 (omega arith) in
    let info = word_same order bytes x 4 (omega arith) in
    let third = word_same order bytes x 8 (omega arith) in
    rw (name, info, third) refl
type_same kinds.Volatile order bytes x h =
    let name = word_same order bytes x 0 (omega arith) in
    let info = word_same order bytes x 4 (omega arith) in
    let third = word_same order bytes x 8 (omega arith) in
    rw (name, info, third) refl
type_same kinds.Const order bytes x h =
    let name = word_same order bytes x 0 (omega arith) in
    let info = word_same order bytes x 4 (omega arith) in
    let third = word_same order bytes x 8 (omega arith) in
    rw (name, info, third) refl
type_same kinds.Restrict order bytes x h =
    let name = word_same order bytes x 0 (omega arith) in
    let info = word_same order bytes x 4 (omega arith) in
    let third = word_same order bytes x 8 (omega arith) in
    rw (name, info, third) refl
type_same kinds.Func order bytes x h =
    let name = word_same order bytes x 0 (omega arith) in
    let info = word_same order bytes x 4 (omega arith) in
    let third = word_same order bytes x 8 (omega arith) in
    rw (name, info, third) refl
type_same kinds.FuncProto order bytes x h =
    let name = word_same order bytes x 0 (omega arith) in
    let info = word_same order bytes x 4 (omega arith) in
    let third = word_same order bytes x 8 (omega arith) in
    let after : drop 12 (bytes ++ x) ≡ drop 12 bytes ++ x = drop-append-le 12 bytes x (omega arith) in
    let list : items_in (param_in order) 8 (count_at order (bytes ++ x)) (drop 12 (bytes ++ x)) ≡ items_in (param_in order) 8 (count_at order bytes) (drop 12 bytes) = rw (info, after) (items_same (param_in order) 8 (count_at order bytes) (drop 12 bytes) x (λ b. param_same order b x) (omega (arith, length-drop 12 bytes))) in
    rw (list, name, info, third) refl
type_same kinds.Var order bytes x h =
    let name = word_same order bytes x 0 (omega arith) in
    let info = word_same order bytes x 4 (omega arith) in
    let third = word_same order bytes x 8 (omega arith) in
    let fourth = word_same order bytes x 12 (omega arith) in
    rw (name, info, third, fourth) refl
type_same kinds.DataSec order bytes x h =
    let name = word_same order bytes x 0 (omega arith) in
    let info = word_same order bytes x 4 (omega arith) in
    let third = word_same order bytes x 8 (omega arith) in
    let after : drop 12 (bytes ++ x) ≡ drop 12 bytes ++ x = drop-append-le 12 bytes x (omega arith) in
    let list : items_in (entry_in order) 12 (count_at order (bytes ++ x)) (drop 12 (bytes ++ x)) ≡ items_in (entry_in order) 12 (count_at order bytes) (drop 12 bytes) = rw (info, after) (items_same (entry_in order) 12 (count_at order bytes) (drop 12 bytes) x (λ b. entry_same order b x) (omega (arith, length-drop 12 bytes))) in
    rw (list, name, info, third) refl
type_same kinds.Float order bytes x h =
    let name = word_same order bytes x 0 (omega arith) in
    let info = word_same order bytes x 4 (omega arith) in
    let third = word_same order bytes x 8 (omega arith) in
    rw (name, info, third) refl
type_same kinds.DeclTag order bytes x h =
    let name = word_same order bytes x 0 (omega arith) in
    let info = word_same order bytes x 4 (omega arith) in
    let third = word_same order bytes x 8 (omega arith) in
    let fourth = word_same order bytes x 12 (omega arith) in
    rw (name, info, third, fourth) refl
type_same kinds.TypeTag order bytes x h =
    let name = word_same order bytes x 0 (omega arith) in
    let info = word_same order bytes x 4 (omega arith) in
    let third = word_same order bytes x 8 (omega arith) in
    rw (name, info, third) refl
type_same kinds.Enum64 order bytes x h =
    let name = word_same order bytes x 0 (omega arith) in
    let info = word_same order bytes x 4 (omega arith) in
    let third = word_same order bytes x 8 (omega arith) in
    let after : drop 12 (bytes ++ x) ≡ drop 12 bytes ++ x = drop-append-le 12 bytes x (omega arith) in
    let list : items_in (enum64_in order) 12 (count_at order (bytes ++ x)) (drop 12 (bytes ++ x)) ≡ items_in (enum64_in order) 12 (count_at order bytes) (drop 12 bytes) = rw (info, after) (items_same (enum64_in order) 12 (count_at order bytes) (drop 12 bytes) x (λ b. enum64_same order b x) (omega (arith, length-drop 12 bytes))) in
    rw (list, name, info, third) refl

pub reads_same : (order : Endianness) (bytes : List ℕ) → HasRecord order bytes → ReadsSame order bytes
reads_same order bytes r =
    let info : (after : List ℕ) → word_at order (bytes ++ after) 4 ≡ word_at order bytes 4 = λ after. word_same order bytes after 4 (omega (arith, r.head)) in
    let number : (after : List ℕ) → kind_number_at order (bytes ++ after) ≡ kind_number_at order bytes = λ after. ap kind_number_in (info after) in
    let kind : (after : List ℕ) → kind_at order (bytes ++ after) ≡ kind_at order bytes = λ after. ap kind_of (number after) in
    let long : (after : List ℕ) → record_len order (bytes ++ after) ≡ record_len order bytes = λ after. rw (info after) refl in
    record {
      begins = λ after. record {
        head = omega (arith, r.head, length-append bytes after);
        known = omega (arith, r.known, number after);
        whole = omega (arith, r.whole, long after, length-append bytes after);
      };
      same = λ after. ap (λ (k : BtfKind). type_as k order (bytes ++ after)) (kind after) ∙ type_same (kind_at order bytes) order bytes after r.whole;
      len = long;
    }
