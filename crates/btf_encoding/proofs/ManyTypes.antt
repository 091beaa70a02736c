-- Bytes that are records, one after the other.
use Rattle.std.proofs.Common.{◌≡◌, ℕ, ◌<◌, List, [], ◌∷◌, ◌++◌, length, drop, take, refl, sym, ap, subst, ◌∙◌, arith, length-take, append-nil}
use Rattle.std.proofs.Math.Seq.{drop-length}
use Rattle.std.proofs.lemmas.List.{drop-append-le, take-append-drop}
use Rattle.btf_records.specs.Info.{kind_number_in}
use Rattle.btf_records.specs.Words.{word_at}
use Rattle.btf_encoding.specs.Records.{Begins, HasRecord, Spells, record_len, type_in}
use Rattle.btf_encoding.specs.Rewriting.{AreRecords}
use Rattle.btf_records.specs.declared.types.BtfType.{BtfType}
use Rattle.btf_encoding.proofs.WhateverFollows.{reads_same, word_same}
use Rattle.btf_records.specs.declared.words.Endianness.{Endianness}

-- Records after records.
pub begins_append : (order : Endianness) (front more : List BtfType) (mid rest bytes : List ℕ) → Begins order front mid bytes → Begins order more rest mid → Begins order (front ++ more) rest bytes
begins_append order [] more mid rest bytes b m = subst (λ (bs : List ℕ). Begins order more rest bs) (sym b) m
begins_append order (t ∷ ts) more mid rest bytes b m = (b.0, b.1, begins_append order ts more mid rest (drop (record_len order bytes) bytes) b.2 m)

-- Appending bytes to the rest leaves the records before it.
begins_after : (order : Endianness) (front : List BtfType) (rest x bytes : List ℕ) → Begins order front rest bytes → Begins order front (rest ++ x) (bytes ++ x)
begins_after order [] rest x bytes b = ap (λ (bs : List ℕ). bs ++ x) b
begins_after order (t ∷ ts) rest x bytes b =
    let stable = reads_same order bytes b.0 in
    let left : drop (record_len order (bytes ++ x)) (bytes ++ x) ≡ drop (record_len order bytes) bytes ++ x = rw (stable.len x) (drop-append-le (record_len order bytes) bytes x b.0.whole) in
    (stable.begins x, stable.same x ∙ b.1, subst (λ (bs : List ℕ). Begins order ts (rest ++ x) bs) (sym left) (begins_after order ts rest x (drop (record_len order bytes) bytes) b.2))

pub spells_append : (order : Endianness) (front more : List BtfType) (bytes new : List ℕ) → Spells order front bytes → Spells order more new → Spells order (front ++ more) (bytes ++ new)
spells_append order front more bytes new s m = begins_append order front more new [] (bytes ++ new) (begins_after order front [] new bytes s) m

-- A record that is written after others is one more record.
pub follows : (order : Endianness) (t : BtfType) (new : List ℕ) → HasRecord order new → type_in order new ≡ t → record_len order new ≡ length new → (front : List BtfType) (bytes : List ℕ) → Spells order front bytes → Spells order (front ++ t ∷ []) (bytes ++ new)
follows order t new has same len front bytes s =
    let all : drop (record_len order new) new ≡ [] = rw len (drop-length new) in
    spells_append order front (t ∷ []) bytes new s (has, same, all)

-- The bytes of the first record are that record alone.
pub alone : (order : Endianness) (bytes : List ℕ) → HasRecord order bytes → Spells order (type_in order bytes ∷ []) (take (record_len order bytes) bytes)
alone order bytes has =
    let len : ℕ = record_len order bytes in
    let own : List ℕ = take len bytes in
    let parts : own ++ drop len bytes ≡ bytes = take-append-drop len bytes in
    let long : length own ≡ len = omega (arith, length-take len bytes, has.whole) in
    let info : word_at order bytes 4 ≡ word_at order own 4 = ap (λ (bs : List ℕ). word_at order bs 4) (sym parts) ∙ word_same order own (drop len bytes) 4 (omega (arith, long)) in
    let same_len : record_len order own ≡ len = rw (← info) refl in
    let here : HasRecord order own = record {
      head = omega (arith, long);
      known = subst (λ (w : ℕ). kind_number_in w < 20) info has.known;
      whole = omega (arith, same_len, long);
    } in
    let same : type_in order own ≡ type_in order bytes = sym ((reads_same order own here).same (drop len bytes)) ∙ ap (type_in order) parts in
    let none : drop (record_len order own) own ≡ [] = ap (λ (n : ℕ). drop n own) (same_len ∙ sym long) ∙ drop-length own in
    (here, same, none)

none_in_empty : (order : Endianness) → HasRecord order [] → ⊥
none_in_empty order h = omega (arith, h.head)

pub first_record : (order : Endianness) (bytes : List ℕ) → AreRecords order bytes → 0 < length bytes → HasRecord order bytes
first_record order bytes are more = first_of order are.types bytes are.spelled more where
  first_of : (order : Endianness) (types : List BtfType) (bytes : List ℕ) → Spells order types bytes → 0 < length bytes → HasRecord order bytes
  first_of order [] bytes s more = absurd (omega (arith, more, ap length s))
  first_of order (t ∷ ts) bytes s more = s.0

-- The records in the rest, after some of the records.
pub record AreLeft (order : Endianness) (types front : List BtfType) (rest : List ℕ) : Type 0 where
  pub others : List BtfType
  pub spelled : Spells order others rest
  pub parts : types ≡ front ++ others

cons_same : {X : Type 0} (x y : X) (xs ys : List X) → x ≡ y → xs ≡ ys → x ∷ xs ≡ y ∷ ys
cons_same x y xs ys p q = rw (p, q) refl

pub are_left : (order : Endianness) (types front : List BtfType) (rest bytes : List ℕ) → Spells order types bytes → Begins order front rest bytes → AreLeft order types front rest
are_left order types [] rest bytes s b = record { others = types; spelled = subst (λ (bs : List ℕ). Spells order types bs) b s; parts = refl }
are_left order [] (f ∷ fs) rest bytes s b = absurd (none_in_empty order (subst (λ (bs : List ℕ). HasRecord order bs) s b.0))
are_left order (t ∷ ts) (f ∷ fs) rest bytes s b =
    let l = are_left order ts fs rest (drop (record_len order bytes) bytes) s.2 b.2 in
    record { others = l.others; spelled = l.spelled; parts = cons_same t f ts (fs ++ l.others) (sym s.1 ∙ b.1) l.parts }

none_spelled : (order : Endianness) (others : List BtfType) → Spells order others [] → others ≡ []
none_spelled order [] s = refl
none_spelled order (o ∷ os) s = absurd (none_in_empty order s.0)

-- The records that bytes spell are unique.
pub unique : (order : Endianness) (types front : List BtfType) (bytes : List ℕ) → Spells order types bytes → Spells order front bytes → types ≡ front
unique order types front bytes s b =
    let l = are_left order types front [] bytes s b in
    l.parts ∙ ap (λ (ts : List BtfType). front ++ ts) (none_spelled order l.others l.spelled) ∙ append-nil front
