-- Appending a record to a table.
use Rattle.std.proofs.Common.{◌≡◌, ℕ, suc, ◌+◌, ◌<◌, ◌^◌, List, [], ◌∷◌, ◌++◌, length, drop, Option, None, Some, refl, sym, ap, ◌∙◌, arith, inl, inr, append-nil, append_assoc, length-append}
use Rattle.std.specs.List.{flat_map}
use Rattle.std.specs.Option.{option_map_or}
use Rattle.std.specs.Prelude.{All, ◌⊎◌}
use Rattle.std.proofs.lemmas.Grind.{flat_map-append}
use Rattle.std.proofs.lemmas.List.{drop-append-le}
use Rattle.std.proofs.lemmas.List.Elements.{All-append, All-cons, All-head, All-nil, All-tail}
use Rattle.std.proofs.Math.Seq.{drop-append_seam}
use Rattle.btf_storage.specs.Growth.{TooMany}
use Rattle.btf_storage.specs.Layout.{Entered, IsLaidOut, fallback_at, type_at, types_at}
use Rattle.btf_storage.proofs.Places.{has_record, length_types_at, within_bytes}
use Rattle.btf_records.specs.Fields.{fallback_of}
use Rattle.btf_encoding.specs.Records.{ReadsBack, ReadsSame, Spells, record_bytes, type_in, with_fallback, without_fallback}
use Rattle.btf_records.specs.declared.compound.Union.{Union}
use Rattle.btf_records.specs.declared.compound.Enum64Fallback.{Enum64Fallback}
use Rattle.btf_records.specs.declared.types.BtfType.{BtfType}
use Rattle.btf_records.specs.declared.types.BtfType.TheVariants as types
use Rattle.btf_records.specs.declared.words.Endianness.{Endianness}

-- Appending bytes to a record that reads the same whatever follows it.
pub reads_same_more : (order : Endianness) (bytes x : List ℕ) → ReadsSame order bytes → ReadsSame order (bytes ++ x)
reads_same_more order bytes x same = record {
  begins = λ after. rw append_assoc (same.begins (x ++ after));
  same = λ after. rw append_assoc (same.same (x ++ after) ∙ sym (same.same x));
  len = λ after. rw append_assoc (same.len (x ++ after) ∙ sym (same.len x));
}

drop_more : (order : Endianness) (bytes x : List ℕ) (place : ℕ) → ReadsSame order (drop place bytes) → drop place (bytes ++ x) ≡ drop place bytes ++ x
drop_more order bytes x place same = drop-append-le place bytes x (within_bytes order bytes place (has_record order (drop place bytes) same))

stays_at : (order : Endianness) (bytes x : List ℕ) (place : ℕ) → ReadsSame order (drop place bytes) → ReadsSame order (drop place (bytes ++ x))
stays_at order bytes x place same = rw (drop_more order bytes x place same) (reads_same_more order (drop place bytes) x same)

all_stay : (order : Endianness) (bytes x places : List ℕ) → All (λ p. ReadsSame order (drop p bytes)) places → All (λ p. ReadsSame order (drop p (bytes ++ x))) places
all_stay order bytes x places all = λ k d lt. stays_at order bytes x _ (all k d lt)

-- The fallbacks of the ids below a bound are the same.
record SameBelow (old new : List (ℕ × Enum64Fallback)) (end : ℕ) : Type 0 where
  same : (id : ℕ) → id < end → fallback_at new id ≡ fallback_at old id

type_stays : (order : Endianness) (bytes x : List ℕ) (old new : List (ℕ × Enum64Fallback)) (id place : ℕ) → ReadsSame order (drop place bytes) → fallback_at new id ≡ fallback_at old id → type_at order (bytes ++ x) new id place ≡ type_at order bytes old id place
type_stays order bytes x old new id place same entered =
    let read : type_in order (drop place (bytes ++ x)) ≡ type_in order (drop place bytes) = ap (type_in order) (drop_more order bytes x place same) ∙ same.same x in
    rw (entered, read) refl

types_stay : (order : Endianness) (bytes x : List ℕ) (old new : List (ℕ × Enum64Fallback)) (id : ℕ) (places : List ℕ) → All (λ p. ReadsSame order (drop p bytes)) places → SameBelow old new (id + length places) → types_at order (bytes ++ x) new id places ≡ types_at order bytes old id places
unfolding types_at
types_stay order bytes x old new id [] all same = refl
types_stay order bytes x old new id (place ∷ places) all same =
    let here = type_stays order bytes x old new id place (All-head (λ p. ReadsSame order (drop p bytes)) place places all) (same.same id (omega arith)) in
    let there = types_stay order bytes x old new (suc id) places (All-tail (λ p. ReadsSame order (drop p bytes)) place places all) (record { same = λ other lt. same.same other (omega arith) }) in
    rw (here, there) refl

pub types_after : (order : Endianness) (bytes : List ℕ) (fallbacks : List (ℕ × Enum64Fallback)) (id : ℕ) (places : List ℕ) (place : ℕ) → types_at order bytes fallbacks id (places ++ place ∷ []) ≡ types_at order bytes fallbacks id places ++ type_at order bytes fallbacks (id + length places) place ∷ []
unfolding types_at
types_after order bytes fallbacks id [] place =
    let same : id + 0 ≡ id = omega arith in
    rw same refl
types_after order bytes fallbacks id (p ∷ places) place =
    let same : id + suc (length places) ≡ suc id + length places = omega arith in
    rw same (ap (λ (ts : List BtfType). type_at order bytes fallbacks id p ∷ ts) (types_after order bytes fallbacks (suc id) places place))

back_union : (t : Union) (fallback : Option Enum64Fallback) → t.fallback ≡ fallback → option_map_or (λ f. with_fallback (Some f) (without_fallback (types.Union t))) fallback (without_fallback (types.Union t)) ≡ types.Union t
back_union t None none = ap (λ (f : Option Enum64Fallback). types.Union (record t { fallback = f })) (sym none)
back_union t (Some fallback) some = ap (λ (f : Option Enum64Fallback). types.Union (record t { fallback = f })) (sym some)

-- A record without its fallback, with the fallback set again, is the record.
back : (t : BtfType) → option_map_or (λ f. with_fallback (Some f) (without_fallback t)) (fallback_of t) (without_fallback t) ≡ t
back types.Unknown = refl
back (types.Fwd t) = refl
back (types.Const t) = refl
back (types.Volatile t) = refl
back (types.Restrict t) = refl
back (types.Ptr t) = refl
back (types.Typedef t) = refl
back (types.Func t) = refl
back (types.Int t) = refl
back (types.Float t) = refl
back (types.Enum t) = refl
back (types.Array t) = refl
back (types.Struct t) = refl
back (types.Union t) = back_union t t.fallback refl
back (types.FuncProto t) = refl
back (types.Var t) = refl
back (types.DataSec t) = refl
back (types.DeclTag t) = refl
back (types.TypeTag t) = refl
back (types.Enum64 t) = refl

new_type : (order : Endianness) (bytes : List ℕ) (fallbacks : List (ℕ × Enum64Fallback)) (id : ℕ) (t : BtfType) → ReadsBack order t → fallback_at fallbacks id ≡ fallback_of t → type_at order (bytes ++ record_bytes order t) fallbacks id (length bytes) ≡ t
new_type order bytes fallbacks id t reads entered =
    let read : type_in order (drop (length bytes) (bytes ++ record_bytes order t)) ≡ without_fallback t =
    ap (type_in order) (drop-append_seam bytes (record_bytes order t) ∙ sym (append-nil (record_bytes order t))) ∙ reads.same []
    in
    rw (entered, read) (back t)

pub grown : (order : Endianness) (bytes places : List ℕ) (old new : List (ℕ × Enum64Fallback)) (t : BtfType) → IsLaidOut order bytes old places → ReadsBack order t → Entered old new (length places + 1) (fallback_of t) → types_at order (bytes ++ record_bytes order t) new 1 (places ++ length bytes ∷ []) ≡ types_at order bytes old 1 places ++ t ∷ []
grown order bytes places old new t laid reads entered =
    let x = record_bytes order t in
    let id : length places + 1 ≡ 1 + length places = omega arith in
    let last : type_at order (bytes ++ x) new (1 + length places) (length bytes) ≡ t = new_type order bytes new (1 + length places) t reads (rw id at entered.here) in
    let others : types_at order (bytes ++ x) new 1 places ≡ types_at order bytes old 1 places =
    types_stay order bytes x old new 1 places laid.stand (record { same = λ other lt. entered.others other (λ e. omega arith) })
    in
    types_after order (bytes ++ x) new 1 places (length bytes) ∙ rw (others, last) refl

spelled_more : (order : Endianness) (bytes places : List ℕ) (t : BtfType) → All (λ p. ReadsSame order (drop p bytes)) places → ReadsBack order t → Spells order (types_at order bytes [] 1 places) bytes → Spells order (types_at order (bytes ++ record_bytes order t) [] 1 (places ++ length bytes ∷ [])) (bytes ++ record_bytes order t)
spelled_more order bytes places t stand reads spelled =
    let x = record_bytes order t in
    let last : type_in order (drop (length bytes) (bytes ++ x)) ≡ without_fallback t = ap (type_in order) (drop-append_seam bytes x ∙ sym (append-nil x)) ∙ reads.same [] in
    let others : types_at order (bytes ++ x) [] 1 places ≡ types_at order bytes [] 1 places = types_stay order bytes x [] [] 1 places stand (record { same = λ other lt. refl }) in
    let all : types_at order (bytes ++ x) [] 1 (places ++ length bytes ∷ []) ≡ types_at order bytes [] 1 places ++ without_fallback t ∷ [] =
    types_after order (bytes ++ x) [] 1 places (length bytes) ∙ rw (others, last) refl
    in
    rw all (reads.follows (types_at order bytes [] 1 places) bytes spelled)

pub grown_tight : (order : Endianness) (bytes places : List ℕ) (old new : List (ℕ × Enum64Fallback)) (t : BtfType) → IsLaidOut order bytes old places → ReadsBack order t → Entered old new (length places + 1) (fallback_of t) → length (bytes ++ record_bytes order t) < 2 ^ 32 → length (places ++ length bytes ∷ []) < 2 ^ 32 → IsLaidOut order (bytes ++ record_bytes order t) new (places ++ length bytes ∷ [])
grown_tight order bytes places old new t laid reads entered few_bytes few_types =
    let x = record_bytes order t in
    let last : ReadsSame order (drop (length bytes) (bytes ++ x)) = rw (drop-append_seam bytes x) reads.alone in
    let bytes_of : flat_map (record_bytes order) (types_at order bytes old 1 places ++ t ∷ []) ≡ flat_map (record_bytes order) (types_at order bytes old 1 places) ++ x =
    flat_map-append (record_bytes order) (types_at order bytes old 1 places) (t ∷ []) ∙ ap (λ (b : List ℕ). flat_map (record_bytes order) (types_at order bytes old 1 places) ++ b) (append-nil x)
    in
    record {
      spelled = spelled_more order bytes places t laid.stand reads laid.spelled;
      stand = All-append (λ p. ReadsSame order (drop p (bytes ++ x))) places (length bytes ∷ []) (all_stay order bytes x places laid.stand) (All-cons (λ p. ReadsSame order (drop p (bytes ++ x))) (length bytes) [] last (All-nil (λ p. ReadsSame order (drop p (bytes ++ x)))));
      in_use = λ id past.
          entered.others id (λ e. omega (arith, past, length-append places (length bytes ∷ []))) ∙ laid.in_use id (omega (arith, past, length-append places (length bytes ∷ [])));
      tight = length-append bytes x ∙ (ap (λ (n : ℕ). n + length x) laid.tight ∙ sym (ap length (ap (flat_map (record_bytes order)) (grown order bytes places old new t laid reads entered) ∙ bytes_of) ∙ length-append (flat_map (record_bytes order) (types_at order bytes old 1 places)) x));
      few_bytes = few_bytes;
      few_types = few_types;
    }

len_after : (order : Endianness) (types : List BtfType) (t : BtfType) → length (flat_map (record_bytes order) (types ++ t ∷ [])) ≡ length (flat_map (record_bytes order) types) + length (record_bytes order t)
len_after order types t =
    ap length (flat_map-append (record_bytes order) types (t ∷ []) ∙ ap (λ (b : List ℕ). flat_map (record_bytes order) types ++ b) (append-nil (record_bytes order t))) ∙ length-append (flat_map (record_bytes order) types) (record_bytes order t)

-- If the bytes or offsets are too many, the bytes of the records or the records are too many.
pub too_many : (order : Endianness) (bytes places : List ℕ) (fallbacks : List (ℕ × Enum64Fallback)) (t : BtfType) → IsLaidOut order bytes fallbacks places → TooMany (length bytes + length (record_bytes order t)) ⊎ TooMany (length places + 1) → TooMany (length (flat_map (record_bytes order) (types_at order bytes fallbacks 1 places ++ t ∷ []))) ⊎ TooMany (length (types_at order bytes fallbacks 1 places) + 1)
too_many order bytes places fallbacks t laid (inl b) = inl (omega (arith, b, len_after order (types_at order bytes fallbacks 1 places) t, laid.tight))
too_many order bytes places fallbacks t laid (inr n) = inr (omega (arith, n, length_types_at order bytes fallbacks 1 places))
