-- The records at their offsets, one by one.
use Rattle.std.proofs.Common.{◌≡◌, ℕ, zero, suc, ◌+◌, ◌<◌, ◌≤◌, List, [], ◌∷◌, length, drop, None, Some, refl, ap, subst, ◌∙◌, arith, slice_get, append-nil, length-drop, ◌^◌}
use Rattle.std.specs.Prelude.{All}
use Rattle.std.proofs.lemmas.Option.{get_or_from_slice_get, slice_get_within}
use Rattle.std.specs.Option.{option_map}
use Rattle.std.specs.List.{flat_map}
use Rattle.btf_storage.specs.Layout.{IsLaidOut, type_at, types_at}
use Rattle.btf_encoding.specs.Records.{HasRecord, ReadsSame, record_bytes}
use Rattle.btf_records.specs.declared.compound.Enum64Fallback.{Enum64Fallback}
use Rattle.btf_records.specs.declared.words.Endianness.{Endianness}

pub length_types_at : (order : Endianness) (bytes : List ℕ) (fallbacks : List (ℕ × Enum64Fallback)) (id : ℕ) (places : List ℕ) → length (types_at order bytes fallbacks id places) ≡ length places
unfolding types_at
length_types_at order bytes fallbacks id [] = refl
length_types_at order bytes fallbacks id (place ∷ places) = ap suc (length_types_at order bytes fallbacks (suc id) places)

pub get_types_at : (order : Endianness) (bytes : List ℕ) (fallbacks : List (ℕ × Enum64Fallback)) (id : ℕ) (places : List ℕ) (i : ℕ) → slice_get (types_at order bytes fallbacks id places) i ≡ option_map (type_at order bytes fallbacks (id + i)) (slice_get places i)
unfolding types_at
get_types_at order bytes fallbacks id [] i = refl
get_types_at order bytes fallbacks id (place ∷ places) zero =
    let same : id + 0 ≡ id = omega arith in
    rw same refl
get_types_at order bytes fallbacks id (place ∷ places) (suc i) =
    let same : id + suc i ≡ suc id + i = omega arith in
    rw same (get_types_at order bytes fallbacks (suc id) places i)

pub none_at : (order : Endianness) (bytes : List ℕ) (fallbacks : List (ℕ × Enum64Fallback)) (places : List ℕ) (i : ℕ) → slice_get places i ≡ None → slice_get (types_at order bytes fallbacks 1 places) i ≡ None
none_at order bytes fallbacks places i none = get_types_at order bytes fallbacks 1 places i ∙ rw none refl

pub record_is : (order : Endianness) (bytes : List ℕ) (fallbacks : List (ℕ × Enum64Fallback)) (places : List ℕ) (i place : ℕ) → slice_get places i ≡ Some place → slice_get (types_at order bytes fallbacks 1 places) i ≡ Some (type_at order bytes fallbacks (i + 1) place)
record_is order bytes fallbacks places i place some =
    let same : 1 + i ≡ i + 1 = omega arith in
    get_types_at order bytes fallbacks 1 places i ∙ rw (some, same) refl

pub has_record : (order : Endianness) (bytes : List ℕ) → ReadsSame order bytes → HasRecord order bytes
has_record order bytes same = subst (λ (b : List ℕ). HasRecord order b) (append-nil bytes) (same.begins [])

pub stands_at : (order : Endianness) (bytes places : List ℕ) (i place : ℕ) → All (λ p. ReadsSame order (drop p bytes)) places → slice_get places i ≡ Some place → HasRecord order (drop place bytes)
stands_at order bytes places i place all some =
    let within : i < length places = slice_get_within places i place some in
    let here : ReadsSame order (drop place bytes) = subst (λ (p : ℕ). ReadsSame order (drop p bytes)) (get_or_from_slice_get places i place 0 some) (all i 0 within) in
    has_record order (drop place bytes) here

pub within_bytes : (order : Endianness) (bytes : List ℕ) (place : ℕ) → HasRecord order (drop place bytes) → place ≤ length bytes
within_bytes order bytes place h = omega (arith, h.head, length-drop place bytes)

-- The bytes of the records are fewer than 2^32, and so are the records.
pub few_bytes_of : (order : Endianness) (bytes places : List ℕ) (fallbacks : List (ℕ × Enum64Fallback)) → IsLaidOut order bytes fallbacks places → length (flat_map (record_bytes order) (types_at order bytes fallbacks 1 places)) < 2 ^ 32
few_bytes_of order bytes places fallbacks laid = omega (arith, laid.tight, laid.few_bytes)

pub few_types_of : (order : Endianness) (bytes places : List ℕ) (fallbacks : List (ℕ × Enum64Fallback)) → IsLaidOut order bytes fallbacks places → length (types_at order bytes fallbacks 1 places) < 2 ^ 32
few_types_of order bytes places fallbacks laid = omega (arith, laid.few_types, length_types_at order bytes fallbacks 1 places)
