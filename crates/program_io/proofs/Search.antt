-- Headers of objects begin with a byte that the search looks for, and the parts of a search follow each
-- other.
use Rattle.std.proofs.Common.{◌≡◌, ◌⊎◌, inl, inr, ℕ, suc, zero, ◌+◌, ◌-◌, ◌<◌, ◌≤◌, ◌==◌, Bool, true, false, List, [], ◌∷◌, ◌++◌, Some, drop, refl, sym, ◌∙◌, ap, arith, length, slice_index}
use Rattle.std.proofs.lemmas.Bool.{cases_lt}
use Rattle.std.proofs.lemmas.Grind.{common_steps}
use Rattle.std.proofs.lemmas.List.{length-drop}
use Rattle.memchr.specs.Find.{Nowhere, Passes, is_byte}
use Rattle.program_io.specs.Embedded.{Holds, IsNextStart, NoneBegins, begins_object, end_in}
use Rattle.program_io.specs.declared.embedded.EmbeddedObject.{EmbeddedObject}

begins_with_other : (b : ℕ) (bytes : List ℕ) → (b == 0x7f) ≡ false → begins_object (b ∷ bytes) ≡ false
begins_with_other b bytes other = grind (arith, common_steps)

no_start : (bytes : List ℕ) (at : ℕ) → (slice_index bytes at == 0x7f) ≡ false → begins_object (drop at bytes) ≡ false
no_start [] zero other = refl
no_start [] (suc at) other = refl
no_start (b ∷ bs) zero other = begins_with_other b bs other
no_start (b ∷ bs) (suc at) other = no_start bs at other

index_behind : (at k : ℕ) (bytes : List ℕ) → slice_index (drop at bytes) k ≡ slice_index bytes (at + k)
index_behind zero k bytes = let same : 0 + k ≡ k = omega arith in ap (slice_index bytes) (sym same)
index_behind (suc at) k [] = refl
index_behind (suc at) k (b ∷ bs) =
    let next : suc at + k ≡ suc (at + k) = omega arith in index_behind at k bs ∙ ap (slice_index (b ∷ bs)) (sym next)

isnt : (b : Bool) → ¬ (b ≡ true) → b ≡ false
isnt true never = absurd (never refl)
isnt false never = refl

-- A search for the byte has passed over no object.
pub passed_over : (bytes : List ℕ) (from k : ℕ) → Nowhere (Passes (is_byte 0x7f) (drop from bytes)) 0 k → NoneBegins bytes from (from + k)
passed_over bytes from k none at low high =
    let same : from + (at - from) ≡ at = omega (arith, low) in
    let here : slice_index (drop from bytes) (at - from) ≡ slice_index bytes at =
    index_behind from (at - from) bytes ∙ ap (slice_index bytes) same in
    no_start bytes at (isnt (slice_index bytes at == 0x7f) (λ is. none (at - from) (omega arith) (omega (arith, low, high)) (ap (λ b. b == 0x7f) here ∙ is)))

joined_at : (bytes : List ℕ) (a b c : ℕ) → NoneBegins bytes a b → NoneBegins bytes b c → (at : ℕ) → a ≤ at → at < c → (at < b) ⊎ (b ≤ at) → begins_object (drop at bytes) ≡ false
joined_at bytes a b c first second at low high (inl below) = first at low below
joined_at bytes a b c first second at low high (inr behind) = second at behind high

pub joined : (bytes : List ℕ) (a b c : ℕ) → NoneBegins bytes a b → NoneBegins bytes b c → NoneBegins bytes a c
joined bytes a b c first second at low high = joined_at bytes a b c first second at low high (cases_lt at b)

only : (bytes : List ℕ) (b : ℕ) → begins_object (drop b bytes) ≡ false → NoneBegins bytes b (b + 1)
only bytes b here at low high =
    let same : at ≡ b = omega (arith, low, high) in ap (λ i. begins_object (drop i bytes)) same ∙ here

pub one_more : (bytes : List ℕ) (a b : ℕ) → NoneBegins bytes a b → begins_object (drop b bytes) ≡ false → NoneBegins bytes a (b + 1)
one_more bytes a b none here = joined bytes a b (b + 1) none (only bytes b here)

pub has_header : (bytes : List ℕ) → begins_object bytes ≡ true → 64 ≤ length bytes
has_header bytes begins = grind (arith, common_steps)

pub header_fits : (bytes : List ℕ) (at : ℕ) → at ≤ length bytes → begins_object (drop at bytes) ≡ true → at + 64 ≤ length bytes
header_fits bytes at inside begins =
    let rest : length (drop at bytes) ≡ length bytes - at = length-drop at bytes in
    let enough : 64 ≤ length (drop at bytes) = has_header (drop at bytes) begins in
    let long : 64 ≤ length bytes - at = rw rest at enough in
    omega (arith, inside, long)

-- One more object, behind the others.
pub added : (bytes : List ℕ) (from to : ℕ) (os : List EmbeddedObject) (o : EmbeddedObject) → Holds bytes from os to → IsNextStart bytes to (Some o.start) → Holds bytes from (os ++ o ∷ []) (end_in bytes o)
added bytes from to [] o none next =
    let behind : from ≤ o.start = omega (arith, none.1, next.1) in (
      (joined bytes from to o.start none.0 next.0, behind, next.2, next.3),
      ((λ at low high. absurd (omega (arith, low, high))), omega arith),
    )
added bytes from to (p ∷ ps) o holds next = (holds.0, added bytes (end_in bytes p) to ps o holds.1 next)

-- The rest behind all objects.
pub ended : (bytes : List ℕ) (from to end : ℕ) (os : List EmbeddedObject) → Holds bytes from os to → to ≤ end → NoneBegins bytes to end → Holds bytes from os end
ended bytes from to end [] holds more none =
    let behind : from ≤ end = omega (arith, holds.1, more) in (joined bytes from to end holds.0 none, behind)
ended bytes from to end (p ∷ ps) holds more none =
    (holds.0, ended bytes (end_in bytes p) to end ps holds.1 more none)

-- An object ends behind its header, within the file.
pub end_inside : (bytes : List ℕ) (o : EmbeddedObject) → o.start + 64 ≤ length bytes → end_in bytes o ≤ length bytes
end_inside bytes o fits = grind (arith, common_steps)

pub ends_later : (bytes : List ℕ) (o : EmbeddedObject) → 64 ≤ o.size → o.start < end_in bytes o
ends_later bytes o some = grind (arith, common_steps)
