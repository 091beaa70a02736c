-- The first variant of an enum that passes a test, searched by index.
use Rattle.std.proofs.Common.{◌≡◌, ℕ, zero, suc, ◌+◌, Bool, true, false, List, [], ◌∷◌, drop, Option, None, Some, subst, sym, arith, find, slice_get}
use Rattle.btf_tables.specs.Tables.{Table}
use Rattle.report_needs.specs.Enums.{has_number}

pub left_at : {X : Type 0} (xs : List X) (i : ℕ) (x : X) → Some x ≡ slice_get xs i → drop i xs ≡ x ∷ drop (i + 1) xs
left_at [] zero x is = absurd cc
left_at [] (suc i) x is = absurd cc
left_at (y ∷ ys) zero x is = cc
left_at (y ∷ ys) (suc i) x is =
    let same : suc i + 1 ≡ suc (i + 1) = omega arith in
    rw same (left_at ys i x is)

pub found_here : {X : Type 0} (p : X → Bool) (xs : List X) (i : ℕ) (x : X) → find p (drop i xs) ≡ find p xs → Some x ≡ slice_get xs i → p x ≡ true → Some x ≡ find p xs
found_here p xs i x left is passes = rw (left_at xs i x is, passes) at left

pub found_later : {X : Type 0} (p : X → Bool) (xs : List X) (i : ℕ) (x : X) → find p (drop i xs) ≡ find p xs → Some x ≡ slice_get xs i → p x ≡ false → find p (drop (i + 1) xs) ≡ find p xs
found_later p xs i x left is passes = rw (left_at xs i x is, passes) at left

-- ---- The first of what an iterator has left

pub first_is : {X : Type 0} (p : X → Bool) (x : X) (left rest : List X) (found : Option X) → left ≡ x ∷ rest → find p left ≡ found → p x ≡ true → Some x ≡ found
first_is p x left rest found is before passes = rw (is, passes) at before

pub first_isnt : {X : Type 0} (p : X → Bool) (x : X) (left rest : List X) (found : Option X) → left ≡ x ∷ rest → find p left ≡ found → p x ≡ false → find p rest ≡ found
first_isnt p x left rest found is before passes = rw (is, passes) at before

pub none_is : {X : Type 0} (p : X → Bool) (left : List X) (found : Option X) → left ≡ [] → find p left ≡ found → None ≡ found
none_is p left found is before = rw is at before

pub tested : (kernel : Table) (offset value wanted number : ℕ) (answer : Bool) → value ≡ wanted → answer ≡ has_number kernel offset value number → has_number kernel offset wanted number ≡ answer
tested kernel offset value wanted number answer same is = sym (subst (λ (v : ℕ). answer ≡ has_number kernel offset v number) same is)
