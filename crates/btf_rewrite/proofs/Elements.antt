-- Properties of the elements of a list.
use Rattle.std.proofs.Common.{ℕ, ◌<◌, ◌≤◌, List, get_or, length, take, subst, sym}
use Rattle.std.specs.List.{All}
use Rattle.std.specs.Prelude.{Any}
use Rattle.std.proofs.lemmas.List.{get_or_default, take_all}
use Rattle.btf_storage.specs.Faultless.{IsFaultless}
use Rattle.btf_records.specs.declared.error.BtfError.{BtfError}

pub record HoldsOfFirst {X : Type 0} (P : X → Type 0) (xs : List X) (i : ℕ) : Type 0 where
  pub each : All P (take i xs)

none_of_any : {X : Type 0} (fault : X → BtfError → Type 0) (xs : List X) → All (λ x. IsFaultless (fault x)) xs → IsFaultless (λ e. Any (λ x. fault x e) xs)
none_of_any fault xs each = record { none = λ e any. (each any.0 any.1 any.2).none e (subst (λ x. fault x e) (sym any.3) any.4) }

-- If the first elements have no fault, and there are no others, no element has a fault.
pub none_of_all : {X : Type 0} (fault : X → BtfError → Type 0) (xs : List X) (i : ℕ) → HoldsOfFirst (λ x. IsFaultless (fault x)) xs i → length xs ≤ i → IsFaultless (λ e. Any (λ x. fault x e) xs)
none_of_all fault xs i h k = none_of_any fault xs (subst (All (λ x. IsFaultless (fault x))) (take_all i xs k) h.each)

-- A fault of an element is a fault of some element.
pub any_at : {X : Type 0} (P : X → Type 0) (xs : List X) (i : ℕ) (x : X) → i < length xs → P (get_or xs i x) → Any P xs
any_at P xs i x h holds = (i, get_or xs i x, h, get_or_default xs i (get_or xs i x) x h, holds)
