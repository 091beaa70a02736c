-- The absence of faults in a whole, by the absence of faults in its parts.
use Rattle.std.proofs.Common.{◌≡◌, ℕ, ◌≤◌, length, List, ◌⊎◌, Any, inl, inr, subst, sym, take, Result, Ok, Err}
use Rattle.std.specs.List.{All}
use Rattle.std.specs.Result.{IfErr, IsErrAnd}
use Rattle.std.proofs.lemmas.List.{take_all}
use Rattle.btf_records.specs.declared.error.BtfError.{BtfError}
use Rattle.btf_storage.specs.Faultless.{IsFaultless}

-- If no element has a fault, the list has no fault.
pub none_of_any : {X : Type 0} (fault : X → BtfError → Type 0) (xs : List X) → All (λ x. IsFaultless (fault x)) xs → IsFaultless (λ e. Any (λ x. fault x e) xs)
none_of_any fault xs each = record { none = λ e any. (each any.0 any.1 any.2).none e (subst (λ x. fault x e) (sym any.3) any.4) }

-- If none of three parts has a fault, the whole has no fault.
pub none_of_three : (one other third : BtfError → Type 0) → IsFaultless one → IsFaultless other → IsFaultless third → IsFaultless (λ e. one e ⊎ other e ⊎ third e)
none_of_three one other third p q r = record { none = λ e h. elim h [ inl a ↦ p.none e a | inr b ↦ elim b [ inl a ↦ q.none e a | inr a ↦ r.none e a ] ] }

-- A property of the first elements holds of all elements if there are no more.
pub each_of_all : {X : Type 0} (P : X → Type 0) (xs : List X) (at : ℕ) → length xs ≤ at → All P (take at xs) → All P xs
each_of_all P xs at h each = subst (All P) (take_all at xs h) each

-- A property of an error holds of the error of a result that passes it on.
pub passed_on : {T : Type 0} (result : Result T BtfError) (e : BtfError) (P : BtfError → Type 0) → IsErrAnd result (λ f. f ≡ e) → P e → IfErr result P
passed_on (Ok x) e P h p = tt
passed_on (Err f) e P h p = subst P (sym h) p
