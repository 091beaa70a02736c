-- The lists of calls, and where functions begin.
use Rattle.std.proofs.Common.{◌≡◌, ◌≢◌, ◌<◌, ◌⊎◌, ℕ, Bool, true, false, cond, List, [], ◌∷◌, ◌++◌, length, get_or, set, length-set, Option, Some, refl, sym, ap, ◌∙◌, subst, inl, inr, nat_lt, Vec}
use Rattle.std.proofs.lemmas.Bool.{ltb-true}
use Rattle.std.proofs.lemmas.Option.{slice_get_read}
use Rattle.std.specs.Prelude.{slice_get, unwrap_or}
use Rattle.std.specs.declared.alloc.Global.{Global}
use Rattle.plan_values.specs.Programs.{Code, function_of}
use Rattle.plan_registers.specs.Work.{Has, IsListed, listed_at, listed_in}
use Rattle.plan_registers.proofs.Joining.{get_set_other, get_set_same, has_front, has_last, same_or_not}

-- Where a function begins.

at_least : (m n : ℕ) (v : Bool) → nat_lt m n ≡ v → 0 < n → cond v m 0 < n
at_least m n true e h = ltb-true m n e
at_least m n false e h = h

pub function_inside : (code : Code) (slot : ℕ) → 0 < length code.slots → function_of code slot < length code.slots
function_inside code slot h =
    at_least (unwrap_or (slice_get code.functions slot) 0) (length code.slots) (nat_lt (unwrap_or (slice_get code.functions slot) 0) (length code.slots)) refl h

-- A number is put at the end of one of the lists.

module _ (old : List (Vec ℕ Global)) (i n : ℕ) (a b : Vec ℕ Global) (at : slice_get old i ≡ Some a) (more : b.items ≡ a.items ++ n ∷ []) where
  abbrev changed : List (Vec ℕ Global)
  changed = set old i b

  here : listed_at changed i ≡ a.items ++ n ∷ []
  here = ap (λ (o : Option (Vec ℕ Global)). listed_in o) (get_set_same old i b a at) ∙ more

  kept_here : (m : ℕ) → Has (listed_at old i) m → Has (listed_at changed i) m
  kept_here m h =
      let was : Has a.items m = subst (λ (o : Option (Vec ℕ Global)). Has (listed_in o) m) at h in
      subst (λ (ns : List ℕ). Has ns m) (sym here) (has_front a.items (n ∷ []) m was)

  kept_at : (k m : ℕ) → (k ≡ i) ⊎ (k ≢ i) → Has (listed_at old k) m → Has (listed_at changed k) m
  kept_at k m (inl e) h = subst (λ (j : ℕ). Has (listed_at changed j) m) (sym e) (kept_here m (subst (λ (j : ℕ). Has (listed_at old j) m) e h))
  kept_at k m (inr d) h = subst (λ (o : Option (Vec ℕ Global)). Has (listed_in o) m) (sym (get_set_other old i b k d)) h

  pub is_listed : IsListed old changed i n
  is_listed = record {
    size = length-set old i b;
    kept = λ k m h. kept_at k m (same_or_not k i) h;
    listed = subst (λ (ns : List ℕ). Has ns n) (sym here) (has_last a.items n);
  }

pub is_listed_at : (old : List (Vec ℕ Global)) (i n : ℕ) (a b : Vec ℕ Global) → i < length old → a ≡ get_or old i a → b.items ≡ a.items ++ n ∷ [] → IsListed old (set old i b) i n
is_listed_at old i n a b h e more = is_listed old i n a b (slice_get_read old (length old) i a refl h e) more
