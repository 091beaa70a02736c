-- The number of copies of a function, and the length of a program.
use Rattle.std.proofs.Common.{◌≡◌, ℕ, ◌+◌, ◌≤◌, Bool, true, false, cond, List, [], ◌∷◌, length, refl, ap, ◌∙◌, subst, arith}
use Rattle.linker.specs.Layout.{Key, same, Table, has, IsOrder, end_of, linked}
use Rattle.linker.specs.Reached.{AreDistinct}
use Rattle.linker.specs.Theorems.{copy_count, slots_of}
use Rattle.linker.proofs.SameKey.{same_self, same_true}
use Rattle.linker.proofs.Flat.{copies_length}
use Rattle.linker.proofs.Reach.{distinct}

-- 1 where the function is the program's own function, and 0 otherwise.
abbrev own_count : Key → Key → ℕ
own_count own key = cond (same own key) 1 0

absent_at : (own : Key) (ks : List Key) (key : Key) (v : Bool) → cond v true (has ks key) ≡ false → (has ks key ≡ false → copy_count own ks key ≡ own_count own key) → copy_count own ks key + cond v 1 0 ≡ own_count own key
absent_at own ks key true h ih = absurd (cc)
absent_at own ks key false h ih = omega (arith, ih h)

-- A function without an appended copy has a copy only as the own function.
absent : (own : Key) (ks : List Key) (key : Key) → has ks key ≡ false → copy_count own ks key ≡ own_count own key
absent own [] key h = refl
absent own (k ∷ ks) key h = absent_at own ks key (same k key) h (absent own ks key)

once_at : (own : Key) (ks : List Key) (k key : Key) (v : Bool) → same k key ≡ v → has ks k ≡ false → copy_count own ks key ≤ own_count own key + 1 → copy_count own ks key + cond v 1 0 ≤ own_count own key + 1
once_at own ks k key true e none ih =
    let here : has ks key ≡ false = subst (λ x. has ks x ≡ false) (same_true k key e) none in
    omega (arith, absent own ks key here)
once_at own ks k key false e none ih = omega (arith, ih)

once : (own : Key) (ks : List Key) (key : Key) → AreDistinct ks → copy_count own ks key ≤ own_count own key + 1
once own [] key d = omega arith
once own (k ∷ ks) key d = once_at own ks k key (same k key) refl d.0 (once own ks key d.1)

pub two_of_own : (t : Table) (own : Key) (ks : List Key) → IsOrder t own ks → copy_count own ks own ≤ 2
two_of_own t own ks o =
    let e : own_count own own ≡ 1 = ap (λ v. cond v 1 0) (same_self own) in
    omega (arith, e, once own ks own (distinct t own ks o))

pub one_of_others : (t : Table) (own : Key) (ks : List Key) (key : Key) → IsOrder t own ks → same own key ≡ false → copy_count own ks key ≤ 1
one_of_others t own ks key o h =
    let e : own_count own key ≡ 0 = ap (λ v. cond v 1 0) h in
    omega (arith, e, once own ks key (distinct t own ks o))

end_slots : (t : Table) (own : Key) (ks : List Key) → end_of t own ks ≡ length (t.slots own) + slots_of t ks
end_slots t own [] = omega arith
end_slots t own (k ∷ ks) = omega (arith, end_slots t own ks)

pub lengths_add : (t : Table) (own : Key) (ks : List Key) → length (linked t own ks) ≡ length (t.slots own) + slots_of t ks
lengths_add t own ks = copies_length t own ks ks ∙ end_slots t own ks
