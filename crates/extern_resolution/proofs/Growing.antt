-- A map that is filled in the order of its keys.
use Rattle.std.proofs.Common.{◌≡◌, ℕ, List, [], ◌∷◌, ◌++◌, map, refl, ap, sym, ◌∙◌, subst, append_assoc, append-nil}
use Rattle.std.specs.BTreeMap.{insert_entry}
use Rattle.std.specs.Cmp.Lexicographic.{nat_list_cmp_total, slice_cmp}
use Rattle.std.specs.List.{AllByRecursion, AllZip}
use Rattle.std.specs.List.Sorted.{IsStrictlySortedBy}
use Rattle.std.specs.Ordering.{match_ordering, nat_cmp, ordering_reverse}
use Rattle.std.specs.declared.cmp.Ordering.{Ordering}
use Rattle.std.specs.declared.cmp.Ordering.TheVariants.{Less, Greater}
use Rattle.extern_resolution.specs.Steps.{Grows}
use Rattle.object_externs.specs.Externs.{ExternContent}

last_below : (x n : List ℕ) (e : ExternContent) (front rest : List (List ℕ × ExternContent)) → AllByRecursion (λ y. slice_cmp nat_cmp x y ≡ Less) (map (λ e. e.0) (front ++ (n, e) ∷ rest)) → slice_cmp nat_cmp x n ≡ Less
last_below x n e [] rest all = all.0
last_below x n e (f ∷ front) rest all = last_below x n e front rest all.1

above : (x n : List ℕ) → slice_cmp nat_cmp x n ≡ Less → slice_cmp nat_cmp n x ≡ Greater
above x n below = nat_list_cmp_total.antisymm n x ∙ ap ordering_reverse below

-- An entry whose key is above all keys is inserted at the end.
inserted_last : (R : (List ℕ × ExternContent) → (List ℕ × ExternContent) → Type 0) → ((p q : List ℕ × ExternContent) → R p q → q.0 ≡ p.0) → (front done rest : List (List ℕ × ExternContent)) (n : List ℕ) (e v : ExternContent) → AllZip R front done → IsStrictlySortedBy (slice_cmp nat_cmp) (map (λ e. e.0) (front ++ (n, e) ∷ rest)) → insert_entry (slice_cmp nat_cmp) done n v ≡ done ++ (n, v) ∷ []
unfolding IsStrictlySortedBy
inserted_last R named [] [] rest n e v zip sorted = refl
inserted_last R named [] (d ∷ done) rest n e v zip sorted = absurd zip
inserted_last R named (f ∷ front) [] rest n e v zip sorted = absurd zip
inserted_last R named (f ∷ front) (d ∷ done) rest n e v zip sorted =
    let same : d.0 ≡ f.0 = named f d zip.0 in
    let greater : slice_cmp nat_cmp n d.0 ≡ Greater = ap (slice_cmp nat_cmp n) same ∙ above f.0 n (last_below f.0 n e front rest sorted.0) in
    ap (λ (o : Ordering). match_ordering o ((n, v) ∷ d ∷ done) ((d.0, v) ∷ done) (d ∷ insert_entry (slice_cmp nat_cmp) done n v)) greater
    ∙ ap (λ (l : List (List ℕ × ExternContent)). d ∷ l) (inserted_last R named front done rest n e v zip.1 sorted.1)

zip_more : (R : (List ℕ × ExternContent) → (List ℕ × ExternContent) → Type 0) (front done : List (List ℕ × ExternContent)) (p q : List ℕ × ExternContent) → AllZip R front done → R p q → AllZip R (front ++ p ∷ []) (done ++ q ∷ [])
zip_more R [] [] p q zip r = (r, tt)
zip_more R [] (d ∷ done) p q zip r = absurd zip
zip_more R (f ∷ front) [] p q zip r = absurd zip
zip_more R (f ∷ front) (d ∷ done) p q zip r = (zip.0, zip_more R front done p q zip.1 r)

pub grows_more : (R : (List ℕ × ExternContent) → (List ℕ × ExternContent) → Type 0) → ((p q : List ℕ × ExternContent) → R p q → q.0 ≡ p.0) → (all rest more done : List (List ℕ × ExternContent)) (n : List ℕ) (e v : ExternContent) → IsStrictlySortedBy (slice_cmp nat_cmp) (map (λ e. e.0) all) → rest ≡ (n, e) ∷ more → Grows R all rest done → R (n, e) (n, v) → Grows R all more (insert_entry (slice_cmp nat_cmp) done n v)
grows_more R named all rest more done n e v sorted next before r =
    let split : all ≡ before.front ++ (n, e) ∷ more = before.split ∙ ap (λ (l : List (List ℕ × ExternContent)). before.front ++ l) next in
    let last : insert_entry (slice_cmp nat_cmp) done n v ≡ done ++ (n, v) ∷ [] = inserted_last R named before.front done more n e v before.each (rw split at sorted) in
    record {
      front = before.front ++ (n, e) ∷ [];
      split = split ∙ sym (append_assoc before.front ((n, e) ∷ []) more);
      each = rw last (zip_more R before.front done (n, e) (n, v) before.each r);
    }

pub grows_none : (R : (List ℕ × ExternContent) → (List ℕ × ExternContent) → Type 0) (all : List (List ℕ × ExternContent)) → Grows R all all []
grows_none R all = record { front = []; split = refl; each = tt }

pub grows_by : (R : (List ℕ × ExternContent) → (List ℕ × ExternContent) → Type 0) → ((p q : List ℕ × ExternContent) → R p q → q.0 ≡ p.0) → (all rest more old new : List (List ℕ × ExternContent)) (n : List ℕ) (e v : ExternContent) → IsStrictlySortedBy (slice_cmp nat_cmp) (map (λ e. e.0) all) → rest ≡ (n, e) ∷ more → Grows R all rest old → R (n, e) (n, v) → new ≡ insert_entry (slice_cmp nat_cmp) old n v → Grows R all more new
grows_by R named all rest more old new n e v sorted next before r is = subst (Grows R all more) (sym is) (grows_more R named all rest more old n e v sorted next before r)

pub grown : (R : (List ℕ × ExternContent) → (List ℕ × ExternContent) → Type 0) (all rest done : List (List ℕ × ExternContent)) → rest ≡ [] → Grows R all rest done → AllZip R all done
grown R all rest done none before =
    let same : all ≡ before.front = before.split ∙ ap (λ (l : List (List ℕ × ExternContent)). before.front ++ l) none ∙ append-nil before.front in
    subst (λ (l : List (List ℕ × ExternContent)). AllZip R l done) (sym same) before.each
