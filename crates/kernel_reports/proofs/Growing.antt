-- A map of externs that is filled in the order of its keys.
use Rattle.std.proofs.Common.{◌≡◌, ℕ, List, [], ◌∷◌, ◌++◌, map, refl, ap, sym, ◌∙◌, append_assoc, append-nil}
use Rattle.std.specs.BTreeMap.{insert_entry}
use Rattle.std.specs.Cmp.Lexicographic.{nat_list_cmp_total, slice_cmp}
use Rattle.std.specs.List.{AllByRecursion}
use Rattle.std.specs.List.Sorted.{IsStrictlySortedBy}
use Rattle.std.specs.Ordering.{match_ordering, nat_cmp, ordering_reverse}
use Rattle.std.specs.declared.cmp.Ordering.{Ordering}
use Rattle.std.specs.declared.cmp.Ordering.TheVariants.{Less, Greater}
use Rattle.object_externs.specs.Externs.{ExternContent}
use Rattle.kernel_reports.specs.Presences.{as_weak}

abbrev pub weak_entry : List ℕ × ExternContent → List ℕ × ExternContent
weak_entry e = (e.0, as_weak e.1)

-- The entries before the rest were entered.
pub record AreEntered (all rest done : List (List ℕ × ExternContent)) : Type 0 where
  pub front : List (List ℕ × ExternContent)
  pub split : all ≡ front ++ rest
  pub is : done ≡ map weak_entry front

last_below : (x n : List ℕ) (e : ExternContent) (front rest : List (List ℕ × ExternContent)) → AllByRecursion (λ y. slice_cmp nat_cmp x y ≡ Less) (map (λ e. e.0) (front ++ (n, e) ∷ rest)) → slice_cmp nat_cmp x n ≡ Less
last_below x n e [] rest all = all.0
last_below x n e (f ∷ front) rest all = last_below x n e front rest all.1

above : (x n : List ℕ) → slice_cmp nat_cmp x n ≡ Less → slice_cmp nat_cmp n x ≡ Greater
above x n below = nat_list_cmp_total.antisymm n x ∙ ap ordering_reverse below

-- An entry whose key is above all keys is inserted at the end.
inserted_last : (front rest : List (List ℕ × ExternContent)) (n : List ℕ) (e v : ExternContent) → IsStrictlySortedBy (slice_cmp nat_cmp) (map (λ e. e.0) (front ++ (n, e) ∷ rest)) → insert_entry (slice_cmp nat_cmp) (map weak_entry front) n v ≡ map weak_entry front ++ (n, v) ∷ []
unfolding IsStrictlySortedBy
inserted_last [] rest n e v sorted = refl
inserted_last (f ∷ front) rest n e v sorted =
    let greater : slice_cmp nat_cmp n f.0 ≡ Greater = above f.0 n (last_below f.0 n e front rest sorted.0) in
    ap (λ (o : Ordering). match_ordering o ((n, v) ∷ weak_entry f ∷ map weak_entry front) ((f.0, v) ∷ map weak_entry front) (weak_entry f ∷ insert_entry (slice_cmp nat_cmp) (map weak_entry front) n v)) greater
    ∙ ap (λ (l : List (List ℕ × ExternContent)). weak_entry f ∷ l) (inserted_last front rest n e v sorted.1)

map_more : (front : List (List ℕ × ExternContent)) (x : List ℕ × ExternContent) → map weak_entry (front ++ x ∷ []) ≡ map weak_entry front ++ weak_entry x ∷ []
map_more [] x = refl
map_more (f ∷ front) x = ap (λ (l : List (List ℕ × ExternContent)). weak_entry f ∷ l) (map_more front x)

pub none_entered : (all rest done : List (List ℕ × ExternContent)) → rest ≡ all → done ≡ [] → AreEntered all rest done
none_entered all rest done whole empty = record { front = []; split = sym whole; is = empty }

pub one_more : (all rest more : List (List ℕ × ExternContent)) (old new : List (List ℕ × ExternContent)) (n : List ℕ) (e v : ExternContent) → IsStrictlySortedBy (slice_cmp nat_cmp) (map (λ e. e.0) all) → rest ≡ (n, e) ∷ more → AreEntered all rest old → v ≡ as_weak e → new ≡ insert_entry (slice_cmp nat_cmp) old n v → AreEntered all more new
one_more all rest more old new n e v sorted next before weak inserted =
    let split : all ≡ before.front ++ (n, e) ∷ more = before.split ∙ ap (λ (l : List (List ℕ × ExternContent)). before.front ++ l) next in
    let last : insert_entry (slice_cmp nat_cmp) (map weak_entry before.front) n v ≡ map weak_entry before.front ++ (n, v) ∷ [] = inserted_last before.front more n e v (rw split at sorted) in
    record {
      front = before.front ++ (n, e) ∷ [];
      split = split ∙ sym (append_assoc before.front ((n, e) ∷ []) more);
      is =
          inserted
          ∙ ap (λ (l : List (List ℕ × ExternContent)). insert_entry (slice_cmp nat_cmp) l n v) before.is
          ∙ last
          ∙ ap (λ (w : ExternContent). map weak_entry before.front ++ (n, w) ∷ []) weak
          ∙ sym (map_more before.front (n, e));
    }

pub all_entered : (all rest done : List (List ℕ × ExternContent)) → rest ≡ [] → AreEntered all rest done → done ≡ map weak_entry all
all_entered all rest done none before =
    let same : all ≡ before.front = before.split ∙ ap (λ (l : List (List ℕ × ExternContent)). before.front ++ l) none ∙ append-nil before.front in
    before.is ∙ ap (map weak_entry) (sym same)
