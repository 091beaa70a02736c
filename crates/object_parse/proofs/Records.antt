-- The records at the indexes of a stretch are those that begin in it.
use Rattle.std.proofs.Common.{◌≡◌, ℕ, zero, suc, ◌+◌, ◌<◌, ◌≤◌, ◌==◌, Bool, true, false, Some, None, List, [], ◌∷◌, ◌++◌, length, map, sym, ap, ◌∙◌, refl, arith, add-one, drop, take, get_or, length-append}
use Rattle.std.specs.Prelude.{Option, filter, filter_map, not, slice_get}
use Rattle.std.proofs.lemmas.Bool.Decides.{nat_tests}
use Rattle.std.proofs.lemmas.List.{append-nil, append_assoc, length-map, map-append}
use Rattle.std.proofs.lemmas.List.Elements.{filter_map-append}
use Rattle.std.proofs.lemmas.List.Filters.{length-filter_both}
use Rattle.std.proofs.Math.Seq.{take-suc}
use Rattle.object_parse.specs.Kept.{is_within}
use Rattle.object_parse.specs.SlotIndexes.{indexes_within, numbered}
use Rattle.object_parse.specs.declared.slot_index.IndexedSlot.{IndexedSlot}

abbrev kept_at : (ℕ → Bool) → ℕ → List ℕ → List ℕ
kept_at test at slots = map (λ p. p.index) (filter (λ p. test p.slot) (numbered at slots))

here : {R : Type 0} (front : List R) (r : R) (rest : List R) → slice_get (front ++ r ∷ rest) (length front) ≡ Some r
here [] r rest = refl
here (x ∷ front) r rest = here front r rest

read_more : {R : Type 0} (slot_of : R → ℕ) (test : ℕ → Bool) (all front : List R) (r : R) (rest : List R) (b : Bool) → all ≡ front ++ r ∷ rest → test (slot_of r) ≡ b → filter_map (slice_get all) (kept_at test (suc (length front)) (map slot_of rest)) ≡ filter (λ r. test (slot_of r)) rest → filter_map (slice_get all) (kept_at test (length front) (map slot_of (r ∷ rest))) ≡ filter (λ r. test (slot_of r)) (r ∷ rest)
read_more slot_of test all front r rest true is e more =
    let first : slice_get all (length front) ≡ Some r = ap (λ rs. slice_get rs (length front)) is ∙ here front r rest in
    rw (e, first) (ap (λ rs. r ∷ rs) more)
read_more slot_of test all front r rest false is e more = rw e more

records_at : {R : Type 0} (slot_of : R → ℕ) (test : ℕ → Bool) (all front rest : List R) → all ≡ front ++ rest → filter_map (slice_get all) (kept_at test (length front) (map slot_of rest)) ≡ filter (λ r. test (slot_of r)) rest
records_at slot_of test all front [] is = refl
records_at slot_of test all front (r ∷ rest) is =
    let len : length (front ++ r ∷ []) ≡ suc (length front) = omega (arith, length-append front (r ∷ [])) in
    let more = records_at slot_of test all (front ++ r ∷ []) rest (is ∙ sym (append_assoc front (r ∷ []) rest)) in
    read_more slot_of test all front r rest (test (slot_of r)) is refl (rw len at more)

-- The same for a whole list.
pub records_within : {R : Type 0} (slot_of : R → ℕ) (start slots : ℕ) (records : List R) → filter_map (slice_get records) (indexes_within start slots (map slot_of records)) ≡ filter (λ r. is_within start slots (slot_of r)) records
records_within slot_of start slots records = records_at slot_of (is_within start slots) records [] records refl

same_more : {X : Type 0} (p q : X → Bool) (x : X) (xs : List X) → p x ≡ q x → filter p xs ≡ filter q xs → filter p (x ∷ xs) ≡ filter q (x ∷ xs)
same_more p q x xs e rest = rw (e, rest) refl

same_filter : {X : Type 0} (p q : X → Bool) → ((x : X) → p x ≡ q x) → (xs : List X) → filter p xs ≡ filter q xs
same_filter p q e [] = refl
same_filter p q e (x ∷ xs) = same_more p q x xs (e x) (same_filter p q e xs)

one_slot : (start slot : ℕ) → is_within start 1 slot ≡ (slot == start)
one_slot start slot = grind (arith, nat_tests)

-- A stretch of one slot.
pub records_at_slot : {R : Type 0} (slot_of : R → ℕ) (start : ℕ) (records : List R) → filter_map (slice_get records) (indexes_within start 1 (map slot_of records)) ≡ filter (λ r. slot_of r == start) records
records_at_slot slot_of start records = records_within slot_of start 1 records ∙ same_filter (λ r. is_within start 1 (slot_of r)) (λ r. slot_of r == start) (λ r. one_slot start (slot_of r)) records

filter_len : {X : Type 0} (p : X → Bool) (xs : List X) → length (filter p xs) ≤ length xs
filter_len p xs = omega (arith, length-filter_both p (λ x. not (p x)) (λ _. refl) xs)

-- At most as many records are stored as there are.
pub kept_few : {X Y : Type 0} (f : X → Y) (p : X → Bool) (xs : List X) (ys : List Y) (most : ℕ) → ys ≡ map f (filter p xs) → length xs < most → length ys < most
kept_few f p xs ys most is few = rw is (omega (arith, length-map (filter p xs) f, filter_len p xs))

split_some : {X : Type 0} (xs : List X) (at : ℕ) (x : X) → slice_get xs at ≡ Some x → drop at xs ≡ x ∷ drop (suc at) xs
split_some [] zero x e = absurd cc
split_some [] (suc at) x e = absurd cc
split_some (y ∷ ys) zero x e = let same : y ≡ x = cc in rw same refl
split_some (y ∷ ys) (suc at) x e = split_some ys at x e

split_none : {X : Type 0} (xs : List X) (at : ℕ) → slice_get xs at ≡ None → drop at xs ≡ []
split_none [] zero e = refl
split_none [] (suc at) e = refl
split_none (y ∷ ys) zero e = absurd cc
split_none (y ∷ ys) (suc at) e = split_none ys at e

-- One more slot has its index.
pub number_more : {R : Type 0} (slot_of : R → ℕ) (records : List R) (done all : List IndexedSlot) (index : ℕ) (r : R) → slice_get records index ≡ Some r → done ++ numbered index (map slot_of (drop index records)) ≡ all → (done ++ record { slot = slot_of r; index = index } ∷ []) ++ numbered (suc index) (map slot_of (drop (suc index) records)) ≡ all
number_more slot_of records done all index r is e = append_assoc done (record { slot = slot_of r; index = index } ∷ []) _ ∙ (rw (split_some records index r is) at e)

-- All slots have their indexes.
pub number_all : {R : Type 0} (slot_of : R → ℕ) (records : List R) (done all : List IndexedSlot) (index : ℕ) → slice_get records index ≡ None → done ++ numbered index (map slot_of (drop index records)) ≡ all → done ≡ all
number_all slot_of records done all index is e = sym (append-nil done) ∙ (rw (split_none records index is) at e)

kept_to : {X R S : Type 0} (f : R → S) (h : X → Option R) (xs : List X) (at : ℕ) (d : X) → at < length xs → map f (filter_map h (take (at + 1) xs)) ≡ map f (filter_map h (take at xs)) ++ map f (filter_map h (get_or xs at d ∷ []))
kept_to f h xs at d l = rw (add-one, take-suc xs at d l, filter_map-append) (map-append f (filter_map h (take at xs)) (filter_map h (get_or xs at d ∷ [])))

-- One more record is stored.
pub one_kept : {X R S : Type 0} (f : R → S) (h : X → Option R) (xs : List X) (at : ℕ) (d : X) (r : R) (kept : List S) → at < length xs → h (get_or xs at d) ≡ Some r → kept ≡ map f (filter_map h (take at xs)) → kept ++ f r ∷ [] ≡ map f (filter_map h (take (at + 1) xs))
one_kept f h xs at d r kept l e k =
    let more : map f (filter_map h (get_or xs at d ∷ [])) ≡ f r ∷ [] = rw e refl in
    rw (kept_to f h xs at d l, more, k) refl

pub none_kept : {X R S : Type 0} (f : R → S) (h : X → Option R) (xs : List X) (at : ℕ) (d : X) (kept : List S) → at < length xs → h (get_or xs at d) ≡ None → kept ≡ map f (filter_map h (take at xs)) → kept ≡ map f (filter_map h (take (at + 1) xs))
none_kept f h xs at d kept l e k =
    let more : map f (filter_map h (get_or xs at d ∷ [])) ≡ [] = rw e refl in
    k ∙ sym (rw (kept_to f h xs at d l, more) (append-nil (map f (filter_map h (take at xs)))))
