-- An increasing list of numbers is determined by the count of each number.
use Rattle.std.proofs.Common.{◌≡◌, ℕ, suc, ◌+◌, ◌<◌, ◌≤◌, ◌==◌, ◌⊎◌, inl, inr, Bool, true, false, cond, List, [], ◌∷◌, map, sym, ap, ◌∙◌, refl, arith}
use Rattle.std.specs.Prelude.{⊤, filter, sum_by}
use Rattle.std.specs.List.{AllByRecursion}
use Rattle.std.specs.List.Sorted.{IsNonDecreasingBy, IsPermutation}
use Rattle.std.proofs.lemmas.Bool.{cases_order}
use Rattle.std.proofs.lemmas.Bool.Decides.{nat_tests}
use Rattle.std.proofs.lemmas.List.Elements.{recursion_from_All}
use Rattle.std.proofs.lemmas.List.Sorted.{sum_by-IsPermutation}
use Rattle.std.proofs.lemmas.List.Sums.{sum_by-cons}
use Rattle.object_parse.specs.SlotIndexes.{AreBySlot, indexes_within, numbered}
use Rattle.object_parse.specs.Kept.{is_within}
use Rattle.object_parse.specs.declared.slot_index.IndexedSlot.{IndexedSlot}

-- Each number is at most the numbers after it.
abbrev pub Rise : List ℕ → Type 0
Rise [] = ⊤
Rise (x ∷ xs) = AllByRecursion (λ y. x ≤ y) xs × Rise xs

abbrev unit : ℕ → ℕ → ℕ
unit n x = cond (x == n) 1 0

abbrev count : ℕ → List ℕ → ℕ
count n xs = sum_by (unit n) xs

none_above : (n : ℕ) (xs : List ℕ) → AllByRecursion (λ y. n < y) xs → count n xs ≡ 0
none_above n [] all = refl
none_above n (x ∷ xs) all =
    let here : unit n x ≡ 0 = grind (arith, nat_tests, all.0) in
    omega (arith, sum_by-cons (unit n) x xs, here, none_above n xs all.1)

above : (n m : ℕ) (xs : List ℕ) → n < m → AllByRecursion (λ y. m ≤ y) xs → AllByRecursion (λ y. n < y) xs
above n m [] h all = tt
above n m (x ∷ xs) h all = (omega (arith, all.0), above n m xs h all.1)

here_once : (x : ℕ) (xs : List ℕ) → count x (x ∷ xs) ≡ 1 + count x xs
here_once x xs =
    let here : unit x x ≡ 1 = grind (arith, nat_tests) in
    omega (arith, sum_by-cons (unit x) x xs, here)

-- Two increasing lists with the same counts have the same first number.
same_first : (x y : ℕ) (xs ys : List ℕ) → AllByRecursion (λ z. x ≤ z) xs → AllByRecursion (λ z. y ≤ z) ys → ((n : ℕ) → count n (x ∷ xs) ≡ count n (y ∷ ys)) → (x ≡ y) ⊎ ((x < y) ⊎ (y < x)) → x ≡ y
same_first x y xs ys a b same (inl e) = e
same_first x y xs ys a b same (inr (inl h)) = absurd (omega (arith, same x, here_once x xs, none_above x (y ∷ ys) (h, above x y ys h b)))
same_first x y xs ys a b same (inr (inr h)) = absurd (omega (arith, same y, here_once y ys, none_above y (x ∷ xs) (h, above y x xs h a)))

pub same_by_counts : (xs ys : List ℕ) → Rise xs → Rise ys → ((n : ℕ) → count n xs ≡ count n ys) → xs ≡ ys
same_by_counts [] [] a b same = refl
same_by_counts [] (y ∷ ys) a b same = absurd (omega (arith, same y, here_once y ys))
same_by_counts (x ∷ xs) [] a b same = absurd (omega (arith, same x, here_once x xs))
same_by_counts (x ∷ xs) (y ∷ ys) a b same =
    let first : x ≡ y = same_first x y xs ys a.0 b.0 same (cases_order x y) in
    let rest : xs ≡ ys = same_by_counts xs ys a.1 b.1 (λ n. omega (arith, same n, sum_by-cons (unit n) x xs, sum_by-cons (unit n) y ys, ap (unit n) first)) in
    cc

-- The result of a sort.
pub rise_by : (xs : List ℕ) → IsNonDecreasingBy (λ x. x) xs → Rise xs
rise_by [] h = tt
rise_by (x ∷ xs) h = (recursion_from_All (λ y. x ≤ y) xs (λ k d l. h 0 (suc k) d (omega arith) (omega arith)), rise_by xs (λ i j d l m. h (suc i) (suc j) d (omega arith) (omega arith)))

kept_more : {X : Type 0} (n : ℕ) (f : X → ℕ) (p : X → Bool) (x : X) (xs : List X) (b : Bool) → p x ≡ b → count n (map f (filter p xs)) ≡ sum_by (λ x. cond (p x) (unit n (f x)) 0) xs → count n (map f (filter p (x ∷ xs))) ≡ sum_by (λ x. cond (p x) (unit n (f x)) 0) (x ∷ xs)
kept_more n f p x xs true e rest =
    let left : count n (map f (filter p (x ∷ xs))) ≡ unit n (f x) + count n (map f (filter p xs)) = rw e (sum_by-cons (unit n) (f x) (map f (filter p xs))) in
    let here : cond (p x) (unit n (f x)) 0 ≡ unit n (f x) = rw e refl in
    omega (arith, left, here, rest, sum_by-cons (λ x. cond (p x) (unit n (f x)) 0) x xs)
kept_more n f p x xs false e rest =
    let left : count n (map f (filter p (x ∷ xs))) ≡ count n (map f (filter p xs)) = rw e refl in
    let here : cond (p x) (unit n (f x)) 0 ≡ 0 = rw e refl in
    omega (arith, left, here, rest, sum_by-cons (λ x. cond (p x) (unit n (f x)) 0) x xs)

-- The count of a number among the elements that pass.
sum_of_kept : {X : Type 0} (n : ℕ) (f : X → ℕ) (p : X → Bool) (xs : List X) → count n (map f (filter p xs)) ≡ sum_by (λ x. cond (p x) (unit n (f x)) 0) xs
sum_of_kept n f p [] = refl
sum_of_kept n f p (x ∷ xs) = kept_more n f p x xs (p x) refl (sum_of_kept n f p xs)

kept_counts : (n from many : ℕ) (places others : List IndexedSlot) → IsPermutation places others → count n (map (λ p. p.index) (filter (λ p. is_within from many p.slot) others)) ≡ count n (map (λ p. p.index) (filter (λ p. is_within from many p.slot) places))
kept_counts n from many places others same =
    sum_of_kept n (λ p. p.index) (λ p. is_within from many p.slot) others
    ∙ sum_by-IsPermutation (λ (p : IndexedSlot). cond (is_within from many p.slot) (unit n p.index) 0) places others same
    ∙ sym (sum_of_kept n (λ p. p.index) (λ p. is_within from many p.slot) places)

least : (at more : ℕ) (xs : List ℕ) → at ≤ more → AllByRecursion (λ i. more ≤ i) xs → AllByRecursion (λ i. at ≤ i) xs
least at more [] h all = tt
least at more (x ∷ xs) h all = (omega (arith, all.0), least at more xs h all.1)

abbrev kept_at : (ℕ → Bool) → ℕ → List ℕ → List ℕ
kept_at test at slots = map (λ p. p.index) (filter (λ p. test p.slot) (numbered at slots))

rise_more : (test : ℕ → Bool) (at slot : ℕ) (slots : List ℕ) (b : Bool) → test slot ≡ b → AllByRecursion (λ i. suc at ≤ i) (kept_at test (suc at) slots) × Rise (kept_at test (suc at) slots) → AllByRecursion (λ i. at ≤ i) (kept_at test at (slot ∷ slots)) × Rise (kept_at test at (slot ∷ slots))
rise_more test at slot slots true e rest = rw e ((omega arith, least at (suc at) _ (omega arith) rest.0), (least at (suc at) _ (omega arith) rest.0, rest.1))
rise_more test at slot slots false e rest = rw e (least at (suc at) _ (omega arith) rest.0, rest.1)

-- The indexes of the stored records increase.
indexes_rise : (test : ℕ → Bool) (at : ℕ) (slots : List ℕ) → AllByRecursion (λ i. at ≤ i) (kept_at test at slots) × Rise (kept_at test at slots)
indexes_rise test at [] = (tt, tt)
indexes_rise test at (slot ∷ slots) = rise_more test at slot slots (test slot) refl (indexes_rise test (suc at) slots)

-- The sorted indexes of a stretch are the indexes of its slots.
pub sorted_indexes : (from many : ℕ) (places : List IndexedSlot) (indexes : List ℕ) → IsPermutation (map (λ p. p.index) (filter (λ p. is_within from many p.slot) places)) indexes → IsNonDecreasingBy (λ x. x) indexes → (slots : List ℕ) → AreBySlot slots places → indexes ≡ indexes_within from many slots
sorted_indexes from many places indexes moved sorted slots a =
    same_by_counts indexes (indexes_within from many slots) (rise_by indexes sorted) (indexes_rise (is_within from many) 0 slots).1
    (λ n. sum_by-IsPermutation (unit n) _ indexes moved ∙ kept_counts n from many (numbered 0 slots) places a.same)
