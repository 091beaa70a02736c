-- Lists of numbers, and the words of maps.
use Rattle.std.proofs.Common.{◌≡◌, ℕ, zero, suc, drop, ◌^◌, ◌<◌, ◌≤◌, Bool, true, false, cond, nat_lt, List, [], ◌∷◌, ◌++◌, map, refl, ap, sym, ◌∙◌, subst, arith, lit<, Option, None, Some}
use Rattle.std.specs.Fmt.{decimal}
use Rattle.std.specs.List.{All, AllByRecursion}
use Rattle.std.specs.List.Sorted.{IsStrictlySortedBy}
use Rattle.std.specs.Option.{option_map}
use Rattle.std.specs.Ordering.{nat_cmp}
use Rattle.std.specs.Prelude.{◌==◌, option_and_then, slice_index}
use Rattle.std.specs.declared.cmp.Ordering.TheVariants.{Less, Equal, Greater}
use Rattle.std.proofs.lemmas.Bool.Decides.{nat_tests}
use Rattle.std.proofs.lemmas.List.Elements.{All-cons, All-head, All-nil, All-tail}
use Rattle.ebpf_items.specs.declared.maps.PinningType.{PinningType}
use Rattle.ebpf_items.specs.declared.maps.PinningType.TheVariants as pinning
use Rattle.plan_lines.proofs.WordTexts.{bind_some, guard_some, number_upto_decimal, number_upto_is}
use Rattle.plan_lines.specs.LineReading.{is_above, map_words_by, numbers_by, pinning_of, place_by, places_by, then_by, words_of}
use Rattle.plan_lines.specs.Lines.{AreTables, AreWithin, max_32, numbers_of, pinning_number, word_limits}
use Rattle.plan_lines.specs.WordReading.{first_by, number_upto, onto}
use Rattle.plan_lines.specs.declared.map_words.MapWords.{MapWords}

pub map_some : {A B : Type 0} (f : A → B) (o : Option A) (y : B) → option_map f o ≡ Some y → (x : A) × (o ≡ Some x) × (f x ≡ y)
map_some f None y h = cc
map_some f (Some x) y h = (x, refl, cc)

pub some_is : {A : Type 0} (x y : A) → Some x ≡ Some y → x ≡ y
some_is x y e = cc

-- One word was read.
pub first_takes : {A : Type 0} (read : List ℕ → Option A) (ws : List (List ℕ)) (a : A) (rest : List (List ℕ)) → first_by read ws ≡ Some (a, rest) → (w : List ℕ) × (ws ≡ w ∷ rest) × (read w ≡ Some a)
first_takes read [] a rest h = cc
first_takes {A} read (w ∷ ws) a rest h =
    let m = map_some (λ (x : A). (x, ws)) (read w) (a, rest) h in
    (w, ap (λ (p : A × List (List ℕ)). w ∷ p.1) m.2, m.1 ∙ ap (λ (p : A × List (List ℕ)). Some p.0) m.2)

pub first_again : {A : Type 0} (read : List ℕ → Option A) (w : List ℕ) (a : A) (rest : List (List ℕ)) → read w ≡ Some a → first_by read (w ∷ rest) ≡ Some (a, rest)
first_again {A} read w a rest h = ap (option_map (λ (x : A). (x, rest))) h

-- One value was read, and then another.
pub then_takes : {A B : Type 0} (r : Option (A × List (List ℕ))) (next : A → List (List ℕ) → Option (B × List (List ℕ))) (y : B × List (List ℕ)) → then_by r next ≡ Some y → (a : A) × (ws : List (List ℕ)) × (r ≡ Some (a, ws)) × (next a ws ≡ Some y)
then_takes None next y h = cc
then_takes (Some p) next y h = (p.0, p.1, refl, h)

pub then_again : {A B : Type 0} (r : Option (A × List (List ℕ))) (next : A → List (List ℕ) → Option (B × List (List ℕ))) (a : A) (ws : List (List ℕ)) → r ≡ Some (a, ws) → then_by r next ≡ next a ws
then_again r next a ws h = ap (λ x. then_by x next) h

-- Limits of at most 64 bits.
abbrev pub AreFew : List ℕ → Type 0
AreFew [] = Unit {0}
AreFew (max ∷ maxima) = (max < 2 ^ 64) × AreFew maxima

pub numbers_take : (maxima : List ℕ) (ws : List (List ℕ)) (numbers : List ℕ) (rest : List (List ℕ)) → AreFew maxima → numbers_by maxima ws ≡ Some (numbers, rest) → (ws ≡ map decimal numbers ++ rest) × AreWithin maxima numbers
numbers_take [] ws numbers rest few h =
    let e : ([], ws) ≡ (numbers, rest) = some_is ([], ws) (numbers, rest) h in
    let P : List ℕ × List (List ℕ) → Type 0 = λ p. (ws ≡ map decimal p.0 ++ p.1) × AreWithin [] p.0 in
    subst P e (refl, tt)
numbers_take (max ∷ maxima) ws numbers rest few h =
    let t = then_takes (first_by (number_upto max) ws) (λ n others. then_by (numbers_by maxima others) (λ ns left. Some (n ∷ ns, left))) (numbers, rest) h in
    let f = first_takes (number_upto max) ws t.0 t.1 t.2 in
    let n = number_upto_is max few.0 f.0 t.0 f.2 in
    let u = then_takes (numbers_by maxima t.1) (λ ns left. Some (t.0 ∷ ns, left)) (numbers, rest) t.3 in
    let r = numbers_take maxima t.1 u.0 u.1 few.1 u.2 in
    let e : (t.0 ∷ u.0, u.1) ≡ (numbers, rest) = some_is (t.0 ∷ u.0, u.1) (numbers, rest) u.3 in
    let P : List ℕ × List (List ℕ) → Type 0 = λ p. (ws ≡ map decimal p.0 ++ p.1) × AreWithin (max ∷ maxima) p.0 in
    subst P e (f.1 ∙ (ap (λ w. w ∷ t.1) n.0 ∙ ap (λ x. decimal t.0 ∷ x) r.0), (n.1, r.1))

pub numbers_again : (maxima numbers : List ℕ) (rest : List (List ℕ)) → AreFew maxima → AreWithin maxima numbers → numbers_by maxima (map decimal numbers ++ rest) ≡ Some (numbers, rest)
numbers_again [] [] rest few h = refl
numbers_again [] (n ∷ numbers) rest few h = absurd h
numbers_again (max ∷ maxima) [] rest few h = absurd h
numbers_again (max ∷ maxima) (n ∷ numbers) rest few h =
    then_again (first_by (number_upto max) (decimal n ∷ (map decimal numbers ++ rest))) (λ m others. then_by (numbers_by maxima others) (λ ns left. Some (m ∷ ns, left))) n (map decimal numbers ++ rest)
    (first_again (number_upto max) (decimal n) n (map decimal numbers ++ rest) (number_upto_decimal max few.0 n h.0))
    ∙ then_again (numbers_by maxima (map decimal numbers ++ rest)) (λ ns left. Some (n ∷ ns, left)) numbers rest (numbers_again maxima numbers rest few.1 h.1)

pub limits_few : AreFew word_limits
limits_few = (lit< tt, (lit< tt, (lit< tt, (lit< tt, (lit< tt, (lit< tt, (lit< tt, (lit< tt, (lit< tt, (lit< tt, tt))))))))))

-- The words of maps.

-- The numbers from index `i` on, as many as limits.
abbrev numbers_from : ℕ → List ℕ → List ℕ → List ℕ
numbers_from i [] numbers = []
numbers_from i (max ∷ maxima) numbers = slice_index numbers i ∷ numbers_from (suc i) maxima numbers

drop_some : (i : ℕ) (numbers : List ℕ) (n : ℕ) (others : List ℕ) → drop i numbers ≡ n ∷ others → (slice_index numbers i ≡ n) × (drop (suc i) numbers ≡ others)
drop_some zero [] n others e = cc
drop_some zero (m ∷ numbers) n others e = (cc, cc)
drop_some (suc i) [] n others e = cc
drop_some (suc i) (m ∷ numbers) n others e = drop_some i numbers n others e

numbers_are : (i : ℕ) (maxima numbers others : List ℕ) → drop i numbers ≡ others → AreWithin maxima others → numbers_from i maxima numbers ≡ others
numbers_are i [] numbers [] e w = refl
numbers_are i [] numbers (n ∷ others) e w = absurd w
numbers_are i (max ∷ maxima) numbers [] e w = absurd w
numbers_are i (max ∷ maxima) numbers (n ∷ others) e w =
    let d = drop_some i numbers n others e in
    ap (λ m. m ∷ numbers_from (suc i) maxima numbers) d.0 ∙ ap (λ ms. n ∷ ms) (numbers_are (suc i) maxima numbers others d.1 w.1)

pinning_is : (n : ℕ) → n ≤ 1 → pinning_number (pinning_of n) ≡ n
pinning_is n h = by_test (n == 1) refl
  where
    by_test : (b : Bool) → (n == 1) ≡ b → pinning_number (pinning_of n) ≡ n
    by_test true e = rw e (let k : n ≡ 1 = grind (arith, nat_tests) in sym k)
    by_test false e = rw e (let k : n ≡ 0 = grind (arith, nat_tests) in sym k)

-- The numbers at each index.
abbrev placed : List ℕ → ℕ → List ℕ
placed n pinned =
    slice_index n 0 ∷ slice_index n 1 ∷ slice_index n 2 ∷ slice_index n 3 ∷ slice_index n 4 ∷ slice_index n 5 ∷ pinned ∷ slice_index n 7 ∷ slice_index n 8 ∷ slice_index n 9 ∷ []

pub words_take : (numbers : List ℕ) → AreWithin word_limits numbers → numbers ≡ numbers_of (words_of numbers)
words_take numbers h = from (slice_index numbers 6) (pinned (slice_index numbers 6) (subst (AreWithin word_limits) whole h)) whole
  where
    whole : numbers ≡ placed numbers (slice_index numbers 6)
    whole = sym (numbers_are 0 word_limits numbers numbers refl h)

    pinned : (n : ℕ) → AreWithin word_limits (placed numbers n) → n ≤ 1
    pinned n w = w.1.1.1.1.1.1.0

    from : (n : ℕ) → n ≤ 1 → numbers ≡ placed numbers n → numbers ≡ placed numbers (pinning_number (pinning_of n))
    from n few e = e ∙ ap (placed numbers) (sym (pinning_is n few))

pinning_again : (p : PinningType) → pinning_of (pinning_number p) ≡ p
pinning_again pinning.None = refl
pinning_again pinning.ByName = refl

pub words_again : (words : MapWords) → words_of (numbers_of words) ≡ words
words_again words = ap (λ p. record words { pinning = p }) (pinning_again words.pinning)

pub map_words_take : (ws : List (List ℕ)) (words : MapWords) (rest : List (List ℕ)) → map_words_by ws ≡ Some (words, rest) → (ws ≡ map decimal (numbers_of words) ++ rest) × AreWithin word_limits (numbers_of words)
map_words_take ws words rest h =
    let t = then_takes (numbers_by word_limits ws) (λ numbers left. Some (words_of numbers, left)) (words, rest) h in
    let n = numbers_take word_limits ws t.0 t.1 limits_few t.2 in
    let e : (words_of t.0, t.1) ≡ (words, rest) = some_is (words_of t.0, t.1) (words, rest) t.3 in
    let P : MapWords × List (List ℕ) → Type 0 = λ p. (ws ≡ map decimal (numbers_of p.0) ++ p.1) × AreWithin word_limits (numbers_of p.0) in
    let k = words_take t.0 n.1 in
    subst P e (n.0 ∙ ap (λ x. map decimal x ++ t.1) k, subst (AreWithin word_limits) k n.1)

pub map_words_again : (words : MapWords) (rest : List (List ℕ)) → AreWithin word_limits (numbers_of words) → map_words_by (map decimal (numbers_of words) ++ rest) ≡ Some (words, rest)
map_words_again words rest h =
    then_again (numbers_by word_limits (map decimal (numbers_of words) ++ rest)) (λ numbers left. Some (words_of numbers, left)) (numbers_of words) rest (numbers_again word_limits (numbers_of words) rest limits_few h)
    ∙ ap (λ w. Some (w, rest)) (words_again words)

-- Indexes of kernel tables.

-- Each index is above the one before it. The first is above `last`, if there is one.
abbrev pub Rise : Option ℕ → List ℕ → Type 0
Rise last [] = Unit {0}
Rise last (place ∷ places) = (place < 2 ^ 32) × (is_above last place ≡ true) × Rise (Some place) places

onto_some : (a : Option ℕ) (b : Option (List ℕ)) (v : List ℕ) → onto a b ≡ Some v → (x : ℕ) × (xs : List ℕ) × (a ≡ Some x) × (b ≡ Some xs) × (v ≡ x ∷ xs)
onto_some (Some x) (Some xs) v h = (x, xs, refl, refl, cc)
onto_some None b v h = cc
onto_some (Some x) None v h = cc

pub places_take : (last : Option ℕ) (ws : List (List ℕ)) (places : List ℕ) → places_by last ws ≡ Some places → (ws ≡ map decimal places) × Rise last places
places_take last [] places h = let e : [] ≡ places = cc in (ap (map decimal) e, subst (Rise last) e tt)
places_take last (w ∷ ws) places h =
    let p = bind_some (λ place. onto (Some place) (places_by (Some place) ws)) (place_by last w) places h in
    let q = bind_some (λ place. cond (is_above last place) (Some place) None) (number_upto max_32 w) p.0 p.1 in
    let g = guard_some (is_above last q.0) (Some q.0) p.0 q.2 in
    let same : q.0 ≡ p.0 = some_is q.0 p.0 g.1 in
    let n = number_upto_is max_32 (lit< tt) w q.0 q.1 in
    let o = onto_some (Some p.0) (places_by (Some p.0) ws) places p.2 in
    let r = places_take (Some p.0) ws o.1 o.3 in
    let first : p.0 ≡ o.0 = some_is p.0 o.0 o.2 in
    let e : p.0 ∷ o.1 ≡ places = ap (λ x. x ∷ o.1) first ∙ sym o.4 in
    let P : List ℕ → Type 0 = λ ps. (w ∷ ws ≡ map decimal ps) × Rise last ps in
    subst P e (ap (λ x. x ∷ ws) (n.0 ∙ ap decimal same) ∙ ap (λ x. decimal p.0 ∷ x) r.0, (subst (λ x. x < 2 ^ 32) same (omega arith), subst (λ x. is_above last x ≡ true) same g.0, r.1))

pub places_again : (last : Option ℕ) (places : List ℕ) → Rise last places → places_by last (map decimal places) ≡ Some places
places_again last [] h = refl
places_again last (place ∷ places) h =
    let one : place_by last (decimal place) ≡ Some place =
    ap (option_and_then (λ n. cond (is_above last n) (Some n) None)) (number_upto_decimal max_32 (lit< tt) place (omega arith)) ∙ rw h.1 refl in
    ap (option_and_then (λ n. onto (Some n) (places_by (Some n) (map decimal places)))) one
    ∙ ap (onto (Some place)) (places_again (Some place) places h.2)

lt_is : (m n : ℕ) → nat_lt m n ≡ true → m < n
lt_is m n h = grind (arith, nat_tests)

lt_true : (m n : ℕ) → m < n → nat_lt m n ≡ true
lt_true m n h = grind (arith, nat_tests)

less_is : (m n : ℕ) → nat_cmp m n ≡ Less → nat_lt m n ≡ true
less_is m n h = by_tests (nat_lt m n) (m == n) h
  where
    by_tests : (s t : Bool) → cond s Less (cond t Equal Greater) ≡ Less → s ≡ true
    by_tests true t h = refl
    by_tests false true h = cc
    by_tests false false h = cc

is_less : (m n : ℕ) → nat_lt m n ≡ true → nat_cmp m n ≡ Less
is_less m n h = rw h refl

all_above : (last n : ℕ) (places : List ℕ) → last ≤ n → Rise (Some n) places → AllByRecursion (λ y. nat_cmp last y ≡ Less) places
all_above last n [] h r = tt
all_above last n (place ∷ places) h r =
    let above : n < place = lt_is n place r.1 in
    (is_less last place (lt_true last place (omega arith)), all_above last place places (omega arith) r.2)

sorted : (last : Option ℕ) (places : List ℕ) → Rise last places → IsStrictlySortedBy nat_cmp places
unfolding IsStrictlySortedBy
sorted last [] r = tt
sorted last (place ∷ places) r = (all_above place place places (omega arith) r.2, sorted (Some place) places r.2)

all_few : (last : Option ℕ) (places : List ℕ) → Rise last places → All (λ place. place < 2 ^ 32) places
all_few last [] r = All-nil (λ place. place < 2 ^ 32)
all_few last (place ∷ places) r = All-cons (λ p. p < 2 ^ 32) place places r.0 (all_few (Some place) places r.2)

pub rise_tables : (last : Option ℕ) (places : List ℕ) → Rise last places → AreTables places
rise_tables last places r = (sorted last places r, all_few last places r)

-- The first index is above the last one before.
abbrev FirstIs : Option ℕ → List ℕ → Type 0
FirstIs last [] = Unit {0}
FirstIs last (place ∷ places) = is_above last place ≡ true

tables_rise_from : (last : Option ℕ) (places : List ℕ) → IsStrictlySortedBy nat_cmp places → All (λ place. place < 2 ^ 32) places → FirstIs last places → Rise last places
unfolding IsStrictlySortedBy
tables_rise_from last [] s f a = tt
tables_rise_from last (place ∷ places) s f a =
    (All-head (λ p. p < 2 ^ 32) place places f, a, tables_rise_from (Some place) places s.1 (All-tail (λ p. p < 2 ^ 32) place places f) (next place places s.0))
  where
    next : (place : ℕ) (places : List ℕ) → AllByRecursion (λ y. nat_cmp place y ≡ Less) places → FirstIs (Some place) places
    next place [] all = tt
    next place (p ∷ ps) all = less_is place p all.0

pub tables_rise : (places : List ℕ) → AreTables places → Rise None places
tables_rise places t = tables_rise_from None places t.0 t.1 (first places)
  where
    first : (places : List ℕ) → FirstIs None places
    first [] = tt
    first (p ∷ ps) = refl
