-- The search for candidates, type by type.
use Rattle.std.proofs.Common.{◌≡◌, ◌≢◌, ℕ, suc, ◌+◌, ◌-◌, ◌<◌, ◌≤◌, Bool, true, false, List, [], ◌∷◌, ◌++◌, find, filter, Ok, Err, Option, None, Some, Result, refl, sym, ap, ◌∙◌, arith, append_assoc, subst, add-one, drop, drop-cons, get_or, length}
use Rattle.std.proofs.lemmas.Grind.{common_steps}
use Rattle.std.proofs.lemmas.List.Elements.{filter-append}
use Rattle.std.proofs.lemmas.List.Folds.{find-append}
use Rattle.std.specs.List.{flat_map, range_with_len}
use Rattle.std.specs.Option.{IsSomeAnd, option_map_or}
use Rattle.std.specs.Result.{IfErr, IsErrAnd}
use Rattle.core_match.specs.CandidateSearches.{type_at, types_of_ids}
use Rattle.core_match.specs.declared.error.CandidateError.{CandidateError}
use Rattle.core_match.specs.declared.error.CandidateError.TheVariants.{OutOfMemory}
use Rattle.core_match.specs.declared.kernel_type.KernelType.{KernelType}

-- The types of a table with the ids from an index on.
abbrev pub types_left : ℕ → List ℕ → ℕ → List KernelType
types_left table ids i = types_of_ids table (drop i ids)

abbrev pub id_at : List ℕ → ℕ → ℕ
id_at ids i = get_or ids i 0

this_type : (table : ℕ) (ids : List ℕ) (i : ℕ) → i < length ids → types_left table ids i ≡ type_at table (id_at ids i) ∷ types_left table ids (i + 1)
this_type table ids i lt = let cut : drop i ids ≡ id_at ids i ∷ drop (i + 1) ids = rw add-one (drop-cons ids i 0 lt) in ap (types_of_ids table) cut

nothing_left : (ids : List ℕ) (i : ℕ) → length ids ≤ i → drop i ids ≡ []
nothing_left ids i le = grind (arith, common_steps)

pub no_type_left : (table : ℕ) (ids : List ℕ) (i : ℕ) → length ids ≤ i → types_left table ids i ≡ []
no_type_left table ids i le = ap (types_of_ids table) (nothing_left ids i le)

-- The candidates among the remaining types, after one more type was compared.
pub filter_on : (p : KernelType → Bool) (table : ℕ) (ids : List ℕ) (i : ℕ) (old new all : List KernelType) → i < length ids → old ++ filter p (types_left table ids i) ≡ all → new ≡ old ++ filter p (type_at table (id_at ids i) ∷ []) → new ++ filter p (types_left table ids (i + 1)) ≡ all
filter_on p table ids i old new all lt left is =
    let here = type_at table (id_at ids i) in
    let parts = filter-append p (here ∷ []) (types_left table ids (i + 1)) in
    rw is (append_assoc old (filter p (here ∷ [])) (filter p (types_left table ids (i + 1))) ∙ (ap (λ (xs : List KernelType). old ++ xs) (sym parts) ∙ rw (this_type table ids i lt) at left))

one_fewer : (n i : ℕ) → i < n → n - i ≡ suc (n - (i + 1))
one_fewer n i lt = omega arith

found_past : (u : KernelType → Bool) (x : KernelType) (xs : List KernelType) (all : Option KernelType) → find u (x ∷ xs) ≡ all → u x ≡ false → find u xs ≡ all
found_past u x xs all left is = let on : find u xs ≡ find u (x ∷ xs) = rw is refl in on ∙ left

found_here : (u : KernelType → Bool) (x : KernelType) (xs : List KernelType) (all : Option KernelType) → find u (x ∷ xs) ≡ all → u x ≡ true → all ≡ Some x
found_here u x xs all left is = let here : find u (x ∷ xs) ≡ Some x = rw is refl in sym left ∙ here

pub find_on : (u : KernelType → Bool) (table : ℕ) (ids : List ℕ) (i : ℕ) (all : Option KernelType) → i < length ids → find u (types_left table ids i) ≡ all → u (type_at table (id_at ids i)) ≡ false → find u (types_left table ids (i + 1)) ≡ all
find_on u table ids i all lt left is = found_past u (type_at table (id_at ids i)) (types_left table ids (i + 1)) all (rw (this_type table ids i lt) at left) is

pub find_here : (u : KernelType → Bool) (table : ℕ) (ids : List ℕ) (i : ℕ) (all : Option KernelType) → i < length ids → find u (types_left table ids i) ≡ all → u (type_at table (id_at ids i)) ≡ true → all ≡ Some (type_at table (id_at ids i))
find_here u table ids i all lt left is = found_here u (type_at table (id_at ids i)) (types_left table ids (i + 1)) all (rw (this_type table ids i lt) at left) is

-- The types of the remaining tables.
abbrev pub tables_left : (ℕ → List KernelType) → ℕ → ℕ → List KernelType
tables_left types n table = flat_map types (range_with_len table (n - table))

this_table : (types : ℕ → List KernelType) (n table : ℕ) → table < n → tables_left types n table ≡ types table ++ tables_left types n (table + 1)
this_table types n table lt = rw (one_fewer n table lt) refl

pub no_table_left : (types : ℕ → List KernelType) (n table : ℕ) → n ≤ table → tables_left types n table ≡ []
no_table_left types n table le = let none : n - table ≡ 0 = omega arith in rw none refl

pub filter_table : (p : KernelType → Bool) (types : ℕ → List KernelType) (n table : ℕ) (old new all : List KernelType) → table < n → old ++ filter p (tables_left types n table) ≡ all → new ≡ old ++ filter p (types table) → new ++ filter p (tables_left types n (table + 1)) ≡ all
filter_table p types n table old new all lt left is =
    let parts = filter-append p (types table) (tables_left types n (table + 1)) in
    rw is (append_assoc old (filter p (types table)) (filter p (tables_left types n (table + 1))) ∙ (ap (λ (xs : List KernelType). old ++ xs) (sym parts) ∙ rw (this_table types n table lt) at left))

none_in_front : (u : KernelType → Bool) (xs ys : List KernelType) (all : Option KernelType) → find u (xs ++ ys) ≡ all → find u xs ≡ None → find u ys ≡ all
none_in_front u xs ys all left none = let parts = find-append u xs ys in let on : find u (xs ++ ys) ≡ find u ys = rw none at parts in sym on ∙ left

some_in_front : (u : KernelType → Bool) (xs ys : List KernelType) (all : Option KernelType) (x : KernelType) → find u (xs ++ ys) ≡ all → find u xs ≡ Some x → all ≡ Some x
some_in_front u xs ys all x left some = let parts = find-append u xs ys in let here : find u (xs ++ ys) ≡ Some x = rw some at parts in sym left ∙ here

pub find_table : (u : KernelType → Bool) (types : ℕ → List KernelType) (n table : ℕ) (all : Option KernelType) → table < n → find u (tables_left types n table) ≡ all → find u (types table) ≡ None → find u (tables_left types n (table + 1)) ≡ all
find_table u types n table all lt left none = none_in_front u (types table) (tables_left types n (table + 1)) all (rw (this_table types n table lt) at left) none

pub found_table : (u : KernelType → Bool) (types : ℕ → List KernelType) (n table : ℕ) (all : Option KernelType) (x : KernelType) → table < n → find u (tables_left types n table) ≡ all → find u (types table) ≡ Some x → all ≡ Some x
found_table u types n table all x lt left some = some_in_front u (types table) (tables_left types n (table + 1)) all x (rw (this_table types n table lt) at left) some

passed_on : {T : Type 0} (result : Result T CandidateError) (e : CandidateError) (P : CandidateError → Type 0) → IsErrAnd result (λ f. f ≡ e) → P e → IfErr result P
passed_on (Ok x) e P h p = tt
passed_on (Err f) e P h p = subst P (sym h) p

-- An error at a type is an error of the table.
pub type_refused : {T : Type 0} (u : KernelType → Bool) (bad : KernelType → CandidateError) (table : ℕ) (ids : List ℕ) (i : ℕ) (all : Option KernelType) (result : Result T CandidateError) (e : CandidateError) → i < length ids → find u (types_left table ids i) ≡ all
    → (e ≢ OutOfMemory → (e ≡ bad (type_at table (id_at ids i))) × (u (type_at table (id_at ids i)) ≡ true)) → IsErrAnd result (λ f. f ≡ e) → IfErr result (λ f. f ≢ OutOfMemory → IsSomeAnd all (λ place. f ≡ bad place))
type_refused u bad table ids i all result e lt left refused is =
    passed_on result e (λ f. f ≢ OutOfMemory → IsSomeAnd all (λ place. f ≡ bad place)) is (λ other. subst (λ (o : Option KernelType). IsSomeAnd o (λ place. e ≡ bad place)) (sym (find_here u table ids i all lt left (refused other).1)) (refused other).0)

answer_of : (bad : KernelType → CandidateError) (ok : Result (List KernelType) CandidateError) (all found : Option KernelType) (e : CandidateError) → ((x : KernelType) → found ≡ Some x → all ≡ Some x) → IsSomeAnd found (λ place. e ≡ bad place) → option_map_or (λ place. Err (bad place)) all ok ≡ Err e
answer_of bad ok all None e same h = absurd h
answer_of bad ok all (Some x) e same h = rw (same x refl) (ap (λ (f : CandidateError). Err f) (sym h))

-- An error in a table is an error of all tables.
pub table_refused : {T : Type 0} (u : KernelType → Bool) (bad : KernelType → CandidateError) (types : ℕ → List KernelType) (n table : ℕ) (all : Option KernelType) (ok : Result (List KernelType) CandidateError) (result : Result T CandidateError) (e : CandidateError) → table < n → find u (tables_left types n table) ≡ all
    → (e ≢ OutOfMemory → IsSomeAnd (find u (types table)) (λ place. e ≡ bad place)) → IsErrAnd result (λ f. f ≡ e) → IfErr result (λ f. f ≢ OutOfMemory → option_map_or (λ place. Err (bad place)) all ok ≡ Err f)
table_refused u bad types n table all ok result e lt left refused is =
    passed_on result e (λ f. f ≢ OutOfMemory → option_map_or (λ place. Err (bad place)) all ok ≡ Err f) is (λ other. answer_of bad ok all (find u (types table)) e (λ x some. found_table u types n table all x lt left some) (refused other))
