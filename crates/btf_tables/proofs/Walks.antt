-- A size is that at the end of a walk, and the end of a chain isn't a modifier.
use Rattle.std.proofs.Common.{◌≡◌, ℕ, zero, suc, ◌*◌, ◌<◌, ◌^◌, Bool, true, false, List, [], ◌∷◌, length, Option, None, Some, Result, Ok, Err, refl, sym, ap, subst, ◌∙◌, arith, nat_lt, one-mul}
use Rattle.std.proofs.Math.Nat.{mul_assoc}
use Rattle.std.proofs.lemmas.Bool.Decides.{nat_tests}
use Rattle.std.specs.Option.{IsSomeAnd, option_map_or}
use Rattle.std.specs.Prelude.{IfErr, IfOk, if◌then◌else◌}
use Rattle.btf_tables.specs.ResolvedTypes.{IsEnd, IsEndOver, chain_end, end_from, max_depth, modified_type, resolved_type}
use Rattle.btf_tables.specs.TypeSizes.{IsInLimit, IsSize, IsSizeOver, own_size, size_at_end, size_after, size_from, sized_by, type_size}
use Rattle.btf_tables.specs.Tables.{Table, type_by_id}
use Rattle.btf_records.specs.declared.error.BtfError.{BtfError}
use Rattle.btf_records.specs.declared.error.BtfError.TheVariants.{InvalidTypeInfo}
use Rattle.btf_records.specs.declared.types.BtfType.{BtfType}

-- The rest of a walk, over fewer than n more ids.
record Goes (n : ℕ) (table : Table) (count id size : ℕ) : Type 0 where
  others : List ℕ
  fewer : length others < n
  rest : ℕ
  limit : IsInLimit table count id others
  over : IsSizeOver table id others rest
  times : size ≡ count * rest

ends : (n : ℕ) (table : Table) (count id size own : ℕ) (t : BtfType) → type_by_id table id ≡ Some t → own_size t ≡ Some own → size ≡ count * own → Goes (suc n) table count id size
ends n table count id size own t some is e = record { others = []; fewer = omega arith; rest = own; limit = tt; over = rw some is; times = e }

goes_on : (n : ℕ) (table : Table) (count id size : ℕ) (t : BtfType) (by : ℕ × ℕ) → type_by_id table id ≡ Some t → own_size t ≡ None → sized_by t ≡ Some by → count * by.0 < 2 ^ 32 → Goes n table (count * by.0) by.1 size → Goes (suc n) table count id size
goes_on n table count id size t by some none is below g = record {
  others = by.1 ∷ g.others;
  fewer = omega (arith, g.fewer);
  rest = by.0 * g.rest;
  limit = rw (some, is) (below, g.limit);
  over = rw some (none, (by.0, is, (g.rest, g.over, refl)));
  times = g.times ∙ mul_assoc count by.0 g.rest;
}

abbrev Walked : (n : ℕ) → Table → ℕ → Type 0
Walked n table asked = (count id size : ℕ) → size_at_end n table asked count id ≡ Ok size → Goes n table count id size

passed : (b : Bool) (r : Result ℕ BtfError) (e : BtfError) (size : ℕ) → (if b then r else Err e) ≡ Ok size → r ≡ Ok size
passed true r e size is = is
passed false r e size is = absurd cc

passed_test : (b : Bool) (r : Result ℕ BtfError) (e : BtfError) (size : ℕ) → (if b then r else Err e) ≡ Ok size → b ≡ true
passed_test true r e size is = refl
passed_test false r e size is = absurd cc

less : (a b : ℕ) → nat_lt a b ≡ true → a < b
less a b e = grind (arith, nat_tests)

walk_by : (n : ℕ) (table : Table) (asked count id size : ℕ) (t : BtfType) (by : Option (ℕ × ℕ)) → Walked n table asked → type_by_id table id ≡ Some t → own_size t ≡ None → sized_by t ≡ by → size_after (size_at_end n table asked) count id by ≡ Ok size → Goes (suc n) table count id size
walk_by n table asked count id size t None more some none is e = absurd cc
walk_by n table asked count id size t (Some by) more some none is e =
    goes_on n table count id size t by some none is (less (count * by.0) (2 ^ 32) (passed_test (nat_lt (count * by.0) (2 ^ 32)) _ InvalidTypeInfo size e)) (more (count * by.0) by.1 size (passed (nat_lt (count * by.0) (2 ^ 32)) _ InvalidTypeInfo size e))

abbrev Gives : Result ℕ BtfError → ℕ → Type 0
Gives r a = r ≡ Ok a

same_ok : (a b : ℕ) → Gives (Ok a) b → b ≡ a
same_ok a b e = cc

walk_own : (n : ℕ) (table : Table) (asked count id size : ℕ) (t : BtfType) (own : Option ℕ) → Walked n table asked → type_by_id table id ≡ Some t → own_size t ≡ own → option_map_or (λ s. Ok (count * s)) own (size_after (size_at_end n table asked) count id (sized_by t)) ≡ Ok size → Goes (suc n) table count id size
walk_own n table asked count id size t None more some is e = walk_by n table asked count id size t (sized_by t) more some is refl e
walk_own n table asked count id size t (Some own) more some is e = ends n table count id size own t some is (same_ok _ _ e)

walk_from : (n : ℕ) (table : Table) (asked count id size : ℕ) (t : Option BtfType) → Walked n table asked → type_by_id table id ≡ t → size_from (size_at_end n table asked) count id t ≡ Ok size → Goes (suc n) table count id size
walk_from n table asked count id size None more is e = absurd cc
walk_from n table asked count id size (Some t) more is e = walk_own n table asked count id size t (own_size t) more is refl e

size_walk : (n : ℕ) (table : Table) (asked count id size : ℕ) → size_at_end n table asked count id ≡ Ok size → Goes n table count id size
unfolding size_at_end
size_walk zero table asked count id size e = absurd cc
size_walk (suc n) table asked count id size e = walk_from n table asked count id size (type_by_id table id) (size_walk n table asked) refl e

pub sized_walk : (table : Table) (id : ℕ) (r : Result ℕ BtfError) → r ≡ type_size table id → IfOk r (λ size. IsSize table id size)
sized_walk table id (Err e) is = tt
sized_walk table id (Ok size) is =
    let g = size_walk max_depth table id 1 id size (sym is) in
    (g.others, g.fewer, g.limit, subst (λ (s : ℕ). IsSizeOver table id g.others s) (sym (g.times ∙ one-mul g.rest)) g.over)

-- If a walk reaches a size, the size is the result.
test_passes : (a b : ℕ) → a < b → nat_lt a b ≡ true
test_passes a b lt = grind (arith, nat_tests)

after_found : (go : ℕ → ℕ → Result ℕ BtfError) (count id c next : ℕ) (r : Result ℕ BtfError) → count * c < 2 ^ 32 → go (count * c) next ≡ r → size_after go count id (Some (c, next)) ≡ r
after_found go count id c next r lt e = rw (test_passes (count * c) (2 ^ 32) lt) e

own_found : (go : ℕ → ℕ → Result ℕ BtfError) (count id size : ℕ) (t : Option BtfType) → IsSomeAnd t (λ t. own_size t ≡ Some size) → size_from go count id t ≡ Ok (count * size)
own_found go count id size None is = absurd is
own_found go count id size (Some t) is = rw is refl

times_same : (count c rest size : ℕ) → size ≡ c * rest → Gives (Ok (count * c * rest)) (count * size)
times_same count c rest size e = ap (λ (n : ℕ). Ok n) (mul_assoc count c rest ∙ ap (λ (n : ℕ). count * n) (sym e))

further_by : (go : ℕ → ℕ → Result ℕ BtfError) (table : Table) (count id next c rest size : ℕ) (others : List ℕ) (t : BtfType) → own_size t ≡ None → sized_by t ≡ Some (c, next) → IsSizeOver table next others rest → size ≡ c * rest → IsSomeAnd (sized_by t) (λ by. (count * by.0 < 2 ^ 32) × IsInLimit table (count * by.0) next others)
    → ((m k : ℕ) → IsSizeOver table next others k → IsInLimit table m next others → go m next ≡ Ok (m * k)) → size_from go count id (Some t) ≡ Ok (count * size)
further_by go table count id next c rest size others t none is over same limit more =
    let below = rw is at limit in
    rw (none, is) (after_found go count id c next (Ok (count * size)) below.0 (more (count * c) rest over below.1 ∙ times_same count c rest size same))

further_found : (go : ℕ → ℕ → Result ℕ BtfError) (table : Table) (count id next size : ℕ) (others : List ℕ) (t : Option BtfType) → IsSomeAnd t (λ t. (own_size t ≡ None) × ((c : ℕ) × (sized_by t ≡ Some (c, next)) × ((rest : ℕ) × IsSizeOver table next others rest × (size ≡ c * rest)))) → IsSomeAnd t (λ t. IsSomeAnd (sized_by t) (λ by. (count * by.0 < 2 ^ 32) × IsInLimit table (count * by.0) next others))
    → ((m k : ℕ) → IsSizeOver table next others k → IsInLimit table m next others → go m next ≡ Ok (m * k)) → size_from go count id t ≡ Ok (count * size)
further_found go table count id next size others None over limit more = absurd over
further_found go table count id next size others (Some t) over limit more =
    let by = over.1 in
    let more_over = by.2 in
    further_by go table count id next by.0 more_over.0 size others t over.0 by.1 more_over.1 more_over.2 limit more

size_found : (n : ℕ) (table : Table) (asked count id : ℕ) (others : List ℕ) (size : ℕ) → length others < n → IsSizeOver table id others size → IsInLimit table count id others → size_at_end n table asked count id ≡ Ok (count * size)
unfolding size_at_end
size_found zero table asked count id others size lt over limit = absurd (omega (arith, lt))
size_found (suc n) table asked count id [] size lt over limit = own_found (size_at_end n table asked) count id size (type_by_id table id) over
size_found (suc n) table asked count id (next ∷ others) size lt over limit =
    further_found (size_at_end n table asked) table count id next size others (type_by_id table id) over limit (λ m k there within. size_found n table asked m next others k (omega (arith, lt)) there within)

pub no_size : (table : Table) (id : ℕ) (r : Result ℕ BtfError) → r ≡ type_size table id → IfErr r (λ _. (size : ℕ) → IsSize table id size → ⊥)
no_size table id (Ok size) is = tt
no_size table id (Err e) is = λ size walk.
    let found = size_found max_depth table id 1 id walk.0 size walk.1 walk.3 walk.2 in
    let contra : Err e ≡ Ok (1 * size) = is ∙ found in
    cc

-- A chain that begins at the end of a chain ends at once.
end_again : (go : ℕ → Result ℕ BtfError) (n : ℕ) (table : Table) (asked id end : ℕ) (next : Option ℕ) (t : BtfType) → ((next : ℕ) → go next ≡ Ok end → resolved_type table end ≡ Ok end) → type_by_id table id ≡ Some t → modified_type t ≡ next → option_map_or go next (Ok id) ≡ Ok end → resolved_type table end ≡ Ok end
unfolding chain_end
end_again go n table asked id end None t more some none e =
    let same = same_ok _ _ e in
    rw (same, some, none) refl
end_again go n table asked id end (Some next) t more some is e = more next e

end_from_again : (go : ℕ → Result ℕ BtfError) (n : ℕ) (table : Table) (asked id end : ℕ) (t : Option BtfType) → ((next : ℕ) → go next ≡ Ok end → resolved_type table end ≡ Ok end) → type_by_id table id ≡ t → end_from go id t ≡ Ok end → resolved_type table end ≡ Ok end
end_from_again go n table asked id end None more is e = absurd cc
end_from_again go n table asked id end (Some t) more is e = end_again go n table asked id end (modified_type t) t more is refl e

chain_again : (n : ℕ) (table : Table) (asked id end : ℕ) → chain_end n table asked id ≡ Ok end → resolved_type table end ≡ Ok end
unfolding chain_end
chain_again zero table asked id end e = absurd cc
chain_again (suc n) table asked id end e = end_from_again (chain_end n table asked) n table asked id end (type_by_id table id) (λ next. chain_again n table asked next end) refl e

pub resolved_again : (table : Table) (id : ℕ) (r : Result ℕ BtfError) → r ≡ resolved_type table id → IfOk r (λ end. resolved_type table end ≡ Ok end)
resolved_again table id (Err e) is = tt
resolved_again table id (Ok end) is = chain_again max_depth table id id end (sym is)

-- The rest of a chain, over fewer than n more ids.
record Ends (n : ℕ) (table : Table) (id end : ℕ) : Type 0 where
  others : List ℕ
  fewer : length others < n
  over : IsEndOver table id others end

ends_here : (n : ℕ) (table : Table) (id end : ℕ) (t : BtfType) → type_by_id table id ≡ Some t → modified_type t ≡ None → end ≡ id → Ends (suc n) table id end
ends_here n table id end t some none same = record { others = []; fewer = omega arith; over = (sym same, rw some none) }

ends_further : (n : ℕ) (table : Table) (id next end : ℕ) (t : BtfType) → type_by_id table id ≡ Some t → modified_type t ≡ Some next → Ends n table next end → Ends (suc n) table id end
ends_further n table id next end t some more e = record { others = next ∷ e.others; fewer = omega (arith, e.fewer); over = (rw some more, e.over) }

abbrev Ended : ℕ → Table → ℕ → Type 0
Ended n table asked = (id end : ℕ) → Gives (chain_end n table asked id) end → Ends n table id end

ends_by : (n : ℕ) (table : Table) (asked id end : ℕ) (t : BtfType) (next : Option ℕ) → Ended n table asked → type_by_id table id ≡ Some t → modified_type t ≡ next → Gives (option_map_or (chain_end n table asked) next (Ok id)) end → Ends (suc n) table id end
ends_by n table asked id end t None more some is e = ends_here n table id end t some is (same_ok _ _ e)
ends_by n table asked id end t (Some next) more some is e = ends_further n table id next end t some is (more next end e)

ends_from : (n : ℕ) (table : Table) (asked id end : ℕ) (t : Option BtfType) → Ended n table asked → type_by_id table id ≡ t → Gives (end_from (chain_end n table asked) id t) end → Ends (suc n) table id end
ends_from n table asked id end None more is e = absurd cc
ends_from n table asked id end (Some t) more is e = ends_by n table asked id end t (modified_type t) more is refl e

chain_ends : (n : ℕ) (table : Table) (asked id end : ℕ) → Gives (chain_end n table asked id) end → Ends n table id end
unfolding chain_end
chain_ends zero table asked id end e = absurd cc
chain_ends (suc n) table asked id end e = ends_from n table asked id end (type_by_id table id) (chain_ends n table asked) refl e

pub resolved_chain : (table : Table) (id : ℕ) (r : Result ℕ BtfError) → r ≡ resolved_type table id → IfOk r (λ end. IsEnd table id end)
resolved_chain table id (Err e) is = tt
resolved_chain table id (Ok end) is = let c = chain_ends max_depth table id id end (sym is) in (c.others, c.fewer, c.over)

-- If a chain has an end, the end is the result.
here_found : (go : ℕ → Result ℕ BtfError) (id end : ℕ) (t : Option BtfType) → id ≡ end → IsSomeAnd t (λ t. modified_type t ≡ None) → end_from go id t ≡ Ok end
here_found go id end None same is = absurd is
here_found go id end (Some t) same is = rw is (ap (λ (i : ℕ). Ok i) same)

next_found : (go : ℕ → Result ℕ BtfError) (id next end : ℕ) (t : Option BtfType) → IsSomeAnd t (λ t. modified_type t ≡ Some next) → go next ≡ Ok end → end_from go id t ≡ Ok end
next_found go id next end None is e = absurd is
next_found go id next end (Some t) is e = rw is e

end_found : (n : ℕ) (table : Table) (asked id : ℕ) (others : List ℕ) (end : ℕ) → length others < n → IsEndOver table id others end → Gives (chain_end n table asked id) end
unfolding chain_end
end_found zero table asked id others end lt over = absurd (omega (arith, lt))
end_found (suc n) table asked id [] end lt over = here_found (chain_end n table asked) id end (type_by_id table id) over.0 over.1
end_found (suc n) table asked id (next ∷ others) end lt over = next_found (chain_end n table asked) id next end (type_by_id table id) over.0 (end_found n table asked next others end (omega (arith, lt)) over.1)

pub no_end : (table : Table) (id : ℕ) (r : Result ℕ BtfError) → r ≡ resolved_type table id → IfErr r (λ _. (end : ℕ) → IsEnd table id end → ⊥)
no_end table id (Ok end) is = tt
no_end table id (Err e) is = λ end chain.
    let found = end_found max_depth table id id chain.0 end chain.1 chain.2 in
    let contra : Err e ≡ Ok end = is ∙ found in
    cc
