-- The result of a stack, by the result of its innermost struct or union.
use Rattle.std.proofs.Common.{◌≡◌, ℕ, suc, ◌+◌, ◌-◌, false, List, [], ◌∷◌, ◌++◌, length, None, Some, Ok, Err, Option, Result, refl, sym, ap, ◌∙◌, arith, append_assoc}
use Rattle.std.proofs.lemmas.Grind.{common_steps}
use Rattle.core_spec.specs.declared.error.AccessError.{AccessError}
use Rattle.core_match.specs.Looks.{Search}
use Rattle.core_match.specs.Searches.{found_in, is_among, member_found, most_open, or_next}
use Rattle.core_match.specs.Stacks.{entered, ids, is_open, opened, rest_of, stack_value, value_above}
use Rattle.core_match.specs.declared.search.FoundMember.{FoundMember}
use Rattle.core_match.specs.declared.turn.Frame.{Frame}

pub next-next : (a b c : Result (Option FoundMember) AccessError) → or_next (or_next a b) c ≡ or_next a (or_next b c)
next-next (Ok None) b c = refl
next-next (Ok (Some found)) b c = refl
next-next (Err e) b c = refl

value-top : (search : Search) (open_ids : List ℕ) (below : List Frame) (f : Frame) (last : Result (Option FoundMember) AccessError)
    → value_above search open_ids (below ++ f ∷ []) last ≡ or_next (rest_of search (open_ids ++ opened below f) f) (value_above search open_ids below last)
unfolding value_above
value-top search open_ids [] f last = refl
value-top search open_ids (g ∷ below) f last =
    value-top search (open_ids ++ g.type_id ∷ []) below f (or_next (rest_of search (open_ids ++ g.type_id ∷ []) g) last)
    ∙ ap (λ (o : List ℕ). or_next (rest_of search o f) (value_above search (open_ids ++ g.type_id ∷ []) below (or_next (rest_of search (open_ids ++ g.type_id ∷ []) g) last))) (append_assoc open_ids (g.type_id ∷ []) (opened below f))

-- The innermost struct or union decides first, then the outer ones.
pub top-first : (search : Search) (below : List Frame) (f : Frame) → stack_value search (below ++ f ∷ []) ≡ or_next (rest_of search (opened below f) f) (stack_value search below)
top-first search below f = value-top search [] below f (Ok None)

pub ids-pushed : (below : List Frame) (f : Frame) → ids (below ++ f ∷ []) ≡ opened below f
ids-pushed [] f = refl
ids-pushed (g ∷ below) f = ap (λ (is : List ℕ). g.type_id ∷ is) (ids-pushed below f)

pub length-pushed : (below : List Frame) (f : Frame) → length (below ++ f ∷ []) ≡ length below + 1
length-pushed below f = grind (arith, common_steps)

pub among-ids : (stack : List Frame) (id : ℕ) → is_among (ids stack) id ≡ is_open stack id
among-ids [] id = refl
among-ids (f ∷ fs) id = rw (among-ids fs id) refl

length-ids : (stack : List Frame) → length (ids stack) ≡ length stack
length-ids [] = refl
length-ids (f ∷ fs) = ap suc (length-ids fs)

pub length-opened : (below : List Frame) (f : Frame) → length (opened below f) ≡ length below + 1
length-opened below f = ap length (sym (ids-pushed below f)) ∙ (length-ids (below ++ f ∷ []) ∙ length-pushed below f)

-- ---- The first stack

or-none : (r : Result (Option FoundMember) AccessError) → or_next r (Ok None) ≡ r
or-none (Ok None) = refl
or-none (Ok (Some found)) = refl
or-none (Err e) = refl

pub begun : (search : Search) (root : ℕ) (bits : Option ℕ) → stack_value search (entered root bits ∷ []) ≡ member_found search root bits
unfolding value_above rest_of found_in
begun search root bits =
    let one : suc (length search.target.types) - 1 ≡ length search.target.types = omega arith in
    or-none (rest_of search (root ∷ []) (entered root bits)) ∙ rw one refl

-- ---- A struct or union that is entered

pub found-fresh : (search : Search) (open_ids : List ℕ) (id n : ℕ) (bits : Option ℕ) → is_among open_ids id ≡ false → n ≡ suc (most_open search.target - length (open_ids ++ id ∷ [])) → found_in n search open_ids id bits ≡ rest_of search (open_ids ++ id ∷ []) (entered id bits)
unfolding found_in rest_of
found-fresh search open_ids id n bits fresh e = rw (e, fresh) refl
