-- The result of an open struct or union's remaining members, by the comparison of the next member.
use Rattle.std.proofs.Common.{◌≡◌, ℕ, zero, suc, ◌+◌, ◌-◌, List, [], ◌∷◌, drop, length, None, Some, Ok, Err, Option, Result, refl, sym, add-one}
use Rattle.std.specs.Prelude.{slice_get}
use Rattle.core_spec.specs.declared.error.AccessError.{AccessError}
use Rattle.core_spec.specs.declared.error.AccessError.TheVariants.{BtfError as TypeError}
use Rattle.btf_records.specs.Fields.{members_of}
use Rattle.btf_records.specs.declared.error.BtfError.TheVariants.{UnknownBtfType}
use Rattle.btf_records.specs.declared.item.BtfMember.{BtfMember}
use Rattle.btf_records.specs.declared.types.BtfType.{BtfType}
use Rattle.btf_tables.specs.Tables.{type_by_id}
use Rattle.core_match.specs.Looks.{Search, look_at}
use Rattle.core_match.specs.Searches.{found_in, found_here, members_found, most_open, or_next}
use Rattle.core_match.specs.Stacks.{rest_of}
use Rattle.core_match.specs.declared.look.Look.TheVariants.{Next, Match, Descend, Mismatch}
use Rattle.core_match.specs.declared.search.FoundMember.{FoundMember}
use Rattle.core_match.specs.declared.turn.Frame.{Frame}

drop-past : {A : Type 0} (xs : List A) (n : ℕ) → None ≡ slice_get xs n → drop n xs ≡ []
drop-past [] zero e = refl
drop-past [] (suc n) e = refl
drop-past (x ∷ xs) zero e = absurd cc
drop-past (x ∷ xs) (suc n) e = drop-past xs n e

drop-at : {A : Type 0} (xs : List A) (n : ℕ) (x : A) → Some x ≡ slice_get xs n → drop n xs ≡ x ∷ drop (suc n) xs
drop-at [] n x e = absurd cc
drop-at (y ∷ xs) zero x e = let same : x ≡ y = cc in rw same refl
drop-at (y ∷ xs) (suc n) x e = drop-at xs n x e

-- The innermost struct or union after its next member.
abbrev pub after_next : Frame → Frame
after_next f = record f { next = f.next + 1 }

-- The search of an inner struct or union, one level below the innermost one.
abbrev pub descend : Search → List ℕ → ℕ → Option ℕ → Result (Option FoundMember) AccessError
descend search open_ids = found_in (most_open search.target - length open_ids) search open_ids

-- The next member as the match.
abbrev pub next_here : Search → List ℕ → Frame → BtfType → BtfMember → FoundMember
next_here search open_ids f t m = found_here f.type_id t (length open_ids) f.bits f.next m

pub rest_unknown : (search : Search) (open_ids : List ℕ) (f : Frame) → type_by_id search.target f.type_id ≡ None → rest_of search open_ids f ≡ Err (TypeError (UnknownBtfType f.type_id))
unfolding rest_of
rest_unknown search open_ids f none = rw none refl

pub rest_done : (search : Search) (open_ids : List ℕ) (f : Frame) (t : BtfType) → type_by_id search.target f.type_id ≡ Some t → None ≡ slice_get (members_of t) f.next → rest_of search open_ids f ≡ Ok None
unfolding rest_of members_found
rest_done search open_ids f t known none = rw (known, drop-past (members_of t) f.next none) refl

pub rest_bad : (search : Search) (open_ids : List ℕ) (f : Frame) (t : BtfType) (m : BtfMember) (e : AccessError) → type_by_id search.target f.type_id ≡ Some t → Some m ≡ slice_get (members_of t) f.next → Err e ≡ look_at search m → rest_of search open_ids f ≡ Err e
unfolding rest_of members_found
rest_bad search open_ids f t m e known here seen = rw (known, drop-at (members_of t) f.next m here, sym seen) refl

pub rest_next : (search : Search) (open_ids : List ℕ) (f : Frame) (t : BtfType) (m : BtfMember) → type_by_id search.target f.type_id ≡ Some t → Some m ≡ slice_get (members_of t) f.next → Ok Next ≡ look_at search m → rest_of search open_ids f ≡ rest_of search open_ids (after_next f)
unfolding rest_of members_found
rest_next search open_ids f t m known here seen = rw (known, drop-at (members_of t) f.next m here, sym seen, add-one) refl

pub rest_mismatch : (search : Search) (open_ids : List ℕ) (f : Frame) (t : BtfType) (m : BtfMember) → type_by_id search.target f.type_id ≡ Some t → Some m ≡ slice_get (members_of t) f.next → Ok Mismatch ≡ look_at search m → rest_of search open_ids f ≡ Ok None
unfolding rest_of members_found
rest_mismatch search open_ids f t m known here seen = rw (known, drop-at (members_of t) f.next m here, sym seen) refl

pub rest_match : (search : Search) (open_ids : List ℕ) (f : Frame) (t : BtfType) (m : BtfMember) → type_by_id search.target f.type_id ≡ Some t → Some m ≡ slice_get (members_of t) f.next → Ok Match ≡ look_at search m → rest_of search open_ids f ≡ Ok (Some (next_here search open_ids f t m))
unfolding rest_of members_found
rest_match search open_ids f t m known here seen = rw (known, drop-at (members_of t) f.next m here, sym seen) refl

pub rest_descend : (search : Search) (open_ids : List ℕ) (f : Frame) (t : BtfType) (m : BtfMember) (id : ℕ) → type_by_id search.target f.type_id ≡ Some t → Some m ≡ slice_get (members_of t) f.next → Ok (Descend id) ≡ look_at search m
    → rest_of search open_ids f ≡ or_next (descend search open_ids id (next_here search open_ids f t m).bits) (rest_of search open_ids (after_next f))
unfolding rest_of members_found
rest_descend search open_ids f t m id known here seen = rw (known, drop-at (members_of t) f.next m here, sym seen, add-one) refl
