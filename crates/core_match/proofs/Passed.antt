-- Members that were passed.
use Rattle.std.proofs.Common.{◌≡◌, ℕ, zero, suc, ◌+◌, Bool, true, List, [], ◌∷◌, None, Some, Ok, Err, Option, Result, refl, sym, subst, add-one}
use Rattle.std.specs.Prelude.{slice_get}
use Rattle.core_spec.specs.Lookups.{and_then}
use Rattle.core_spec.specs.declared.error.AccessError.{AccessError}
use Rattle.btf_records.specs.Fields.{members_of}
use Rattle.btf_records.specs.declared.item.BtfMember.{BtfMember}
use Rattle.btf_records.specs.declared.types.BtfType.{BtfType}
use Rattle.btf_tables.specs.Tables.{type_by_id}
use Rattle.core_match.specs.Looks.{Search, look_at}
use Rattle.core_match.specs.Searches.{by_look, found_here, members_found}
use Rattle.core_match.specs.Stacks.{ArePassed, Ends, IsPassed, Passes}
use Rattle.core_match.specs.declared.look.Look.{Look}
use Rattle.core_match.specs.declared.look.Look.TheVariants.{Next, Match, Descend, Mismatch}
use Rattle.core_match.specs.declared.search.FoundMember.{FoundMember}
use Rattle.core_match.specs.declared.turn.Frame.{Frame}
use Rattle.core_match.proofs.Rests.{after_next}

-- ---- One more member is passed

one_more : (search : Search) (p : ℕ → Bool) (n : ℕ) (ms : List BtfMember) (m : BtfMember) → ArePassed search p n ms → Some m ≡ slice_get ms n → Passes p (look_at search m) → ArePassed search p (suc n) ms
one_more search p zero [] m h here pass = tt
one_more search p zero (x ∷ ms) m h here pass = let same : m ≡ x = cc in (subst (λ (y : BtfMember). Passes p (look_at search y)) same pass, tt)
one_more search p (suc n) [] m h here pass = tt
one_more search p (suc n) (x ∷ ms) m h here pass = (h.0, one_more search p n ms m h.1 here pass)

of_record : (search : Search) (p : ℕ → Bool) (n : ℕ) (t u : BtfType) → t ≡ u → ArePassed search p (suc n) (members_of t) → ArePassed search p (n + 1) (members_of u)
of_record search p n t u same h = rw (add-one, ← same) h

pub passed-next : (search : Search) (p : ℕ → Bool) (f : Frame) (t : BtfType) (m : BtfMember) → IsPassed search p f → type_by_id search.target f.type_id ≡ Some t → Some m ≡ slice_get (members_of t) f.next → Passes p (look_at search m) → IsPassed search p (after_next f)
passed-next search p f t m h known here pass =
    record {
      members = λ u is.
          let same : t ≡ u = cc in
          of_record search p f.next t u same (one_more search p f.next (members_of t) m (h.members t known) here pass);
    }

-- ---- More ids are known to have no match

more_pass : (p q : ℕ → Bool) → ((k : ℕ) → p k ≡ true → q k ≡ true) → (r : Result Look AccessError) → Passes p r → Passes q r
more_pass p q h (Ok Next) pass = tt
more_pass p q h (Ok Mismatch) pass = absurd pass
more_pass p q h (Ok Match) pass = absurd pass
more_pass p q h (Ok (Descend k)) pass = h k pass
more_pass p q h (Err e) pass = absurd pass

more_passed : (search : Search) (p q : ℕ → Bool) → ((k : ℕ) → p k ≡ true → q k ≡ true) → (n : ℕ) (ms : List BtfMember) → ArePassed search p n ms → ArePassed search q n ms
more_passed search p q h zero ms are = tt
more_passed search p q h (suc n) [] are = tt
more_passed search p q h (suc n) (m ∷ ms) are = (more_pass p q h (look_at search m) are.0, more_passed search p q h n ms are.1)

pub passed-more : (search : Search) (p q : ℕ → Bool) (f : Frame) → ((k : ℕ) → p k ≡ true → q k ≡ true) → IsPassed search p f → IsPassed search q f
passed-more search p q f h is = record { members = λ t known. more_passed search p q h f.next (members_of t) (is.members t known) }

-- ---- All members are passed

pass_on : (go : ℕ → Option ℕ → Result (Option FoundMember) AccessError) (p : ℕ → Bool) (here : FoundMember) (next : Result (Option FoundMember) AccessError) → ((k : ℕ) → p k ≡ true → (b : Option ℕ) → go k b ≡ Ok None) → next ≡ Ok None → (r : Result Look AccessError) → Passes p r → and_then r (by_look go here next) ≡ Ok None
pass_on go p here next h none (Ok Next) pass = none
pass_on go p here next h none (Ok Mismatch) pass = absurd pass
pass_on go p here next h none (Ok Match) pass = absurd pass
pass_on go p here next h none (Ok (Descend k)) pass = rw (h k pass here.bits) none
pass_on go p here next h none (Err e) pass = absurd pass

pub passed-none : (go : ℕ → Option ℕ → Result (Option FoundMember) AccessError) (search : Search) (p : ℕ → Bool) (id : ℕ) (t : BtfType) (depth : ℕ) (bits : Option ℕ) → ((k : ℕ) → p k ≡ true → (b : Option ℕ) → go k b ≡ Ok None)
    → (n index : ℕ) (ms : List BtfMember) → ArePassed search p n ms → Ends search (slice_get ms n) → members_found go search id t depth bits index ms ≡ Ok None
unfolding members_found
passed-none go search p id t depth bits h n index [] are ends = refl
passed-none go search p id t depth bits h zero index (m ∷ ms) are ends = rw (sym ends) refl
passed-none go search p id t depth bits h (suc n) index (m ∷ ms) are ends =
    pass_on go p (found_here id t depth bits index m) _ h (passed-none go search p id t depth bits h n (suc index) ms are.1 ends) (look_at search m) are.0
