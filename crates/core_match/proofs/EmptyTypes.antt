-- Structs and unions that were searched without a match.
use Rattle.std.proofs.Common.{◌≡◌, ℕ, zero, suc, ◌+◌, ◌<◌, ◌≤◌, Bool, true, false, cond, List, [], ◌∷◌, ◌++◌, length, None, Some, Ok, Option, refl, sym, ap, subst, ◌∙◌, arith}
use Rattle.std.proofs.lemmas.Bool.Decides.{nat_tests}
use Rattle.std.specs.Prelude.{◌==◌, ◌||◌, slice_get}
use Rattle.btf_records.specs.Fields.{members_of}
use Rattle.btf_records.specs.declared.item.BtfMember.{BtfMember}
use Rattle.btf_records.specs.declared.types.BtfType.{BtfType}
use Rattle.btf_tables.specs.Tables.{Table, type_by_id}
use Rattle.core_match.specs.EmptyTypes.{AreApart, HoldNothing, NotesOne, free, is_noted}
use Rattle.core_match.specs.Looks.{Search, look_at}
use Rattle.core_match.specs.Searches.{found_in, is_among, most_open}
use Rattle.core_match.specs.Stacks.{AllPassed, Ends, IsPassed, IsSound, Passes, entered, first_id, ids, is_open, opened, or_noted}
use Rattle.core_match.specs.declared.look.Look.TheVariants.{Descend}
use Rattle.core_match.specs.declared.turn.Frame.{Frame}
use Rattle.core_match.proofs.Free.{among-kept, among-new, among-push, free-none, free-pop, free-push, length-push, not-twice}
use Rattle.core_match.proofs.Nesting.{IsKnown, known-below}
use Rattle.core_match.proofs.Passed.{passed-more, passed-next, passed-none}
use Rattle.core_match.proofs.Rests.{after_next}
use Rattle.core_match.proofs.Stacks.{among-ids, ids-pushed}

-- ---- Sets

same_number : (k y : ℕ) → (k == y) ≡ true → k ≡ y
same_number k y e = grind (arith, nat_tests)

self : (k : ℕ) → (k == k) ≡ true
self k = grind (arith, nat_tests)

or_else : (b c : Bool) → cond b true c ≡ false → c ≡ false
or_else true c e = absurd cc
or_else false c e = e

noted-self : (before after : List ℕ) (id : ℕ) → NotesOne before after id → is_noted after id ≡ true
noted-self before after id h = h.each id ∙ rw (self id) refl

noted-kept : (before after : List ℕ) (id k : ℕ) → NotesOne before after id → is_noted before k ≡ true → is_noted after k ≡ true
noted-kept before after id k h e = h.each k ∙ by (k == id) (is_noted before k) e where
  by : (b c : Bool) → c ≡ true → cond b true c ≡ true
  by true c e = refl
  by false c e = e

-- An id that is noted now was noted before, or is the one that was being searched.
noted-either : (before after : List ℕ) (id k : ℕ) → NotesOne before after id → or_noted before id k ≡ true → is_noted after k ≡ true
noted-either before after id k h e = h.each k ∙ by (k == id) (is_noted before k) e where
  by : (b c : Bool) → (b || c) ≡ true → cond b true c ≡ true
  by true c e = refl
  by false c e = e

-- ---- Noted and open ids are disjoint

apart-less : (before after open_ids : List ℕ) (id : ℕ) → NotesOne before after id → AreApart after open_ids → AreApart before open_ids
apart-less before after open_ids id h apart = record { each = λ k e. or_else (k == id) (is_noted before k) (sym (h.each k) ∙ apart.each k e) }

apart-push : (noted open_ids : List ℕ) (id : ℕ) → AreApart noted open_ids → is_noted noted id ≡ false → AreApart noted (open_ids ++ id ∷ [])
apart-push noted open_ids id apart fresh = record { each = λ k e. by k (is_among open_ids k) refl (sym (among-push open_ids id k) ∙ e) } where
  by : (k : ℕ) (b : Bool) → is_among open_ids k ≡ b → (is_among open_ids k || (id == k)) ≡ true → is_noted noted k ≡ false
  by k true is e = apart.each k is
  by k false is e = let last : (id == k) ≡ true = rw is at e in subst (λ (j : ℕ). is_noted noted j ≡ false) (same_number id k last) fresh

apart-pop : (before after open_ids : List ℕ) (id : ℕ) → NotesOne before after id → AreApart before (open_ids ++ id ∷ []) → is_among open_ids id ≡ false → AreApart after open_ids
apart-pop before after open_ids id h apart once = record { each = λ k e. h.each k ∙ by k (k == id) refl e (apart.each k (among-kept open_ids id k e)) } where
  by : (k : ℕ) (b : Bool) → (k == id) ≡ b → is_among open_ids k ≡ true → is_noted before k ≡ false → cond b true (is_noted before k) ≡ false
  by k true is e fresh = absurd (let there : is_among open_ids id ≡ true = subst (λ (j : ℕ). is_among open_ids j ≡ true) (same_number k id is) e in cc)
  by k false is e fresh = fresh

-- ---- The number of open ids is bounded

-- There are at most as many open ids as ids.
abbrev pub AreFew : Table → List ℕ → Type 0
AreFew target open_ids = free (most_open target) open_ids + length open_ids ≤ most_open target

few-by : (n : ℕ) (xs : List ℕ) (id : ℕ) → free n xs + length xs ≤ n → id < n → is_among xs id ≡ false → free n (xs ++ id ∷ []) + length (xs ++ id ∷ []) ≤ n
few-by n xs id few lt fresh = omega (arith, few, free-push n xs id lt fresh, length-push xs id)

few-push : (target : Table) (xs : List ℕ) (id : ℕ) → AreFew target xs → id < most_open target → is_among xs id ≡ false → AreFew target (xs ++ id ∷ [])
few-push target xs id few lt fresh = few-by (most_open target) xs id few lt fresh

few-less : (n : ℕ) (xs : List ℕ) (id : ℕ) → free n (xs ++ id ∷ []) + length (xs ++ id ∷ []) ≤ n → free n xs + length xs ≤ n
few-less n xs id few = omega (arith, few, free-pop n xs id, length-push xs id)

few-pop : (target : Table) (xs : List ℕ) (id : ℕ) → AreFew target (xs ++ id ∷ []) → AreFew target xs
few-pop target xs id few = few-less (most_open target) xs id few

none-few : (n : ℕ) → free n [] + length {A = ℕ} [] ≤ n
none-few n = omega (arith, free-none n)

few-none : (target : Table) → AreFew target []
few-none target = none-few (most_open target)

-- ---- No match in a noted struct or union

-- No match is found in a struct or union whose members are all passed, if the noted ones have no
-- match.
searched-none : (search : Search) (noted : List ℕ) (f : Frame) (t : BtfType) → HoldNothing search noted → is_noted noted f.type_id ≡ false → type_by_id search.target f.type_id ≡ Some t → IsPassed search (is_noted noted) f → Ends search (slice_get (members_of t) f.next)
    → (open_ids : List ℕ) → AreApart noted open_ids → is_among open_ids f.type_id ≡ false → (n : ℕ) → free (most_open search.target) open_ids ≤ n → (bits : Option ℕ) → found_in n search open_ids f.type_id bits ≡ Ok None
unfolding found_in
searched-none search noted f t nothing fresh known passed ends open_ids apart once zero le bits =
    absurd (omega (arith, free-push (most_open search.target) open_ids f.type_id (known-below search.target f.type_id (record { found = t; is = known })) once))
searched-none search noted f t nothing fresh known passed ends open_ids apart once (suc n) le bits =
    let fewer = free-push (most_open search.target) open_ids f.type_id (known-below search.target f.type_id (record { found = t; is = known })) once in
    let inner = apart-push noted open_ids f.type_id apart fresh in
    rw (once, known) (passed-none (found_in n search (open_ids ++ f.type_id ∷ [])) search (is_noted noted) f.type_id t (length (open_ids ++ f.type_id ∷ [])) bits (λ k is b. nothing.each k is (open_ids ++ f.type_id ∷ []) inner n (omega arith) b) f.next 0 (members_of t) (passed.members t known) ends)

not-open : (noted open_ids : List ℕ) (id : ℕ) → AreApart noted open_ids → is_noted noted id ≡ true → is_among open_ids id ≡ false
not-open noted open_ids id apart is = by (is_among open_ids id) refl where
  by : (b : Bool) → is_among open_ids id ≡ b → is_among open_ids id ≡ false
  by true e = absurd (let other : is_noted noted id ≡ false = apart.each id e in cc)
  by false e = e

hold-more : (search : Search) (before after : List ℕ) (f : Frame) (t : BtfType) → HoldNothing search before → NotesOne before after f.type_id → is_noted before f.type_id ≡ false → type_by_id search.target f.type_id ≡ Some t → IsPassed search (is_noted before) f → Ends search (slice_get (members_of t) f.next) → HoldNothing search after
hold-more search before after f t nothing notes fresh known passed ends =
    record { each = λ id is open_ids apart n le bits. by id (id == f.type_id) refl is open_ids apart n le bits } where
      by : (id : ℕ) (b : Bool) → (id == f.type_id) ≡ b → is_noted after id ≡ true → (open_ids : List ℕ) → AreApart after open_ids → (n : ℕ) → free (most_open search.target) open_ids ≤ n → (bits : Option ℕ) → found_in n search open_ids id bits ≡ Ok None
      by id true e is open_ids apart n le bits =
          subst (λ (j : ℕ). found_in n search open_ids j bits ≡ Ok None) (sym (same_number id f.type_id e))
          (searched-none search before f t nothing fresh known passed ends open_ids (apart-less before after open_ids f.type_id notes apart) (not-open after open_ids f.type_id apart (noted-self before after f.type_id notes)) n le bits)
      by id false e is open_ids apart n le bits =
          let old : is_noted before id ≡ true = rw e at (sym (notes.each id) ∙ is) in
          nothing.each id old open_ids (apart-less before after open_ids f.type_id notes apart) n le bits

-- ---- Around the innermost struct or union

first-push : (hs : List Frame) (g : Frame) (top : ℕ) → first_id (hs ++ g ∷ []) top ≡ first_id hs g.type_id
first-push [] g top = refl
first-push (x ∷ xs) g top = refl

around-push : (search : Search) (noted : List ℕ) (outer : List Frame) (g : Frame) (top : ℕ) → AllPassed search noted outer g.type_id → IsPassed search (or_noted noted top) g → AllPassed search noted (outer ++ g ∷ []) top
around-push search noted [] g top h passed = (passed, tt)
around-push search noted (x ∷ xs) g top h passed = (subst (λ (k : ℕ). IsPassed search (or_noted noted k) x) (sym (first-push xs g top)) h.0, around-push search noted xs g top h.1 passed)

around-pop : (search : Search) (noted : List ℕ) (outer : List Frame) (g : Frame) (top : ℕ) → AllPassed search noted (outer ++ g ∷ []) top → AllPassed search noted outer g.type_id × IsPassed search (or_noted noted top) g
around-pop search noted [] g top h = (tt, h.0)
around-pop search noted (x ∷ xs) g top h =
    let rest = around-pop search noted xs g top h.1 in
    ((subst (λ (k : ℕ). IsPassed search (or_noted noted k) x) (first-push xs g top) h.0, rest.0), rest.1)

or_kept : (before after : List ℕ) (id top k : ℕ) → NotesOne before after id → or_noted before top k ≡ true → or_noted after top k ≡ true
or_kept before after id top k h e = by (k == top) (is_noted before k) (is_noted after k) (noted-kept before after id k h) e where
  by : (a b c : Bool) → (b ≡ true → c ≡ true) → (a || b) ≡ true → (a || c) ≡ true
  by true b c f e = refl
  by false b c f e = f e

around-more : (search : Search) (before after : List ℕ) (id : ℕ) → NotesOne before after id → (outer : List Frame) (top : ℕ) → AllPassed search before outer top → AllPassed search after outer top
around-more search before after id notes [] top h = tt
around-more search before after id notes (x ∷ xs) top h =
    (passed-more search (or_noted before (first_id xs top)) (or_noted after (first_id xs top)) x (λ k e. or_kept before after id (first_id xs top) k notes e) h.0, around-more search before after id notes xs top h.1)

-- ---- Turns

pub sound-on : (search : Search) (noted : List ℕ) (outer : List Frame) (f : Frame) (t : BtfType) (m : BtfMember) → IsSound search noted outer f → type_by_id search.target f.type_id ≡ Some t → Some m ≡ slice_get (members_of t) f.next → Passes (is_noted noted) (look_at search m) → IsSound search noted outer (after_next f)
sound-on search noted outer f t m sound known here pass =
    record { nothing = sound.nothing; apart = sound.apart; few = sound.few; passed = passed-next search (is_noted noted) f t m sound.passed known here pass; around = sound.around }

passes-descended : (search : Search) (noted : List ℕ) (m : BtfMember) (id : ℕ) → Ok (Descend id) ≡ look_at search m → Passes (or_noted noted id) (look_at search m)
passes-descended search noted m id seen = subst (Passes (or_noted noted id)) seen (by (id == id) (is_noted noted id) (self id)) where
  by : (a b : Bool) → a ≡ true → (a || b) ≡ true
  by true b e = refl
  by false b e = absurd cc

or_right : (a b : Bool) → b ≡ true → (a || b) ≡ true
or_right true b e = refl
or_right false b e = e

pub sound-in : (search : Search) (noted : List ℕ) (outer : List Frame) (f : Frame) (t : BtfType) (m : BtfMember) (id : ℕ) (bits : Option ℕ) → IsSound search noted outer f → type_by_id search.target f.type_id ≡ Some t → Some m ≡ slice_get (members_of t) f.next → Ok (Descend id) ≡ look_at search m
    → is_noted noted id ≡ false → is_open (outer ++ after_next f ∷ []) id ≡ false → IsKnown search.target id → IsSound search noted (outer ++ after_next f ∷ []) (entered id bits)
sound-in search noted outer f t m id bits sound known here seen unnoted fresh there =
    let same : ids (outer ++ after_next f ∷ []) ≡ opened outer f = ids-pushed outer (after_next f) in
    let once : is_among (opened outer f) id ≡ false = ap (λ (xs : List ℕ). is_among xs id) (sym same) ∙ (among-ids (outer ++ after_next f ∷ []) id ∙ fresh) in
    let after = passed-next search (or_noted noted id) f t m (passed-more search (is_noted noted) (or_noted noted id) f (λ k e. or_right (k == id) (is_noted noted k) e) sound.passed) known here (passes-descended search noted m id seen) in
    record {
      nothing = sound.nothing;
      apart = subst (λ (xs : List ℕ). AreApart noted (xs ++ id ∷ [])) (sym same) (apart-push noted (opened outer f) id sound.apart unnoted);
      few = subst (λ (xs : List ℕ). AreFew search.target (xs ++ id ∷ [])) (sym same) (few-push search.target (opened outer f) id sound.few (known-below search.target id there) once);
      passed = record { members = λ u is. tt };
      around = around-push search noted outer (after_next f) id sound.around after;
    }

pub sound-left : (search : Search) (before after : List ℕ) (outer : List Frame) (g f : Frame) (t : BtfType) → IsSound search before (outer ++ g ∷ []) f → NotesOne before after f.type_id → type_by_id search.target f.type_id ≡ Some t → Ends search (slice_get (members_of t) f.next) → IsSound search after outer g
sound-left search before after outer g f t sound notes known ends =
    let same : ids (outer ++ g ∷ []) ≡ opened outer g = ids-pushed outer g in
    let apart = subst (λ (xs : List ℕ). AreApart before (xs ++ f.type_id ∷ [])) same sound.apart in
    let few = subst (λ (xs : List ℕ). AreFew search.target (xs ++ f.type_id ∷ [])) same sound.few in
    let once = not-twice (most_open search.target) (opened outer g) f.type_id few in
    let fresh = apart.each f.type_id (among-new (opened outer g) f.type_id) in
    let parts = around-pop search before outer g f.type_id sound.around in
    record {
      nothing = hold-more search before after f t sound.nothing notes fresh known sound.passed ends;
      apart = apart-pop before after (opened outer g) f.type_id notes apart once;
      few = few-pop search.target (opened outer g) f.type_id few;
      passed = passed-more search (or_noted before f.type_id) (is_noted after) g (λ k e. noted-either before after f.type_id k notes e) parts.1;
      around = around-more search before after f.type_id notes outer g.type_id parts.0;
    }

pub sound-first : (search : Search) (root : ℕ) (bits : Option ℕ) (t : BtfType) → type_by_id search.target root ≡ Some t → IsSound search [] [] (entered root bits)
sound-first search root bits t known =
    record {
      nothing = record { each = λ id is open_ids apart n le b. absurd cc };
      apart = record { each = λ id e. refl };
      few = few-push search.target [] root (few-none search.target) (known-below search.target root (record { found = t; is = known })) refl;
      passed = record { members = λ u is. tt };
      around = tt;
    }
