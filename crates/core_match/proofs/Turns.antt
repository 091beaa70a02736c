-- The effect of a turn on a stack.
use Rattle.std.proofs.Common.{◌≡◌, ◌≢◌, subst, ℕ, suc, ◌+◌, ◌-◌, ◌<◌, inl, inr, true, false, List, [], ◌∷◌, ◌++◌, length, None, Some, Ok, Err, Option, Result, refl, sym, ap, ◌∙◌, arith}
use Rattle.std.specs.Prelude.{slice_get}
use Rattle.std.specs.Result.{IfErr, IfOk, IsErrAnd}
use Rattle.core_spec.specs.declared.error.AccessError.{AccessError}
use Rattle.core_spec.specs.declared.error.AccessError.TheVariants.{BtfError as TypeError}
use Rattle.btf_records.specs.Fields.{members_of}
use Rattle.btf_records.specs.declared.error.BtfError.TheVariants.{OutOfMemory, UnknownBtfType}
use Rattle.btf_records.specs.declared.item.BtfMember.{BtfMember}
use Rattle.btf_records.specs.declared.types.BtfType.{BtfType}
use Rattle.btf_tables.specs.Tables.{type_by_id}
use Rattle.core_match.specs.EmptyTypes.{NotesOne, is_noted}
use Rattle.core_match.specs.Looks.{Search, look_at}
use Rattle.core_match.specs.Searches.{found_here, found_in, is_among, member_found, most_open, or_next}
use Rattle.core_match.specs.Stacks.{Ends, GoesOn, IsFollowed, IsLeft, IsOpenInside, IsSound, IsTurn, Passes, entered, is_open, opened, rest_of, stack_value, value_above}
use Rattle.core_match.specs.declared.look.Look.{Look}
use Rattle.core_match.specs.declared.look.Look.TheVariants.{Descend, Match, Mismatch, Next}
use Rattle.core_match.specs.declared.search.FoundMember.{FoundMember}
use Rattle.core_match.specs.declared.turn.Frame.{Frame}
use Rattle.core_match.specs.declared.turn.Turn.{Turn}
use Rattle.core_match.specs.declared.turn.Turn.TheVariants as turns
use Rattle.core_match.proofs.EmptyTypes.{sound-first, sound-in, sound-left, sound-on}
use Rattle.core_match.proofs.Free.{free-push, length-push}
use Rattle.core_match.proofs.Nesting.{descends-to-known, known-below, met-again}
use Rattle.core_match.proofs.Rests.{after_next, descend, next_here, rest_bad, rest_descend, rest_done, rest_match, rest_mismatch, rest_next, rest_unknown}
use Rattle.core_match.proofs.Stacks.{among-ids, begun, found-fresh, ids-pushed, length-opened, next-next, top-first}
use Rattle.core_match.proofs.Work.{less-advanced, less-entered, less-left}

-- The innermost struct or union has a record and this next member.
pub record HasNext (search : Search) (f : Frame) (t : BtfType) (m : BtfMember) : Type 0 where
  pub known : type_by_id search.target f.type_id ≡ Some t
  pub here : Some m ≡ slice_get (members_of t) f.next

-- The next member as the match.
abbrev pub here_in : List Frame → Frame → BtfType → BtfMember → FoundMember
here_in below f t m = found_here f.type_id t (length below + 1) f.bits f.next m

same-here : (search : Search) (below : List Frame) (f : Frame) (t : BtfType) (m : BtfMember) → next_here search (opened below f) f t m ≡ here_in below f t m
same-here search below f t m = ap (λ (depth : ℕ). found_here f.type_id t depth f.bits f.next m) (length-opened below f)

-- The result of the stack is that of the innermost struct or union's remaining members, or else
-- that of the outer ones.
by-rest : (search : Search) (below : List Frame) (f : Frame) (r : Result (Option FoundMember) AccessError) → rest_of search (opened below f) f ≡ r → stack_value search (below ++ f ∷ []) ≡ or_next r (stack_value search below)
by-rest search below f r e = top-first search below f ∙ ap (λ (x : Result (Option FoundMember) AccessError). or_next x (stack_value search below)) e

-- ---- The innermost struct or union has no match

none-below : (search : Search) (below : List Frame) → below ≡ [] → stack_value search below ≡ Ok None
unfolding value_above
none-below search below e = rw e refl

left-on : (search : Search) (before after : List ℕ) (below : List Frame) (g f : Frame) (t : BtfType) → IsSound search before (below ++ g ∷ []) f → NotesOne before after f.type_id → type_by_id search.target f.type_id ≡ Some t → rest_of search (opened (below ++ g ∷ []) f) f ≡ Ok None → Ends search (slice_get (members_of t) f.next)
    → GoesOn search before (below ++ g ∷ []) f after below g
left-on search before after below g f t sound notes known none ends = record {
  same = sym (by-rest search (below ++ g ∷ []) f (Ok None) none);
  less = less-left search.target before after below g f notes;
  sound = sound-left search before after below g f t sound notes known ends;
}

left : (search : Search) (before : List ℕ) (below : List Frame) (f : Frame) (t : BtfType) (turn : Turn) (after : List ℕ) (new : List Frame) → IsSound search before below f → type_by_id search.target f.type_id ≡ Some t → rest_of search (opened below f) f ≡ Ok None → Ends search (slice_get (members_of t) f.next)
    → IsLeft f.type_id below before turn new after → IsTurn search before below f turn after new
left search before below f t (turns.Found found) after new sound known none ends h = absurd h
left search before below f t turns.Over after new sound known none ends h = by-rest search below f (Ok None) none ∙ none-below search below h
left search before below f t (turns.On g) after new sound known none ends h =
    subst (λ (b : List Frame). GoesOn search before b f after new g) (sym h.0)
    (left-on search before after new g f t (subst (λ (b : List Frame). IsSound search before b f) h.0 sound) h.1 known (subst (λ (b : List Frame). rest_of search (opened b f) f ≡ Ok None) h.0 none) ends)

-- The innermost struct or union has no more members.
pub done : (search : Search) (before : List ℕ) (below : List Frame) (f : Frame) (t : BtfType) (turn : Turn) (after : List ℕ) (new : List Frame) → IsSound search before below f → type_by_id search.target f.type_id ≡ Some t → None ≡ slice_get (members_of t) f.next → IsLeft f.type_id below before turn new after → IsTurn search before below f turn after new
done search before below f t turn after new sound known none h =
    left search before below f t turn after new sound known (rest_done search (opened below f) f t known none) (subst (Ends search) none tt) h

-- ---- A member is passed

advanced : (search : Search) (before : List ℕ) (below : List Frame) (f : Frame) (t : BtfType) (m : BtfMember) (seen : Look) → IsSound search before below f → HasNext search f t m → Ok seen ≡ look_at search m → Passes (is_noted before) (Ok seen) → stack_value search (below ++ after_next f ∷ []) ≡ stack_value search (below ++ f ∷ [])
    → GoesOn search before below f before below (after_next f)
advanced search before below f t m seen sound next look pass same = record {
  same = same;
  less = less-advanced search.target before below f t m next.known next.here;
  sound = sound-on search before below f t m sound next.known next.here (subst (Passes (is_noted before)) look pass);
}

passed : (search : Search) (below : List Frame) (f : Frame) (t : BtfType) (m : BtfMember) → HasNext search f t m → Ok Next ≡ look_at search m → stack_value search (below ++ after_next f ∷ []) ≡ stack_value search (below ++ f ∷ [])
passed search below f t m next seen = top-first search below (after_next f) ∙ sym (by-rest search below f _ (rest_next search (opened below f) f t m next.known next.here seen))

-- ---- A member without a name

-- The result of the stack if the search descends into the next member.
value-descended : (search : Search) (below : List Frame) (f : Frame) (t : BtfType) (m : BtfMember) (id : ℕ) → HasNext search f t m → Ok (Descend id) ≡ look_at search m
    → stack_value search (below ++ f ∷ []) ≡ or_next (descend search (opened below f) id (here_in below f t m).bits) (stack_value search (below ++ after_next f ∷ []))
value-descended search below f t m id next seen =
    by-rest search below f _ (rest_descend search (opened below f) f t m id next.known next.here seen)
    ∙ (next-next (descend search (opened below f) id (here_in below f t m).bits) (rest_of search (opened below f) (after_next f)) (stack_value search below)
    ∙ ap (or_next (descend search (opened below f) id (here_in below f t m).bits)) (sym (top-first search below (after_next f))))

-- A member that is known to have no match is passed.
passed-noted : (search : Search) (before : List ℕ) (below : List Frame) (f : Frame) (t : BtfType) (m : BtfMember) (id : ℕ) → IsSound search before below f → HasNext search f t m → Ok (Descend id) ≡ look_at search m → is_noted before id ≡ true → stack_value search (below ++ after_next f ∷ []) ≡ stack_value search (below ++ f ∷ [])
passed-noted search before below f t m id sound next seen noted =
    let none : descend search (opened below f) id (here_in below f t m).bits ≡ Ok None = sound.nothing.each id noted (opened below f) sound.apart (most_open search.target - length (opened below f)) (omega (arith, sound.few)) (here_in below f t m).bits in
    sym (value-descended search below f t m id next seen ∙ rw none refl)

among-opened : (below : List Frame) (f : Frame) (id : ℕ) → is_among (opened below f) id ≡ is_open (below ++ after_next f ∷ []) id
among-opened below f id = ap (λ (is : List ℕ). is_among is id) (sym (ids-pushed below (after_next f))) ∙ among-ids (below ++ after_next f ∷ []) id

-- A member that isn't open is entered.
value-entered : (search : Search) (below : List Frame) (f : Frame) (id : ℕ) (bits : Option ℕ) → is_among (opened below f) id ≡ false → length (opened below f) < most_open search.target
    → stack_value search ((below ++ after_next f ∷ []) ++ entered id bits ∷ []) ≡ or_next (descend search (opened below f) id bits) (stack_value search (below ++ after_next f ∷ []))
value-entered search below f id bits fresh within =
    let n : most_open search.target - length (opened below f) ≡ suc (most_open search.target - length (opened below f ++ id ∷ [])) = omega (arith, length-push (opened below f) id, within) in
    let inner = found-fresh search (opened below f) id (most_open search.target - length (opened below f)) bits fresh n in
    top-first search (below ++ after_next f ∷ []) (entered id bits)
    ∙ (ap (λ (o : List ℕ). or_next (rest_of search (o ++ id ∷ []) (entered id bits)) (stack_value search (below ++ after_next f ∷ []))) (ids-pushed below (after_next f))
    ∙ ap (λ (r : Result (Option FoundMember) AccessError). or_next r (stack_value search (below ++ after_next f ∷ []))) (sym inner))

descended : (search : Search) (before : List ℕ) (below : List Frame) (f : Frame) (t : BtfType) (m : BtfMember) (id : ℕ) (bits : Option ℕ) → IsSound search before below f → HasNext search f t m → Ok (Descend id) ≡ look_at search m → bits ≡ (here_in below f t m).bits
    → is_noted before id ≡ false → is_open (below ++ after_next f ∷ []) id ≡ false → GoesOn search before below f before (below ++ after_next f ∷ []) (entered id bits)
descended search before below f t m id bits sound next seen same_bits unnoted fresh =
    let there = descends-to-known search m id (sym seen) in
    let once = among-opened below f id ∙ fresh in
    let lt = known-below search.target id there in
    let within : length (opened below f) < most_open search.target = omega (arith, sound.few, free-push (most_open search.target) (opened below f) id lt once) in
    record {
      same = rw same_bits (value-entered search below f id (here_in below f t m).bits once within ∙ sym (value-descended search below f t m id next seen));
      less = less-entered search.target before below f t m id bits next.known next.here lt once unnoted;
      sound = sound-in search before below f t m id bits sound next.known next.here seen unnoted fresh there;
    }

-- ---- A turn

turned : (search : Search) (before : List ℕ) (below : List Frame) (f : Frame) (t : BtfType) (m : BtfMember) (seen : Look) (here : FoundMember) (turn : Turn) (after : List ℕ) (new : List Frame) → IsSound search before below f → HasNext search f t m → Ok seen ≡ look_at search m → here ≡ here_in below f t m
    → IsFollowed seen here (after_next f) below before turn new after → IsTurn search before below f turn after new
turned search before below f t m Next here turn after new sound next seen is h =
    rw (h.0, h.1, h.2) (advanced search before below f t m Next sound next seen tt (passed search below f t m next seen))
turned search before below f t m Mismatch here turn after new sound next seen is h =
    left search before below f t turn after new sound next.known (rest_mismatch search (opened below f) f t m next.known next.here seen) (subst (Ends search) next.here seen) h
turned search before below f t m Match here turn after new sound next seen is h =
    rw h (by-rest search below f _ (rest_match search (opened below f) f t m next.known next.here seen) ∙ ap (λ (x : FoundMember). Ok (Some x)) (same-here search below f t m ∙ sym is))
turned search before below f t m (Descend id) here turn after new sound next seen is (inl h) =
    rw (h.1.0, h.1.1, h.1.2) (advanced search before below f t m (Descend id) sound next seen h.0 (passed-noted search before below f t m id sound next seen h.0))
turned search before below f t m (Descend id) here turn after new sound next seen is (inr h) =
    rw (h.0, h.1, h.2) (descended search before below f t m id here.bits sound next seen (ap (λ (x : FoundMember). x.bits) is) h.3 h.4)

-- The member as the match, with its number of parts by the number of open structs and unions.
pub same-member : (below : List Frame) (f : Frame) (t : BtfType) (m : BtfMember) (parts : ℕ) (here : FoundMember) → here ≡ found_here f.type_id t parts f.bits f.next m → parts ≡ length below + 1 → here ≡ here_in below f t m
same-member below f t m parts here is depth = is ∙ ap (λ (n : ℕ). found_here f.type_id t n f.bits f.next m) depth

pub turned-ok : (search : Search) (before : List ℕ) (below : List Frame) (f : Frame) (t : BtfType) (m : BtfMember) (seen : Look) (here : FoundMember) (r : Result Turn AccessError) (after : List ℕ) (new : List Frame) → IsSound search before below f → HasNext search f t m → Ok seen ≡ look_at search m → here ≡ here_in below f t m
    → IfOk r (λ turn. IsFollowed seen here (after_next f) below before turn new after) → IfOk r (λ turn. IsTurn search before below f turn after new)
turned-ok search before below f t m seen here (Err e) after new sound next look is h = tt
turned-ok search before below f t m seen here (Ok turn) after new sound next look is h = turned search before below f t m seen here turn after new sound next look is h

-- ---- Faults

pub refused-unknown : (search : Search) (below : List Frame) (f : Frame) → type_by_id search.target f.type_id ≡ None → stack_value search (below ++ f ∷ []) ≡ Err (TypeError (UnknownBtfType f.type_id))
refused-unknown search below f none = by-rest search below f _ (rest_unknown search (opened below f) f none)

pub refused-look : (search : Search) (below : List Frame) (f : Frame) (t : BtfType) (m : BtfMember) (e : AccessError) → HasNext search f t m → Err e ≡ look_at search m → stack_value search (below ++ f ∷ []) ≡ Err e
refused-look search below f t m e next seen = by-rest search below f _ (rest_bad search (opened below f) f t m e next.known next.here seen)

refused-open : (search : Search) (below : List Frame) (f : Frame) (t : BtfType) (m : BtfMember) (seen : Look) (e : AccessError) → HasNext search f t m → Ok seen ≡ look_at search m → IsOpenInside seen (below ++ after_next f ∷ []) e → stack_value search (below ++ f ∷ []) ≡ Err e
refused-open search below f t m Next e next seen h = absurd h
refused-open search below f t m Mismatch e next seen h = absurd h
refused-open search below f t m Match e next seen h = absurd h
refused-open search below f t m (Descend id) e next seen h =
    let again = met-again (most_open search.target - length (opened below f)) search (opened below f) id (here_in below f t m).bits (among-opened below f id ∙ h.1) in
    value-descended search below f t m id next seen
    ∙ (ap (λ (r : Result (Option FoundMember) AccessError). or_next r (stack_value search (below ++ after_next f ∷ []))) again ∙ ap (λ (x : AccessError). Err x) (sym h.0))

pub refused-err : (search : Search) (below : List Frame) (f : Frame) (t : BtfType) (m : BtfMember) (seen : Look) (r : Result Turn AccessError) → HasNext search f t m → Ok seen ≡ look_at search m
    → IfErr r (λ e. e ≢ TypeError OutOfMemory → IsOpenInside seen (below ++ after_next f ∷ []) e) → IfErr r (λ e. e ≢ TypeError OutOfMemory → stack_value search (below ++ f ∷ []) ≡ Err e)
refused-err search below f t m seen (Ok turn) next look h = tt
refused-err search below f t m seen (Err e) next look h = λ other. refused-open search below f t m seen e next look (h other)

passed_on : {T : Type 0} (result : Result T AccessError) (e : AccessError) (P : AccessError → Type 0) → IsErrAnd result (λ f. f ≡ e) → P e → IfErr result P
passed_on (Ok found) e P h p = tt
passed_on (Err f) e P h p = subst P (sym h) p

-- An error that ends a turn is the error of the search.
pub refused_by : {T : Type 0} (value : Result (Option FoundMember) AccessError) (result : Result T AccessError) (e : AccessError) → (e ≢ TypeError OutOfMemory → value ≡ Err e) → IsErrAnd result (λ f. f ≡ e) → IfErr result (λ f. f ≢ TypeError OutOfMemory → value ≡ Err f)
refused_by value result e refused is = passed_on result e (λ f. f ≢ TypeError OutOfMemory → value ≡ Err f) is refused

-- ---- The start of a search

pub unknown-root : (search : Search) (root : ℕ) (bits : Option ℕ) → type_by_id search.target root ≡ None → member_found search root bits ≡ Err (TypeError (UnknownBtfType root))
unfolding found_in
unknown-root search root bits none = rw none refl

-- The invariants before the first turn.
pub record Begins (search : Search) (root : ℕ) (bits : Option ℕ) (outer : List Frame) (noted : List ℕ) (f : Frame) : Type 0 where
  pub same : stack_value search (outer ++ f ∷ []) ≡ member_found search root bits
  pub sound : IsSound search noted outer f

pub begins : (search : Search) (root : ℕ) (bits : Option ℕ) (t : BtfType) (outer : List Frame) (noted : List ℕ) (f : Frame) → outer ≡ [] → noted ≡ [] → f ≡ entered root bits → type_by_id search.target root ≡ Some t → Begins search root bits outer noted f
begins search root bits t outer noted f none nothing first known = rw (none, nothing, first) (record { same = begun search root bits; sound = sound-first search root bits t known })
