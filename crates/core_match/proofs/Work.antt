-- Each turn decreases the remaining work.
use Rattle.std.proofs.Common.{◌≡◌, ℕ, suc, ◌+◌, ◌<◌, ◌≤◌, Bool, true, false, cond, List, [], ◌∷◌, ◌++◌, None, Some, Option, refl, sym, subst, arith}
use Rattle.std.proofs.lemmas.Bool.Decides.{nat_tests}
use Rattle.std.proofs.lemmas.Option.{slice_get_within}
use Rattle.std.specs.Prelude.{◌==◌, ◌||◌, slice_get}
use Rattle.btf_records.specs.Fields.{members_of}
use Rattle.btf_records.specs.declared.item.BtfMember.{BtfMember}
use Rattle.btf_records.specs.declared.types.BtfType.{BtfType}
use Rattle.btf_tables.specs.Tables.{Table, type_by_id}
use Rattle.core_match.specs.EmptyTypes.{NotesOne, failing, is_noted}
use Rattle.core_match.specs.Searches.{is_among, most_open}
use Rattle.core_match.specs.Stacks.{entered, is_met, left_of, opened, turns_in, turns_left, work}
use Rattle.core_match.specs.declared.turn.Frame.{Frame}
use Rattle.core_match.proofs.Free.{among-kept, among-new, among-push, fails-le, fails-lt, keeps}
use Rattle.core_match.proofs.Rests.{after_next}
use Rattle.core_match.proofs.Stacks.{ids-pushed}

pushed : (target : Table) (below : List Frame) (f : Frame) → turns_left target (below ++ f ∷ []) ≡ turns_left target below + suc (left_of target f)
pushed target [] f = omega arith
pushed target (g ∷ below) f = omega (arith, pushed target below f)

fewer_left : (target : Table) (f : Frame) (t : BtfType) (m : BtfMember) → type_by_id target f.type_id ≡ Some t → Some m ≡ slice_get (members_of t) f.next → left_of target f ≡ suc (left_of target (after_next f))
fewer_left target f t m known here =
    let within = slice_get_within (members_of t) f.next m (sym here) in
    rw known (omega arith)

pub less-advanced : (target : Table) (noted : List ℕ) (below : List Frame) (f : Frame) (t : BtfType) (m : BtfMember) → type_by_id target f.type_id ≡ Some t → Some m ≡ slice_get (members_of t) f.next → work target noted below (after_next f) < work target noted below f
less-advanced target noted below f t m known here =
    omega (arith, pushed target below f, pushed target below (after_next f), fewer_left target f t m known here)

-- ---- A struct or union that is left is noted

met_more : (a b c d : Bool) → (b ≡ true → d ≡ true) → ((a || b) || c) ≡ true → (a || cond d true c) ≡ true
met_more true b c d h e = refl
met_more false true c d h e = rw (h refl) refl
met_more false false c true h e = refl
met_more false false c false h e = e

flipped : (k y : ℕ) → (y == k) ≡ true → (k == y) ≡ true
flipped k y e = grind (arith, nat_tests)

met_left : (before after xs : List ℕ) (id k : ℕ) → NotesOne before after id → is_met before (xs ++ id ∷ []) k ≡ true → is_met after xs k ≡ true
met_left before after xs id k notes e =
    rw (notes.each k) (met_more (is_among xs k) (id == k) (is_noted before k) (k == id) (flipped k id) (rw (among-push xs id k) at e))

fewer_met : (target : Table) (before after xs : List ℕ) (id : ℕ) → NotesOne before after id → failing (turns_in target) (is_met after xs) (most_open target) ≤ failing (turns_in target) (is_met before (xs ++ id ∷ [])) (most_open target)
fewer_met target before after xs id notes =
    fails-le (turns_in target) (is_met after xs) (is_met before (xs ++ id ∷ [])) (most_open target) (λ k lt. keeps (is_met before (xs ++ id ∷ [])) (is_met after xs) (λ j e. met_left before after xs id j notes e) k)

pub less-left : (target : Table) (before after : List ℕ) (below : List Frame) (g f : Frame) → NotesOne before after f.type_id → work target after below g < work target before (below ++ g ∷ []) f
less-left target before after below g f notes =
    subst (λ (xs : List ℕ). work target after below g < turns_left target ((below ++ g ∷ []) ++ f ∷ []) + failing (turns_in target) (is_met before (xs ++ f.type_id ∷ [])) (most_open target)) (sym (ids-pushed below g))
    (omega (arith, pushed target (below ++ g ∷ []) f, fewer_met target before after (opened below g) f.type_id notes))

-- ---- A struct or union is entered

or_kept : (a b c : Bool) → (a ≡ true → b ≡ true) → (a || c) ≡ true → (b || c) ≡ true
or_kept true b c h e = rw (h refl) refl
or_kept false true c h e = refl
or_kept false false c h e = e

or_left : (a b : Bool) → a ≡ true → (a || b) ≡ true
or_left true b e = refl
or_left false b e = absurd cc

neither : (a b : Bool) → a ≡ false → b ≡ false → (a || b) ≡ false
neither true b e f = absurd cc
neither false b e f = f

met_entered : (target : Table) (noted xs : List ℕ) (id : ℕ) → id < most_open target → is_among xs id ≡ false → is_noted noted id ≡ false
    → turns_in target id + failing (turns_in target) (is_met noted (xs ++ id ∷ [])) (most_open target) ≤ failing (turns_in target) (is_met noted xs) (most_open target)
met_entered target noted xs id lt fresh unnoted =
    fails-lt (turns_in target) (is_met noted xs) (is_met noted (xs ++ id ∷ [])) id (most_open target)
    (λ k e. or_kept (is_among xs k) (is_among (xs ++ id ∷ []) k) (is_noted noted k) (among-kept xs id k) e) lt
    (neither (is_among xs id) (is_noted noted id) fresh unnoted) (or_left (is_among (xs ++ id ∷ []) id) (is_noted noted id) (among-new xs id))

pub less-entered : (target : Table) (noted : List ℕ) (below : List Frame) (f : Frame) (t : BtfType) (m : BtfMember) (id : ℕ) (bits : Option ℕ) → type_by_id target f.type_id ≡ Some t → Some m ≡ slice_get (members_of t) f.next
    → id < most_open target → is_among (opened below f) id ≡ false → is_noted noted id ≡ false → work target noted (below ++ after_next f ∷ []) (entered id bits) < work target noted below f
less-entered target noted below f t m id bits known here lt fresh unnoted =
    let same : left_of target (entered id bits) ≡ left_of target (entered id None) = refl in
    subst (λ (xs : List ℕ). turns_left target ((below ++ after_next f ∷ []) ++ entered id bits ∷ []) + failing (turns_in target) (is_met noted (xs ++ id ∷ [])) (most_open target) < work target noted below f) (sym (ids-pushed below (after_next f)))
    (omega (arith, same, pushed target (below ++ after_next f ∷ []) (entered id bits), pushed target below (after_next f), pushed target below f, fewer_left target f t m known here, met_entered target noted (opened below f) id lt fresh unnoted))
