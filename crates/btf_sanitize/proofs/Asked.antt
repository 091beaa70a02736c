-- Lists of answers while features are queried.
use Rattle.std.proofs.Common.{◌≡◌, ℕ, ◌+◌, ◌<◌, ◌≤◌, ◌==◌, Bool, true, false, cond, List, [], ◌∷◌, ◌++◌, ◌||◌, length, refl, ap, sym, ◌∙◌, subst, arith, Some, None, append_assoc}
use Rattle.std.proofs.lemmas.Bool.{eqb-true}
use Rattle.std.specs.Fn.{Mut}
use Rattle.std.specs.List.{FoldsTo, list_any}
use Rattle.btf_records.specs.declared.feature.BtfFeature.{BtfFeature}
use Rattle.btf_records.specs.declared.feature.BtfFeature.TheVariants.{Func, FuncGlobal, DataSec, DataSecZero, Float, DeclTag, TypeTag, Enum64}
use Rattle.btf_sanitize.specs.Answers.{Answers, AreDistinct, AreGiven, Settles, answer_to, features, is_same, noted, feature_number, times}
use Rattle.btf_sanitize.proofs.DistinctFeatures.{has_room, length_features}

-- ---- Features and their numbers

same_itself : (f : BtfFeature) → is_same f f ≡ true
same_itself Func = refl
same_itself FuncGlobal = refl
same_itself DataSec = refl
same_itself DataSecZero = refl
same_itself Float = refl
same_itself DeclTag = refl
same_itself TypeTag = refl
same_itself Enum64 = refl

abbrev feature_at : ℕ → BtfFeature
feature_at n = cond (n == 0) Func (cond (n == 1) FuncGlobal (cond (n == 2) DataSec (cond (n == 3) DataSecZero (cond (n == 4) Float (cond (n == 5) DeclTag (cond (n == 6) TypeTag Enum64))))))

at_its_place : (f : BtfFeature) → feature_at (feature_number f) ≡ f
at_its_place Func = refl
at_its_place FuncGlobal = refl
at_its_place DataSec = refl
at_its_place DataSecZero = refl
at_its_place Float = refl
at_its_place DeclTag = refl
at_its_place TypeTag = refl
at_its_place Enum64 = refl

same_is : (f g : BtfFeature) → is_same f g ≡ true → f ≡ g
same_is f g h =
    let places : feature_number f ≡ feature_number g = eqb-true (feature_number f) (feature_number g) h in
    sym (at_its_place f) ∙ (ap feature_at places ∙ at_its_place g)

-- ---- Answers

answer_stays : (known later : Answers) (f : BtfFeature) (b : Bool) → answer_to known f ≡ Some b → answer_to (known ++ later) f ≡ Some b
answer_stays [] later f b h = cc
answer_stays (a ∷ known) later f b h =
    (elim (is_same a.0 f) as (λ t. cond t (Some a.1) (answer_to known f) ≡ Some b → cond t (Some a.1) (answer_to (known ++ later) f) ≡ Some b) [
      | true ↦ λ h. h
      | false ↦ λ h. answer_stays known later f b h
    ]) h

pub settled_known : (known : Answers) (f : BtfFeature) (b : Bool) → answer_to known f ≡ Some b → Settles known f b
settled_known known f b h = record { always = λ later. rw (answer_stays known later f b h) refl }

answer_at_end : (known : Answers) (f : BtfFeature) (b : Bool) → answer_to known f ≡ None → answer_to (known ++ (f, b) ∷ []) f ≡ Some b
answer_at_end [] f b h = rw (same_itself f) refl
answer_at_end (a ∷ known) f b h =
    (elim (is_same a.0 f) as (λ t. cond t (Some a.1) (answer_to known f) ≡ None → cond t (Some a.1) (answer_to (known ++ (f, b) ∷ []) f) ≡ Some b) [
      | true ↦ λ h. cc
      | false ↦ λ h. answer_at_end known f b h
    ]) h

pub settled_new : (known : Answers) (f : BtfFeature) (b : Bool) → answer_to known f ≡ None → Settles (known ++ (f, b) ∷ []) f b
settled_new known f b h = settled_known (known ++ (f, b) ∷ []) f b (answer_at_end known f b h)

-- ---- Queries

asked_before : (known : Answers) (f : BtfFeature) (b : Bool) → answer_to known f ≡ Some b → list_any (λ x. is_same x f) (features known) ≡ true
asked_before [] f b h = cc
asked_before (a ∷ known) f b h =
    (elim (is_same a.0 f) as (λ t. cond t (Some a.1) (answer_to known f) ≡ Some b → (t || list_any (λ x. is_same x f) (features known)) ≡ true) [
      | true ↦ λ h. refl
      | false ↦ λ h. asked_before known f b h
    ]) h

not_asked : (known : Answers) (f : BtfFeature) → answer_to known f ≡ None → list_any (λ x. is_same x f) (features known) ≡ false
not_asked [] f h = refl
not_asked (a ∷ known) f h =
    (elim (is_same a.0 f) as (λ t. cond t (Some a.1) (answer_to known f) ≡ None → (t || list_any (λ x. is_same x f) (features known)) ≡ false) [
      | true ↦ λ h. cc
      | false ↦ λ h. not_asked known f h
    ]) h

pub noted_known : (known : Answers) (f : BtfFeature) (b : Bool) → answer_to known f ≡ Some b → features known ≡ noted (features known) f
noted_known known f b h = rw (asked_before known f b h) refl

features_more : (known : Answers) (f : BtfFeature) (b : Bool) → features (known ++ (f, b) ∷ []) ≡ features known ++ f ∷ []
features_more [] f b = refl
features_more (a ∷ known) f b = ap (λ fs. a.0 ∷ fs) (features_more known f b)

pub noted_new : (known : Answers) (f : BtfFeature) (b : Bool) → answer_to known f ≡ None → features (known ++ (f, b) ∷ []) ≡ noted (features known) f
noted_new known f b h = rw (not_asked known f h) (features_more known f b)

-- ---- Features without duplicates: eight answers are enough

times_more : (f g : BtfFeature) (fs : List BtfFeature) → times f (fs ++ g ∷ []) ≡ times f fs + cond (is_same g f) 1 0
times_more f g [] = omega arith
times_more f g (x ∷ fs) = omega (arith, times_more f g fs)

times_none : (f : BtfFeature) (fs : List BtfFeature) → list_any (λ x. is_same x f) fs ≡ false → times f fs ≡ 0
times_none f [] h = refl
times_none f (x ∷ fs) h =
    (elim (is_same x f) as (λ t. (t || list_any (λ y. is_same y f) fs) ≡ false → cond t 1 0 + times f fs ≡ 0) [
      | true ↦ λ h. cc
      | false ↦ λ h. omega (arith, times_none f fs h)
    ]) h

pub room_for_one : (known : Answers) (f : BtfFeature) → AreDistinct (features known) → answer_to known f ≡ None → length known < 8
room_for_one known f d h = subst (λ n. n < 8) (length_features known) (has_room f (features known) d (times_none f (features known) (not_asked known f h)))

distinct_with : (f : BtfFeature) (fs : List BtfFeature) → AreDistinct fs → times f fs ≡ 0 → AreDistinct (fs ++ f ∷ [])
distinct_with f fs d z = record {
  once = λ g.
      rw (times_more g f fs) (
      (elim (is_same f g) as (λ t. (t ≡ true → f ≡ g) → times g fs + cond t 1 0 ≤ 1) [
        | true ↦ λ e. let k : times g fs ≡ 0 = rw (← e refl) z in omega arith
        | false ↦ λ e. let k : times g fs ≤ 1 = d.once g in omega arith
      ]) (same_is f g));
}

pub distinct_new : (known : Answers) (f : BtfFeature) (b : Bool) → AreDistinct (features known) → answer_to known f ≡ None → AreDistinct (features (known ++ (f, b) ∷ []))
distinct_new known f b d h =
    subst AreDistinct (sym (features_more known f b)) (distinct_with f (features known) d (times_none f (features known) (not_asked known f h)))

pub distinct_none : AreDistinct []
distinct_none = record { once = λ f. omega arith }

-- ---- Answers of calls, followed by other answers

folds_then : {P A : Type 0} (R : P → A → P → Type 0) (p : P) (xs ys : List A) (q r : P) → FoldsTo R p xs q → FoldsTo R q ys r → FoldsTo R p (xs ++ ys) r
folds_then R p [] ys q r h k = subst (λ s. FoldsTo R s ys r) (sym h) k
folds_then R p (x ∷ xs) ys q r h k = (h.0, h.1, folds_then R h.0 xs ys q r h.2 k)

pub given_then : {F : Type 0} (predicate : Mut F (BtfFeature × Unit {0}) Bool) (p q r : F) (old mid new : Answers) → AreGiven predicate p old mid q → AreGiven predicate q mid new r → AreGiven predicate p old new r
given_then predicate p q r old mid new h k = record {
  more = h.more ++ k.more;
  appended = k.appended ∙ (ap (λ a. a ++ k.more) h.appended ∙ append_assoc old h.more k.more);
  called = folds_then _ p h.more k.more q r h.called k.called;
}

append_none : {A : Type 0} (xs : List A) → xs ++ [] ≡ xs
append_none [] = refl
append_none (x ∷ xs) = ap (λ ys. x ∷ ys) (append_none xs)

pub given_none : {F : Type 0} (predicate : Mut F (BtfFeature × Unit {0}) Bool) (p : F) (known : Answers) → AreGiven predicate p known known p
given_none predicate p known = record { more = []; appended = sym (append_none known); called = refl }

-- A feature that is settled stays settled after more answers.
pub settled_then : {F : Type 0} (predicate : Mut F (BtfFeature × Unit {0}) Bool) (p q : F) (mid new : Answers) (f : BtfFeature) (b : Bool) → AreGiven predicate p mid new q → Settles mid f b → Settles new f b
settled_then predicate p q mid new f b h s = record { always = λ later. rw (h.appended, append_assoc) (s.always (h.more ++ later)) }
