-- The queries of features for records, one record after the other.
use Rattle.std.proofs.Common.{◌≡◌, ℕ, ◌+◌, Bool, List, [], ◌∷◌, ◌++◌, Some, None, take, refl, ap, sym, ◌∙◌, subst, append-nil, append_assoc}
use Rattle.std.specs.Prelude.{flat_map}
use Rattle.std.specs.Fn.{Mut}
use Rattle.std.specs.List.{slice_get}
use Rattle.std.proofs.lemmas.Grind.{flat_map-append}
use Rattle.std.proofs.lemmas.List.{take_all, take_more}
use Rattle.std.proofs.lemmas.Option.{get_or_from_slice_get, slice_get_within}
use Rattle.btf_records.specs.declared.feature.BtfFeature.{BtfFeature}
use Rattle.btf_records.specs.declared.types.BtfType.{BtfType}
use Rattle.btf_sanitize.specs.Answers.{Answers, AreGiven, features, granted, noted, noted_all}
use Rattle.btf_sanitize.specs.Needs.{AreQuestions, AreQuestionsSoFar, AsksFor, needs_of}
use Rattle.btf_storage.proofs.Left.{past_length}

pub none_asked : (strings : List ℕ) → AreQuestionsSoFar strings [] []
none_asked strings = record { asked = λ later. refl }

noted_then : (asked fs gs : List BtfFeature) → noted_all asked (fs ++ gs) ≡ noted_all (noted_all asked fs) gs
noted_then asked [] gs = refl
noted_then asked (f ∷ fs) gs = noted_then (noted asked f) fs gs

needs_then : (g : BtfFeature → Bool) (strings : List ℕ) (ts : List BtfType) (t : BtfType) → flat_map (needs_of g strings) (ts ++ t ∷ []) ≡ flat_map (needs_of g strings) ts ++ needs_of g strings t
needs_then g strings ts t = flat_map-append (needs_of g strings) ts (t ∷ []) ∙ ap (λ l. flat_map (needs_of g strings) ts ++ l) (append-nil (needs_of g strings t))

pub one_more_asked : {F : Type 0} (predicate : Mut F (BtfFeature × Unit {0}) Bool) (p q : F) (strings : List ℕ) (types : List BtfType) (i : ℕ) (t : BtfType) (old new : Answers) → AreQuestionsSoFar strings (take i types) old → slice_get types i ≡ Some t → AreGiven predicate p old new q → AsksFor strings t old new → AreQuestionsSoFar strings (take (i + 1) types) new
one_more_asked predicate p q strings types i t old new before here given more = record {
  asked = λ later.
      let g = granted (new ++ later) in
      let same : new ++ later ≡ old ++ (given.more ++ later) = ap (λ xs. xs ++ later) given.appended ∙ append_assoc old given.more later in
      let so_far : features old ≡ noted_all [] (flat_map (needs_of g strings) (take i types)) = subst (λ xs. features old ≡ noted_all [] (flat_map (needs_of (granted xs) strings) (take i types))) (sym same) (before.asked (given.more ++ later)) in
      let last : take (i + 1) types ≡ take i types ++ t ∷ [] = take_more types i t (slice_get_within types i t here) ∙ ap (λ x. take i types ++ x ∷ []) (get_or_from_slice_get types i t t here) in
      more.asked later ∙ (ap (λ xs. noted_all xs (needs_of g strings t)) so_far
      ∙ (sym (noted_then [] (flat_map (needs_of g strings) (take i types)) (needs_of g strings t)) ∙ (ap (noted_all []) (sym (needs_then g strings (take i types) t)) ∙ ap (λ ts. noted_all [] (flat_map (needs_of g strings) ts)) (sym last))));
}

pub all_asked : (strings : List ℕ) (types : List BtfType) (i : ℕ) (answers : Answers) → AreQuestionsSoFar strings (take i types) answers → slice_get types i ≡ None → AreQuestions strings types answers
all_asked strings types i answers h past = record {
  asked = subst (λ xs. features answers ≡ noted_all [] (flat_map (needs_of (granted xs) strings) types)) (append-nil answers) (subst (λ ts. features answers ≡ noted_all [] (flat_map (needs_of (granted (answers ++ [])) strings) ts)) (take_all i types (past_length types i past)) (h.asked []));
}
