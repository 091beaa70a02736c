-- Queries of features, each with its answer.
use Rattle.std.specs.Prelude.{◌≡◌, ℕ, Bool, false, ◌+◌, ◌≤◌, ◌==◌, if◌then◌else◌, List, [], ◌∷◌, ◌++◌, map, Option, Some, None, unwrap_or}
use Rattle.std.specs.List.{FoldsTo, list_any}
use Rattle.std.specs.Fn.{Mut, Called}
use Rattle.btf_records.specs.declared.feature.BtfFeature.{BtfFeature}
use Rattle.btf_records.specs.declared.feature.BtfFeature.TheVariants.{Func, FuncGlobal, DataSec, DataSecZero, Float, DeclTag, TypeTag, Enum64}

abbrev pub Answers : Type 0
Answers = List (BtfFeature × Bool)

-- The index of a feature in the list of features.
abbrev pub feature_number : BtfFeature → ℕ
feature_number Func = 0
feature_number FuncGlobal = 1
feature_number DataSec = 2
feature_number DataSecZero = 3
feature_number Float = 4
feature_number DeclTag = 5
feature_number TypeTag = 6
feature_number Enum64 = 7

abbrev pub is_same : BtfFeature → BtfFeature → Bool
is_same f g = feature_number f == feature_number g

-- The answer about a feature, if it was queried.
abbrev pub answer_to : Answers → BtfFeature → Option Bool
answer_to [] f = None
answer_to (a ∷ others) f = if is_same a.0 f then Some a.1 else answer_to others f

-- Whether a feature is granted. A feature that wasn't queried isn't granted.
abbrev pub granted : Answers → BtfFeature → Bool
granted answers f = unwrap_or (answer_to answers f) false

abbrev pub features : Answers → List BtfFeature
features = map (λ a. a.0)

-- The queried features, with this one appended if it isn't among them.
abbrev pub noted : List BtfFeature → BtfFeature → List BtfFeature
noted asked f = if list_any (λ x. is_same x f) asked then asked else asked ++ f ∷ []

abbrev pub noted_all : List BtfFeature → List BtfFeature → List BtfFeature
noted_all asked [] = asked
noted_all asked (f ∷ fs) = noted_all (noted asked f) fs

-- The number of occurrences of a feature in a list.
abbrev pub times : BtfFeature → List BtfFeature → ℕ
times f [] = 0
times f (x ∷ xs) = (if is_same x f then 1 else 0) + times f xs

-- No feature occurs twice.
pub record AreDistinct (fs : List BtfFeature) : Type 0 where
  pub once : (f : BtfFeature) → times f fs ≤ 1

-- The answers after the old ones are the results of calls of the predicate, in order, from one of
-- its states to another.
pub record AreGiven {F : Type 0} (predicate : Mut F (BtfFeature × Unit {0}) Bool) (before : F)
    (old new : Answers) (after : F) : Type 0 where
  pub more : Answers
  pub appended : new ≡ old ++ more
  pub called : FoldsTo (λ s a t. Called predicate s (a.0, tt) a.1 t) before more after

-- The answer about the feature is settled, whatever is queried later.
pub record Settles (answers : Answers) (f : BtfFeature) (b : Bool) : Type 0 where
  pub always : (later : Answers) → granted (answers ++ later) f ≡ b
