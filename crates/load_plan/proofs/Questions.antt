-- For each choice of features there are answers to the questions of a table.
use Rattle.std.proofs.Common.{◌≡◌, ℕ, zero, suc, ◌+◌, ◌≤◌, Bool, true, false, ◌||◌, ◌&&◌, List, [], ◌∷◌, ◌++◌, Some, refl, sym, ap, ◌∙◌, subst, arith, flat_map, map}
use Rattle.std.specs.List.{list_any}
use Rattle.std.specs.Prelude.{if◌then◌else◌, unwrap_or}
use Rattle.std.proofs.lemmas.Bool.Decides.{nat_tests}
use Rattle.string_table.specs.Texts.{text_at}
use Rattle.btf_encoding.specs.Records.{count_of}
use Rattle.btf_records.specs.Fields.{kind_of_type, name_offset_of}
use Rattle.btf_records.specs.declared.feature.BtfFeature.{BtfFeature}
use Rattle.btf_records.specs.declared.feature.BtfFeature.TheVariants.{Func, FuncGlobal, DataSec, DataSecZero, Float, DeclTag, TypeTag, Enum64}
use Rattle.btf_records.specs.declared.kind.BtfKind.{BtfKind}
use Rattle.btf_records.specs.declared.kind.BtfKind.TheVariants as kinds
use Rattle.btf_records.specs.declared.types.BtfType.{BtfType}
use Rattle.btf_sanitize.specs.Answers.{Answers, AreDistinct, answer_to, feature_number, features, granted, is_same, noted, noted_all, times}
use Rattle.btf_sanitize.specs.Needs.{AreQuestions, needs_as, needs_of, is_empty_section, stays_global}
use Rattle.load_plan.specs.Inputs.{GoByFeature}

-- The feature of a number.
abbrev feature_at : ℕ → BtfFeature
feature_at zero = Func
feature_at (suc zero) = FuncGlobal
feature_at (suc (suc zero)) = DataSec
feature_at (suc (suc (suc zero))) = DataSecZero
feature_at (suc (suc (suc (suc zero)))) = Float
feature_at (suc (suc (suc (suc (suc zero))))) = DeclTag
feature_at (suc (suc (suc (suc (suc (suc zero)))))) = TypeTag
feature_at (suc (suc (suc (suc (suc (suc (suc n))))))) = Enum64

feature_back : (f : BtfFeature) → feature_at (feature_number f) ≡ f
feature_back Func = refl
feature_back FuncGlobal = refl
feature_back DataSec = refl
feature_back DataSecZero = refl
feature_back Float = refl
feature_back DeclTag = refl
feature_back TypeTag = refl
feature_back Enum64 = refl

same_feature : (f g : BtfFeature) → is_same f g ≡ true → f ≡ g
same_feature f g same =
    let numbers : feature_number f ≡ feature_number g = grind (arith, nat_tests, same) in
    sym (feature_back f) ∙ (ap feature_at numbers ∙ feature_back g)

same_itself : (f : BtfFeature) → is_same f f ≡ true
same_itself f = grind (arith, nat_tests)

-- The answers that a choice of features gives to some questions.

abbrev answered : (BtfFeature → Bool) → List BtfFeature → Answers
answered grants fs = map (λ f. (f, grants f)) fs

features_answered : (grants : BtfFeature → Bool) (fs : List BtfFeature) → features (answered grants fs) ≡ fs
features_answered grants [] = refl
features_answered grants (f ∷ fs) = ap (λ (rest : List BtfFeature). f ∷ rest) (features_answered grants fs)

goes_by : (grants : BtfFeature → Bool) (fs : List BtfFeature) → GoByFeature grants (answered grants fs)
goes_by grants [] = tt
goes_by grants (f ∷ fs) = (refl, goes_by grants fs)

abbrev has : BtfFeature → List BtfFeature → Bool
has f fs = list_any (λ x. is_same x f) fs

granted_in : (grants : BtfFeature → Bool) (fs : List BtfFeature) (f : BtfFeature) → has f fs ≡ true → granted (answered grants fs) f ≡ grants f
granted_in grants [] f there = absurd cc
granted_in grants (x ∷ xs) f there = by (is_same x f) refl there (granted_in grants xs f) where
  by : (t : Bool) → is_same x f ≡ t → (t || has f xs) ≡ true → (has f xs ≡ true → granted (answered grants xs) f ≡ grants f)
      → unwrap_or (if t then Some (grants x) else answer_to (answered grants xs) f) false ≡ grants f
  by true is h rest = ap grants (same_feature x f is)
  by false is h rest = rest h

-- The questions in order of need, each once.

or_true : (a : Bool) → (a || true) ≡ true
or_true true = refl
or_true false = refl

has_more : (f : BtfFeature) (fs gs : List BtfFeature) → has f fs ≡ true → has f (fs ++ gs) ≡ true
has_more f [] gs there = absurd cc
has_more f (x ∷ xs) gs there = by (is_same x f) there (has_more f xs gs) where
  by : (t : Bool) → (t || has f xs) ≡ true → (has f xs ≡ true → has f (xs ++ gs) ≡ true) → (t || has f (xs ++ gs)) ≡ true
  by true h rest = refl
  by false h rest = rest h

has_last : (f : BtfFeature) (fs : List BtfFeature) → has f (fs ++ f ∷ []) ≡ true
has_last f [] = rw (same_itself f) refl
has_last f (x ∷ xs) = rw (has_last f xs) (or_true (is_same x f))

has_noted : (fs : List BtfFeature) (f : BtfFeature) → has f (noted fs f) ≡ true
has_noted fs f = by (has f fs) refl where
  by : (t : Bool) → has f fs ≡ t → has f (if t then fs else fs ++ f ∷ []) ≡ true
  by true is = is
  by false is = has_last f fs

stays_noted : (g : BtfFeature) (fs : List BtfFeature) (f : BtfFeature) → has g fs ≡ true → has g (noted fs f) ≡ true
stays_noted g fs f there = by (has f fs) where
  by : (t : Bool) → has g (if t then fs else fs ++ f ∷ []) ≡ true
  by true = there
  by false = has_more g fs (f ∷ []) there

stays_noted_all : (g : BtfFeature) (fs more : List BtfFeature) → has g fs ≡ true → has g (noted_all fs more) ≡ true
stays_noted_all g fs [] there = there
stays_noted_all g fs (f ∷ more) there = stays_noted_all g (noted fs f) more (stays_noted g fs f there)

has_noted_all : (g : BtfFeature) (fs more : List BtfFeature) → has g more ≡ true → has g (noted_all fs more) ≡ true
has_noted_all g fs [] there = absurd cc
has_noted_all g fs (f ∷ more) there = by (is_same f g) refl there (has_noted_all g (noted fs f) more) where
  by : (t : Bool) → is_same f g ≡ t → (t || has g more) ≡ true → (has g more ≡ true → has g (noted_all (noted fs f) more) ≡ true) → has g (noted_all (noted fs f) more) ≡ true
  by true is h rest =
      stays_noted_all g (noted fs f) more (subst (λ (x : BtfFeature). has x (noted fs f) ≡ true) (same_feature f g is) (has_noted fs f))
  by false is h rest = rest h

-- No question is asked twice.

absent : (f : BtfFeature) (fs : List BtfFeature) → has f fs ≡ false → times f fs ≡ 0
absent f [] none = refl
absent f (x ∷ xs) none = by (is_same x f) none (absent f xs) where
  by : (t : Bool) → (t || has f xs) ≡ false → (has f xs ≡ false → times f xs ≡ 0) → (if t then 1 else 0) + times f xs ≡ 0
  by true h rest = absurd cc
  by false h rest = let none = rest h in omega (arith, none)

times_last : (g : BtfFeature) (fs : List BtfFeature) (f : BtfFeature) → times g (fs ++ f ∷ []) ≡ times g fs + (if is_same f g then 1 else 0)
times_last g [] f = omega arith
times_last g (x ∷ xs) f = let rest = times_last g xs f in omega (arith, rest)

distinct_last : (fs : List BtfFeature) (f : BtfFeature) → has f fs ≡ false → AreDistinct fs → AreDistinct (fs ++ f ∷ [])
distinct_last fs f none distinct = record { once = λ g. by g (is_same f g) refl } where
  by : (g : BtfFeature) (t : Bool) → is_same f g ≡ t → times g (fs ++ f ∷ []) ≤ 1
  by g true is =
      let zero_times : times g fs ≡ 0 = subst (λ (x : BtfFeature). times x fs ≡ 0) (same_feature f g is) (absent f fs none) in
      let last : times g (fs ++ f ∷ []) ≡ times g fs + 1 = times_last g fs f ∙ ap (λ (t : Bool). times g fs + (if t then 1 else 0)) is in
      omega (arith, last, zero_times)
  by g false is =
      let last : times g (fs ++ f ∷ []) ≡ times g fs + 0 = times_last g fs f ∙ ap (λ (t : Bool). times g fs + (if t then 1 else 0)) is in
      let once : times g fs ≤ 1 = distinct.once g in
      omega (arith, last, once)

distinct_noted : (fs : List BtfFeature) (f : BtfFeature) → AreDistinct fs → AreDistinct (noted fs f)
distinct_noted fs f distinct = by (has f fs) refl where
  by : (t : Bool) → has f fs ≡ t → AreDistinct (if t then fs else fs ++ f ∷ [])
  by true is = distinct
  by false is = distinct_last fs f is distinct

distinct_all : (fs more : List BtfFeature) → AreDistinct fs → AreDistinct (noted_all fs more)
distinct_all fs [] distinct = distinct
distinct_all fs (f ∷ more) distinct = distinct_all (noted fs f) more (distinct_noted fs f distinct)

-- The needs of a record depend on the features that it needs.

abbrev AgreeOnNeeds : (BtfFeature → Bool) → (BtfFeature → Bool) → List BtfFeature → Type 0
AgreeOnNeeds one other fs = (f : BtfFeature) → has f fs ≡ true → one f ≡ other f

needs_same : (one other : BtfFeature → Bool) (strings : List ℕ) (t : BtfType) (kind : BtfKind) → AgreeOnNeeds one other (needs_as kind other strings t) → needs_as kind one strings t ≡ needs_as kind other strings t
needs_same one other strings t kinds.Func agree =
    ap (λ (b : Bool). Func ∷ (if b && stays_global (text_at strings (name_offset_of t)) (count_of t) then FuncGlobal ∷ [] else [])) (agree Func refl)
needs_same one other strings t kinds.DataSec agree =
    ap (λ (b : Bool). DataSec ∷ (if b && is_empty_section t then DataSecZero ∷ [] else [])) (agree DataSec refl)
needs_same one other strings t kinds.Unknown agree = refl
needs_same one other strings t kinds.Int agree = refl
needs_same one other strings t kinds.Ptr agree = refl
needs_same one other strings t kinds.Array agree = refl
needs_same one other strings t kinds.Struct agree = refl
needs_same one other strings t kinds.Union agree = refl
needs_same one other strings t kinds.Enum agree = refl
needs_same one other strings t kinds.Fwd agree = refl
needs_same one other strings t kinds.Typedef agree = refl
needs_same one other strings t kinds.Volatile agree = refl
needs_same one other strings t kinds.Const agree = refl
needs_same one other strings t kinds.Restrict agree = refl
needs_same one other strings t kinds.FuncProto agree = refl
needs_same one other strings t kinds.Var agree = refl
needs_same one other strings t kinds.Float agree = refl
needs_same one other strings t kinds.DeclTag agree = refl
needs_same one other strings t kinds.TypeTag agree = refl
needs_same one other strings t kinds.Enum64 agree = refl

has_later : (f : BtfFeature) (fs gs : List BtfFeature) → has f gs ≡ true → has f (fs ++ gs) ≡ true
has_later f [] gs there = there
has_later f (x ∷ xs) gs there = rw (has_later f xs gs there) (or_true (is_same x f))

all_needs_same : (one other : BtfFeature → Bool) (strings : List ℕ) (ts : List BtfType) → AgreeOnNeeds one other (flat_map (needs_of other strings) ts) → flat_map (needs_of one strings) ts ≡ flat_map (needs_of other strings) ts
all_needs_same one other strings [] agree = refl
all_needs_same one other strings (t ∷ ts) agree =
    let here = needs_same one other strings t (kind_of_type t) (λ f there. agree f (has_more f (needs_of other strings t) (flat_map (needs_of other strings) ts) there)) in
    let rest = all_needs_same one other strings ts (λ f there. agree f (has_later f (needs_of other strings t) (flat_map (needs_of other strings) ts) there)) in
    ap (λ (fs : List BtfFeature). fs ++ flat_map (needs_of one strings) ts) here ∙ ap (λ (fs : List BtfFeature). needs_of other strings t ++ fs) rest

-- The answers to all questions of a table.
pub record Answered (grants : BtfFeature → Bool) (strings : List ℕ) (types : List BtfType) : Type 0 where
  pub answers : Answers
  pub goes : GoByFeature grants answers
  pub questions : AreQuestions strings types answers
  pub once : AreDistinct (features answers)

pub answers_to_all : (grants : BtfFeature → Bool) (strings : List ℕ) (types : List BtfType) → Answered grants strings types
answers_to_all grants strings types =
    let needs = flat_map (needs_of grants strings) types in
    let fs = noted_all [] needs in
    let agree : AgreeOnNeeds (granted (answered grants fs)) grants needs = λ f there. granted_in grants fs f (has_noted_all f [] needs there) in
    let same = all_needs_same (granted (answered grants fs)) grants strings types agree in
    let asked = features_answered grants fs in
    record {
      answers = answered grants fs;
      goes = goes_by grants fs;
      questions = record { asked = asked ∙ ap (λ (l : List BtfFeature). noted_all [] l) (sym same) };
      once = subst AreDistinct (sym asked) (distinct_all [] needs (record { once = λ f. omega arith }));
    }
