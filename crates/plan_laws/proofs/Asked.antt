-- Answers that depend on the feature alone are determined by the features that a table needs.
use Rattle.std.proofs.Common.{◌≡◌, ℕ, ◌==◌, ◌||◌, ◌&&◌, Bool, true, false, cond, List, [], ◌∷◌, ◌++◌, Some, refl, sym, ap, ap₂, ◌∙◌, subst, flat_map, if◌then◌else◌, arith}
use Rattle.std.specs.List.{list_any}
use Rattle.std.specs.Option.{unwrap_or}
use Rattle.btf_records.specs.declared.feature.BtfFeature.{BtfFeature}
use Rattle.btf_records.specs.declared.feature.BtfFeature.TheVariants.{Func, FuncGlobal, DataSec, DataSecZero, Float, DeclTag, TypeTag, Enum64}
use Rattle.btf_records.specs.Fields.{kind_of_type, name_offset_of}
use Rattle.btf_records.specs.declared.kind.BtfKind.{BtfKind}
use Rattle.btf_records.specs.declared.kind.BtfKind.TheVariants as kinds
use Rattle.btf_records.specs.declared.types.BtfType.{BtfType}
use Rattle.btf_encoding.specs.Records.{count_of}
use Rattle.btf_sanitize.specs.Answers.{Answers, answer_to, features, granted, is_same, noted, noted_all, feature_number}
use Rattle.btf_sanitize.specs.Needs.{AreQuestions, is_empty_section, needs_as, needs_of, stays_global}
use Rattle.string_table.specs.Texts.{text_at}
use Rattle.load_plan.specs.Known.{GoByFeature}

-- Features by their numbers.

feature_at : ℕ → BtfFeature
feature_at n =
    cond (n == 0) Func (cond (n == 1) FuncGlobal
    (cond (n == 2) DataSec
    (cond (n == 3) DataSecZero (cond (n == 4) Float (cond (n == 5) DeclTag (cond (n == 6) TypeTag Enum64))))))

at-place : (f : BtfFeature) → feature_at (feature_number f) ≡ f
unfolding feature_at
at-place Func = refl
at-place FuncGlobal = refl
at-place DataSec = refl
at-place DataSecZero = refl
at-place Float = refl
at-place DeclTag = refl
at-place TypeTag = refl
at-place Enum64 = refl

same-feature : (f g : BtfFeature) → is_same f g ≡ true → f ≡ g
same-feature f g same =
    let place : feature_number f ≡ feature_number g = grind arith in
    sym (at-place f) ∙ ap feature_at place ∙ at-place g

abbrev is_among : List BtfFeature → BtfFeature → Bool
is_among fs f = list_any (λ x. is_same x f) fs

among-both : (xs ys : List BtfFeature) (f : BtfFeature) → is_among (xs ++ ys) f ≡ (is_among xs f || is_among ys f)
among-both [] ys f = refl
among-both (x ∷ xs) ys f = by (is_same x f) (among-both xs ys f) where
  by : (t : Bool) → is_among (xs ++ ys) f ≡ (is_among xs f || is_among ys f)
      → (t || is_among (xs ++ ys) f) ≡ ((t || is_among xs f) || is_among ys f)
  by true rest = refl
  by false rest = rest

or-left : (a b : Bool) → a ≡ true → (a || b) ≡ true
or-left true b is = refl
or-left false b is = cc

or-right : (a b : Bool) → b ≡ true → (a || b) ≡ true
or-right true b is = refl
or-right false b is = is

-- Features that are noted.

noted-stays : (asked : List BtfFeature) (g f : BtfFeature) → is_among asked f ≡ true → is_among (noted asked g) f ≡ true
noted-stays asked g f there = by (is_among asked g) where
  by : (t : Bool) → is_among (if t then asked else asked ++ g ∷ []) f ≡ true
  by true = there
  by false = among-both asked (g ∷ []) f ∙ or-left (is_among asked f) (is_among (g ∷ []) f) there

is-itself : (f : BtfFeature) → is_same f f ≡ true
is-itself f = grind arith

noted-itself : (asked : List BtfFeature) (f : BtfFeature) → is_among (noted asked f) f ≡ true
noted-itself asked f = by (is_among asked f) refl where
  by : (t : Bool) → is_among asked f ≡ t → is_among (if t then asked else asked ++ f ∷ []) f ≡ true
  by true is = is
  by false is =
      among-both asked (f ∷ []) f
      ∙ or-right (is_among asked f) (is_among (f ∷ []) f) (or-left (is_same f f) false (is-itself f))

all-stay : (asked fs : List BtfFeature) (f : BtfFeature) → is_among asked f ≡ true
    → is_among (noted_all asked fs) f ≡ true
all-stay asked [] f there = there
all-stay asked (g ∷ gs) f there = all-stay (noted asked g) gs f (noted-stays asked g f there)

all-noted : (asked fs : List BtfFeature) (f : BtfFeature) → is_among fs f ≡ true
    → is_among (noted_all asked fs) f ≡ true
all-noted asked [] f there = cc
all-noted asked (g ∷ gs) f there = by (is_same g f) refl there (all-noted (noted asked g) gs f) where
  by : (t : Bool) → is_same g f ≡ t → (t || is_among gs f) ≡ true
      → (is_among gs f ≡ true → is_among (noted_all (noted asked g) gs) f ≡ true)
      → is_among (noted_all (noted asked g) gs) f ≡ true
  by true is there rest =
      all-stay (noted asked g) gs f
      (subst (λ (x : BtfFeature). is_among (noted asked g) x ≡ true) (same-feature g f is) (noted-itself asked g))
  by false is there rest = rest there

-- The answer to a question is the one that its feature has.

answered : (grants : BtfFeature → Bool) (answers : Answers) (f : BtfFeature) → GoByFeature grants answers
    → is_among (features answers) f ≡ true → granted answers f ≡ grants f
answered grants [] f goes there = cc
answered grants (a ∷ others) f goes there = by (is_same a.0 f) refl there (answered grants others f goes.1) where
  by : (t : Bool) → is_same a.0 f ≡ t → (t || is_among (features others) f) ≡ true
      → (is_among (features others) f ≡ true → granted others f ≡ grants f)
      → unwrap_or (if t then Some a.1 else answer_to others f) false ≡ grants f
  by true is there rest = goes.0 ∙ ap grants (same-feature a.0 f is)
  by false is there rest = rest there

-- The answers agree with the granted features, for the features that a record needs.
abbrev Agree : (BtfFeature → Bool) → (BtfFeature → Bool) → List BtfFeature → Type 0
Agree given grants needs = (f : BtfFeature) → is_among needs f ≡ true → given f ≡ grants f

need-same : (kind : BtfKind) (given grants : BtfFeature → Bool) (strings : List ℕ) (t : BtfType)
    → Agree given grants (needs_as kind given strings t)
    → needs_as kind given strings t ≡ needs_as kind grants strings t
need-same kinds.Func given grants strings t agree =
    ap (λ (b : Bool). Func ∷ (if b && stays_global (text_at strings (name_offset_of t))
    (count_of t) then FuncGlobal ∷ [] else [])) (agree Func refl)
need-same kinds.DataSec given grants strings t agree =
    ap (λ (b : Bool). DataSec ∷ (if b && is_empty_section t then DataSecZero ∷ [] else [])) (agree DataSec refl)
need-same _ given grants strings t agree = refl

needs-same : (given grants : BtfFeature → Bool) (strings : List ℕ) (ts : List BtfType)
    → Agree given grants (flat_map (needs_of given strings) ts)
    → flat_map (needs_of given strings) ts ≡ flat_map (needs_of grants strings) ts
needs-same given grants strings [] agree = refl
needs-same given grants strings (t ∷ ts) agree =
    let here =
    λ (f : BtfFeature) (there : is_among (needs_of given strings t) f ≡ true). agree f
    (among-both (needs_of given strings t) (flat_map (needs_of given strings) ts) f
    ∙ or-left (is_among (needs_of given strings t) f) (is_among (flat_map (needs_of given strings) ts) f) there) in
    let after =
    λ (f : BtfFeature) (there : is_among (flat_map (needs_of given strings) ts) f ≡ true). agree f
    (among-both (needs_of given strings t) (flat_map (needs_of given strings) ts) f
    ∙ or-right (is_among (needs_of given strings t) f) (is_among (flat_map (needs_of given strings) ts) f) there) in
    ap₂ (λ (xs ys : List BtfFeature). xs ++ ys) (need-same (kind_of_type t) given grants strings t here)
    (needs-same given grants strings ts after)

-- The questions are the same, and so are the answers.

questions-known : (grants : BtfFeature → Bool) (strings : List ℕ) (ts : List BtfType) (answers : Answers)
    → GoByFeature grants answers → AreQuestions strings ts answers
    → features answers ≡ noted_all [] (flat_map (needs_of grants strings) ts)
questions-known grants strings ts answers goes questions =
    let agree =
    λ (f : BtfFeature) (there : is_among (flat_map (needs_of (granted answers) strings) ts) f ≡ true). answered grants
    answers f goes (ap (λ (fs : List BtfFeature). is_among fs f) questions.asked
    ∙ all-noted [] (flat_map (needs_of (granted answers) strings) ts) f there) in
    questions.asked ∙ ap (noted_all []) (needs-same (granted answers) grants strings ts agree)

answers-same : (grants : BtfFeature → Bool) (a b : Answers) → GoByFeature grants a → GoByFeature grants b
    → features a ≡ features b → a ≡ b
answers-same grants [] [] one two same = refl
answers-same grants [] (y ∷ ys) one two same = absurd (cc)
answers-same grants (x ∷ xs) [] one two same = absurd (cc)
answers-same grants (x ∷ xs) (y ∷ ys) one two same =
    let first : x.0 ≡ y.0 = cc in
    let rest : features xs ≡ features ys = cc in
    let value : x.1 ≡ y.1 = one.0 ∙ ap grants first ∙ sym two.0 in
    ap₂ (λ (f : BtfFeature) (b : Bool). (f, b) ∷ xs) first value
    ∙ ap (λ (zs : Answers). y ∷ zs) (answers-same grants xs ys one.1 two.1 rest)

pub asked-same : (grants : BtfFeature → Bool) (strings : List ℕ) (ts : List BtfType) (a b : Answers)
    → GoByFeature grants a → GoByFeature grants b → AreQuestions strings ts a → AreQuestions strings ts b → a ≡ b
asked-same grants strings ts a b one two first second =
    answers-same grants a b one two
    (questions-known grants strings ts a one first ∙ sym (questions-known grants strings ts b two second))
