-- Passes that are made one after another.
use Rattle.std.proofs.Common.{◌≡◌, inl, inr, Bool, true, false, List, [], ◌∷◌, ◌++◌, Option, refl, sym, ap, ◌∙◌, subst}
use Rattle.std.specs.List.{AllByRecursion}
use Rattle.btf_tables.specs.Tables.{Table}
use Rattle.linker.specs.Theorems.{LayoutIsUnique}
use Rattle.load_plan.specs.Inputs.{Inputs, State, Under}
use Rattle.load_plan.specs.Passes.{ExternSlots, Helpers, Links, Made, Makes, MapSlots, Pass, Refused, Types, linking, patching}
use Rattle.plan_errors.specs.declared.error.PrepareError.{PrepareError}
use Rattle.load_plan.specs.declared.order.Order.{Order}
use Rattle.load_plan.specs.declared.order.Order.TheVariants.{RelocateFirst, RewriteFirst}
use Rattle.plan_laws.proofs.Parsed.{Rising}
use Rattle.plan_laws.proofs.Passes.{Agree, Needs, answers-same, makes-one, refuses-not, stays-rising}

pub made-rising : (i : Inputs) (u : Under) (ps : List Pass) (s t : State) → Rising s → Made ps i u s t → Rising t
made-rising i u [] s t rising made = subst Rising (sym made) rising
made-rising i u (p ∷ ps) s t rising made = made-rising i u ps made.0 t (stays-rising i u p s made.0 rising made.1) made.2

-- Passes in two parts.
pub made-parts : (i : Inputs) (u : Under) (ps qs : List Pass) (s t : State) → Made (ps ++ qs) i u s t
    → (m : State) × Made ps i u s m × Made qs i u m t
made-parts i u [] qs s t made = (s, refl, made)
made-parts i u (p ∷ ps) qs s t made =
    let rest = made-parts i u ps qs made.0 t made.2 in
    (rest.0, (made.0, made.1, rest.1), rest.2)

pub made-whole : (i : Inputs) (u : Under) (ps qs : List Pass) (s m t : State) → Made ps i u s m → Made qs i u m t
    → Made (ps ++ qs) i u s t
made-whole i u [] qs s m t one two = subst (λ (x : State). Made qs i u x t) one two
made-whole i u (p ∷ ps) qs s m t one two = (one.0, one.1, made-whole i u ps qs one.0 m t one.2 two)

-- The result of passes is unique.

pub made-one : (laws : LayoutIsUnique) (i : Inputs) (u v : Under) (ps : List Pass)
    → (s a b : State) → Rising s → AllByRecursion (λ p. Needs p u v) ps → Made ps i u s a → Made ps i v s b → a ≡ b
made-one laws i u v [] s a b rising needs one two = one ∙ sym two
made-one laws i u v (p ∷ ps) s a b rising needs one two =
    let same : two.0 ≡ one.0 = sym (makes-one laws i u v p s one.0 two.0 rising needs.0 one.1 two.1) in
    made-one laws i u v ps one.0 a b (stays-rising i u p s one.0 rising one.1) needs.1 one.2
    (subst (λ (m : State). Made ps i v m b) same two.2)

-- The answers agree as the passes before linking need.
pub patching-needs : (u v : Under) → Agree u v → (order : Order) → AllByRecursion (λ p. Needs p u v) (patching order)
patching-needs u v agree RelocateFirst = (tt, (tt, (tt, (tt, (tt, (tt, (agree, (tt, (tt, tt)))))))))
patching-needs u v agree RewriteFirst = (tt, (tt, (tt, (tt, (tt, (agree, (tt, (tt, (tt, tt)))))))))

-- The pass over types, for which the answers are the same.
abbrev pub is_types : Pass → Bool
is_types Types = true
is_types _ = false

abbrev pub has_types : List Pass → Bool
has_types [] = false
has_types (p ∷ ps) = elim (is_types p) as (λ _. Bool) [ true ↦ true | false ↦ has_types ps ]

answers-by : (i : Inputs) (u v : Under) (p : Pass) (s a b : State) → is_types p ≡ true → Needs p u v → Makes p i u s a
    → Makes p i v s b → u.answers ≡ v.answers
answers-by i u v Types s a b is needs one two =
    answers-same u v needs s.file s.externs.ksyms s.types a.types b.types one.types two.types
answers-by i u v _ s a b is needs one two = absurd (cc)

pub made-answers : (laws : LayoutIsUnique) (i : Inputs) (u v : Under) (ps : List Pass)
    → (s a b : State) → Rising s → AllByRecursion (λ p. Needs p u v) ps → Made ps i u s a → Made ps i v s b
    → has_types ps ≡ true → u.answers ≡ v.answers
made-answers laws i u v [] s a b rising needs one two there = absurd (cc)
made-answers laws i u v (p ∷ ps) s a b rising needs one two there =
    let same : two.0 ≡ one.0 = sym (makes-one laws i u v p s one.0 two.0 rising needs.0 one.1 two.1) in
    by (is_types p) refl there
    (made-answers laws i u v ps one.0 a b (stays-rising i u p s one.0 rising one.1) needs.1 one.2
    (subst (λ (m : State). Made ps i v m b) same two.2)) where
      by : (t : Bool) → is_types p ≡ t → elim t as (λ _. Bool) [ true ↦ true | false ↦ has_types ps ] ≡ true
          → (has_types ps ≡ true → u.answers ≡ v.answers) → u.answers ≡ v.answers
      by true is has rest = answers-by i u v p s one.0 two.0 is needs.0 one.1 two.1
      by false is has rest = rest has

-- None of these passes refuses.

-- All passes but the last.
abbrev pub NeedsBefore : Under → Under → List Pass → Type 0
NeedsBefore u v [] = Unit {0}
NeedsBefore u v (p ∷ []) = Unit {0}
NeedsBefore u v (p ∷ q ∷ ps) = Needs p u v × NeedsBefore u v (q ∷ ps)

pub made-not-refused : (laws : LayoutIsUnique) (i : Inputs) (u v : Under)
    → (agree : Agree u v) (ps : List Pass) (s t : State) (e : PrepareError) → Rising s → NeedsBefore u v ps
    → Made ps i u s t → Refused ps i v s e → ⊥
made-not-refused laws i u v agree [] s t e rising needs made refused = refused
made-not-refused laws i u v agree (p ∷ []) s t e rising needs made (inl refused) =
    refuses-not i u v agree p s made.0 e rising made.1 refused
made-not-refused laws i u v agree (p ∷ []) s t e rising needs made (inr after) = after.2
made-not-refused laws i u v agree (p ∷ q ∷ ps) s t e rising needs made (inl refused) =
    refuses-not i u v agree p s made.0 e rising made.1 refused
made-not-refused laws i u v agree (p ∷ q ∷ ps) s t e rising needs made (inr after) =
    let same : after.0 ≡ made.0 =
    sym (makes-one laws i u v p s made.0 after.0 rising needs.0 made.1 after.1) in
    made-not-refused laws i u v agree (q ∷ ps) made.0 t e (stays-rising i u p s made.0 rising made.1) needs.1 made.2
    (subst (λ (m : State). Refused (q ∷ ps) i v m e) same after.2)

pub passes-need : (u v : Under) → Agree u v → (order : Order) → NeedsBefore u v (patching order ++ linking)
passes-need u v agree RelocateFirst = (tt, (tt, (tt, (tt, (tt, (tt, (agree, (tt, (tt, (tt, tt))))))))))
passes-need u v agree RewriteFirst = (tt, (tt, (tt, (tt, (tt, (agree, (tt, (tt, (tt, (tt, tt))))))))))

-- The passes after the rewriting of types don't depend on types.

abbrev pub retyped : State → Option Table → State
retyped s types = record s { types = types }

-- A pass that doesn't depend on types.
abbrev pub IsBlind : Pass → Type 0
IsBlind MapSlots = Unit {0}
IsBlind ExternSlots = Unit {0}
IsBlind Links = Unit {0}
IsBlind Helpers = Unit {0}
IsBlind _ = ⊥

makes-blind : (i : Inputs) (u : Under) (types : Option Table) (p : Pass) (s t : State) → IsBlind p → Makes p i u s t
    → Makes p i u (retyped s types) (retyped t types)
makes-blind i u types MapSlots s t blind made =
    record { functions = made.functions; sound = made.sound; others = ap (λ (x : State). retyped x types) made.others }
makes-blind i u types ExternSlots s t blind made =
    record { functions = made.functions; sound = made.sound; others = ap (λ (x : State). retyped x types) made.others }
makes-blind i u types Links s t blind made =
    record { programs = made.programs; sound = made.sound; others = ap (λ (x : State). retyped x types) made.others }
makes-blind i u types Helpers s t blind made =
    record { asked = made.asked; functions = ap (λ (x : State). retyped x types) made.functions }
makes-blind i u types _ s t blind made = absurd blind

pub made-blind : (i : Inputs) (u : Under) (types : Option Table) (ps : List Pass) → AllByRecursion IsBlind ps
    → (s t : State) → Made ps i u s t → Made ps i u (retyped s types) (retyped t types)
made-blind i u types [] blind s t made = ap (λ (x : State). retyped x types) made
made-blind i u types (p ∷ ps) blind s t made = (
  retyped made.0 types,
  makes-blind i u types p s made.0 blind.0 made.1,
  made-blind i u types ps blind.1 made.0 t
      made.2,
)

-- If answers agree on helpers, objects that differ only in types have results that differ only in
-- types.
pub blind-same : (laws : LayoutIsUnique) (i : Inputs) (u v : Under) (ps : List Pass)
    → AllByRecursion IsBlind ps → AllByRecursion (λ p. Needs p u v) ps
    → (s m n a b : State) → Rising s → m ≡ record s { types = m.types } → n ≡ record s { types = n.types }
    → Made ps i u m a → Made ps i v n b → b ≡ retyped a n.types
blind-same laws i u v ps blind needs s m n a b rising of-m of-n one two =
    let moved : Made ps i u (retyped m n.types) (retyped a n.types) = made-blind i u n.types ps blind m a one in
    let same : retyped m n.types ≡ n = ap (λ (x : State). retyped x n.types) of-m ∙ sym of-n in
    let there : Made ps i u n (retyped a n.types) =
    subst (λ (x : State). Made ps i u x (retyped a n.types)) same moved in
    let rising-n : Rising n = subst Rising (sym of-n) rising in
    sym (made-one laws i u v ps n (retyped a n.types) b rising-n needs there two)
