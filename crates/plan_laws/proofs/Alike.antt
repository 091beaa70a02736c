-- Plans and refusals in both orders of the passes over types.
use Rattle.std.proofs.Common.{◌≡◌, inl, inr, Bool, refl, subst}
use Rattle.btf_records.specs.declared.feature.BtfFeature.{BtfFeature}
use Rattle.linker.specs.Theorems.{LayoutIsUnique}
use Rattle.load_plan.specs.Inputs.{Inputs, State, Under, in_order}
use Rattle.load_plan.specs.Known.{IsPlanFor, IsRefusalFor}
use Rattle.load_plan.specs.Orders.{IsMadePlan, IsOrderFree, IsOrderFreeFor, OrdersAgree}
use Rattle.load_plan.specs.Passes.{Refused, passes}
use Rattle.load_plan.specs.Planned.{IsPlanOf, IsWholeObject}
use Rattle.plan_errors.specs.declared.error.PrepareError.{PrepareError}
use Rattle.load_plan.specs.declared.order.Order.{Order}
use Rattle.load_plan.specs.declared.order.Order.TheVariants.{RelocateFirst, RewriteFirst}
use Rattle.plan_laws.proofs.Determining.{agree-itself, agree-known, for-object, is-made, not-both, not-faulty, plan-one, said-same}
use Rattle.plan_laws.proofs.Parsed.{whole-rises, whole-same}
use Rattle.plan_laws.proofs.Passes.{Agree}
use Rattle.plan_laws.specs.Determined.{IsPlanUnder, IsRefusalUnder}
use Rattle.plan_laws.specs.Orders.{OrdersPlanAlike, OrdersRefuseAlike}
use Rattle.plan_text.specs.Content.{PlanContent}

-- A plan in one order is a plan in the other.
to-order : (law : OrdersAgree) (order other : Order) (i : Inputs) (u : Under) (object : State)
    → IsOrderFree u.answers object → (plan : PlanContent)
    → IsMadePlan (in_order order i) u object plan → IsMadePlan (in_order other i) u object plan
to-order law RelocateFirst RelocateFirst i u object free plan made = made
to-order law RelocateFirst RewriteFirst i u object free plan made = (law.each i u object free plan).0 made
to-order law RewriteFirst RelocateFirst i u object free plan made = (law.each i u object free plan).1 made
to-order law RewriteFirst RewriteFirst i u object free plan made = made

-- A plan of any object of the file is the plan of this object.
made-of : (i : Inputs) (u : Under) (object found : State) (plan : PlanContent) → IsWholeObject i.file object
    → IsWholeObject i.file found → IsPlanOf i u found plan → IsMadePlan i u object plan
made-of i u object found plan whole other planned =
    is-made i u object plan (for-object i u object found plan whole other planned)

pub planned-alike : LayoutIsUnique → OrdersAgree → OrdersPlanAlike
planned-alike laws law = record { under = under; kernel = kernel } where
  under : (order other : Order) (i : Inputs) (u : Under) (object : State)
      → IsWholeObject i.file object → IsOrderFree u.answers object
      → (a b : PlanContent) → IsPlanUnder (in_order order i) u a → IsPlanUnder (in_order other i) u b → a ≡ b
  under order other i u object whole free a b one two =
      plan-one laws (in_order other i) u u (agree-itself u) (λ same. refl) object a b
      (whole-rises i.file object whole)
      (to-order law order other i u object free a
      (made-of (in_order order i) u object one.object a whole one.whole one.planned))
      (made-of (in_order other i) u object two.object b whole two.whole two.planned)

  kernel : (order other : Order) (i : Inputs) (grants : BtfFeature → Bool) (has_helpers : Bool)
      → (object : State) → IsWholeObject i.file object → IsOrderFreeFor grants object
      → (a b : PlanContent) → IsPlanFor grants has_helpers (in_order order i) a
      → IsPlanFor grants has_helpers (in_order other i) b → a ≡ b
  kernel order other i grants has_helpers object whole free a b one two =
      plan-one laws (in_order other i) one.under two.under
      (agree-known grants one.under two.under one.known.features two.known.features)
      (said-same has_helpers one.under.has_helpers two.under.has_helpers one.known.helpers two.known.helpers)
      object a b (whole-rises i.file object whole)
      (to-order law order other i one.under object (free.each one.under.answers one.known.features) a
      (made-of (in_order order i) one.under object one.object a whole one.whole one.planned))
      (made-of (in_order other i) two.under object two.object b whole two.whole two.planned)

-- There is no refusal in one order if there is a plan in the other.
apart : (laws : LayoutIsUnique) (law : OrdersAgree) (order other : Order) (i : Inputs) (u v : Under) (agree : Agree u v) (object : State) → IsWholeObject i.file object
    → IsOrderFree u.answers object → (plan : PlanContent) (e : PrepareError)
    → IsMadePlan (in_order order i) u object plan → (found : State) → IsWholeObject i.file found
    → Refused (passes other) (in_order other i) v found e → ⊥
apart laws law order other i u v agree object whole free plan e made found there refused =
    not-both laws (in_order other i) u v agree object plan e (whole-rises i.file object whole)
    (to-order law order other i u object free plan made)
    (subst (λ (s : State). Refused (passes other) (in_order other i) v s e)
    (whole-same i.file found object there whole) refused)

pub refused-alike : LayoutIsUnique → OrdersAgree → OrdersRefuseAlike
refused-alike laws law = record { under = under; kernel = kernel } where
  under : (order other : Order) (i : Inputs) (u : Under) (object : State)
      → IsWholeObject i.file object → IsOrderFree u.answers object
      → (plan : PlanContent) (e : PrepareError) → IsPlanUnder (in_order order i) u plan
      → IsRefusalUnder (in_order other i) u e → ⊥
  under order other i u object whole free plan e planned (inl fault) =
      not-faulty i.file object e whole fault
  under order other i u object whole free plan e planned (inr refusal) =
      apart laws law order other i u u (agree-itself u) object whole free plan e
      (made-of (in_order order i) u object planned.object plan whole planned.whole planned.planned)
      refusal.object refusal.whole refusal.refused

  kernel : (order other : Order) (i : Inputs) (grants : BtfFeature → Bool) (has_helpers : Bool)
      → (object : State) → IsWholeObject i.file object → IsOrderFreeFor grants object
      → (plan : PlanContent) (e : PrepareError) → IsPlanFor grants has_helpers (in_order order i) plan
      → IsRefusalFor grants (in_order other i) e → ⊥
  kernel order other i grants has_helpers object whole free plan e planned (inl fault) =
      not-faulty i.file object e whole fault
  kernel order other i grants has_helpers object whole free plan e planned (inr refusal) =
      apart laws law order other i planned.under refusal.under
      (agree-known grants planned.under refusal.under planned.known.features refusal.known) object whole
      (free.each planned.under.answers planned.known.features) plan e
      (made-of (in_order order i) planned.under object planned.object plan whole planned.whole planned.planned)
      refusal.object refusal.whole refusal.refused
