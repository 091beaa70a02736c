-- The order of the passes over types changes neither a plan nor whether there is one.
use Rattle.std.specs.Prelude.{◌≡◌, Bool}
use Rattle.btf_records.specs.declared.feature.BtfFeature.{BtfFeature}
use Rattle.load_plan.specs.Inputs.{Inputs, State, Under, in_order}
use Rattle.load_plan.specs.Known.{IsPlanFor, IsRefusalFor}
use Rattle.load_plan.specs.Orders.{IsOrderFree, IsOrderFreeFor}
use Rattle.load_plan.specs.Planned.{IsWholeObject}
use Rattle.load_plan.specs.declared.order.Order.{Order}
use Rattle.plan_errors.specs.declared.error.PrepareError.{PrepareError}
use Rattle.plan_laws.specs.Determined.{IsPlanUnder, IsRefusalUnder}
use Rattle.plan_text.specs.Content.{PlanContent}

-- Where the order is free, the plans of a file's object in two orders are equal, under the same
-- answers, or for a kernel with known features and with the newer helpers or without them.
pub record OrdersPlanAlike : Type 0 where
  pub under : (order other : Order) (i : Inputs) (u : Under) (object : State)
      → IsWholeObject i.file object → IsOrderFree u.answers object
      → (a b : PlanContent)
      → IsPlanUnder (in_order order i) u a
      → IsPlanUnder (in_order other i) u b
      → a ≡ b
  pub kernel : (order other : Order) (i : Inputs) (grants : BtfFeature → Bool)
      (has_helpers : Bool)
      → (object : State)
      → IsWholeObject i.file object
      → IsOrderFreeFor grants object
      → (a b : PlanContent) → IsPlanFor grants has_helpers (in_order order i) a
      → IsPlanFor grants has_helpers (in_order other i) b → a ≡ b

-- Where the order is free, there aren't both a plan in one order and a refusal in the other.
pub record OrdersRefuseAlike : Type 0 where
  pub under : (order other : Order) (i : Inputs) (u : Under) (object : State)
      → IsWholeObject i.file object → IsOrderFree u.answers object
      → (plan : PlanContent) (e : PrepareError) → IsPlanUnder (in_order order i) u plan
      → IsRefusalUnder (in_order other i) u e → ⊥
  pub kernel : (order other : Order) (i : Inputs) (grants : BtfFeature → Bool)
      (has_helpers : Bool)
      → (object : State)
      → IsWholeObject i.file object
      → IsOrderFreeFor grants object
      → (plan : PlanContent) (e : PrepareError)
      → IsPlanFor grants has_helpers (in_order order i) plan
      → IsRefusalFor grants (in_order other i) e → ⊥
