-- The plan of an object's file, and its refusal.
use Rattle.std.specs.Prelude.{◌≡◌, ◌⊎◌, ℕ, List, map, Bool}
use Rattle.object_contents.specs.Faults.{HasFault, IsFaultless}
use Rattle.ebpf_object.specs.ParsedObject.{IsParsed}
use Rattle.ebpf_object.specs.Rewriting.{AreAnswered}
use Rattle.load_plan.specs.Plans.{HoldsTypeBytes, plan_of}
use Rattle.load_plan.specs.PlanMaps.{plan_map}
use Rattle.plan_text.specs.Content.{PlanContent}
use Rattle.load_plan.specs.Granted.{AreGranted}
use Rattle.load_plan.specs.Inputs.{AreSaid, BtfFeature, GoByFeature, Inputs, Predicate, State, Under, in_order}
use Rattle.load_plan.specs.Orders.{IsOrderFree, IsOrderFreeFor, RefusesToo}
use Rattle.load_plan.specs.Passes.{Made, OfParse, Refused, linking, passes, patching}
use Rattle.load_plan.specs.Programs.{ArePlanPrograms, before_slots}
use Rattle.load_plan.specs.declared.order.Order.{Order}
use Rattle.plan_errors.specs.declared.error.PrepareError.{PrepareError}

-- The object of a file without a fault.
pub record IsWholeObject (file : List ℕ) (object : State) : Type 0 where
  pub faultless : IsFaultless file
  pub parsed : IsParsed file object

-- The plan of an object under answers, which is the result of all passes. Its types are the
-- object's types, rewritten, and each feature that they need is granted.
pub record IsPlanOf (i : Inputs) (u : Under) (object : State) (plan : PlanContent) : Type 0 where
  pub patched : State
  pub patching : Made (patching i.order) i u object patched
  pub final : State
  pub linking : Made linking i u patched final
  pub is : plan ≡ plan_of u.answers (map (plan_map i.settings) final.maps) final
  pub types : HoldsTypeBytes final.types plan.type_bytes
  pub granted : AreGranted u.answers object.externs.ksyms object.types final.types
  pub programs : ArePlanPrograms i u object patched (before_slots i u object patched patching) plan
      object.programs plan.programs

-- The plan of an object under answers that the predicate and the probe gave. Where its types leave
-- the order of the passes over types free, it is the plan in either order.
pub record IsPlannedObject {F : Type 0} (predicate : Predicate F) (before : F)
    (Says : Bool → Type 0) (i : Inputs) (object : State) (plan : PlanContent) : Type 0 where
  pub under : Under
  pub said : AreSaid predicate before Says under
  pub planned : IsPlanOf i under object plan
  pub orders : IsOrderFree under.answers object
      → (order : Order)
      → IsPlanOf (in_order order i) under object plan

-- The plan of a file's object.
pub record IsPlanned {F : Type 0} (predicate : Predicate F) (before : F) (Says : Bool → Type 0)
    (i : Inputs) (plan : PlanContent) : Type 0 where
  pub object : State
  pub whole : IsWholeObject i.file object
  pub planned : IsPlannedObject predicate before Says i object plan

-- A pass refuses an object under the answers that the predicate gave so far.
pub record IsRefusedObject {F : Type 0} (predicate : Predicate F) (before : F) (i : Inputs)
    (object : State) (e : PrepareError) : Type 0 where
  pub under : Under
  pub answered : AreAnswered predicate before under.answers
  pub refused : Refused (passes i.order) i under object e

-- A pass refuses the object of a file without a fault. Where its types leave the order of the
-- passes over types free, no order gives a plan.
pub record IsPassRefusal {F : Type 0} (predicate : Predicate F) (before : F) (i : Inputs)
    (e : PrepareError) : Type 0 where
  pub object : State
  pub whole : IsWholeObject i.file object
  pub refused : IsRefusedObject predicate before i object e
  pub orders : (grants : BtfFeature → Bool)
      → GoByFeature grants refused.under.answers
      → IsOrderFreeFor grants object
      → (order : Order)
      → RefusesToo order grants i object e

-- A refusal, apart from out of memory: a fault of the file, or a pass refuses the object of a file
-- without a fault.
abbrev pub IsRefusal : {F : Type 0} → Predicate F → F → Inputs → PrepareError → Type 0
IsRefusal predicate before i e = OfParse (HasFault i.file) e ⊎ IsPassRefusal predicate before i e
