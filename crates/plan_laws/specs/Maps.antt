-- The maps of an object in its plan.
use Rattle.std.specs.Prelude.{◌≡◌, ℕ, List, Some, length, slice_get}
use Rattle.std.specs.List.{AllZip}
use Rattle.ebpf_items.specs.Maps.{MapView}
use Rattle.elf64.specs.Symbols.{symbols_of}
use Rattle.global_data.specs.Kept.{IsOutside}
use Rattle.load_plan.specs.Inputs.{Inputs, State, Under}
use Rattle.load_plan.specs.Planned.{IsPlanOf, IsWholeObject}
use Rattle.load_plan.specs.Numbers.{set_number}
use Rattle.plan_text.specs.Content.{MapContent, PlanContent}

-- No value that is set is written over a byte of an object's map.
abbrev pub IsLeft : Inputs → State → List ℕ → ℕ → Type 0
IsLeft i object name place = IsOutside (symbols_of i.file) object.maps i.settings.globals name place

-- A map of a plan is a map of the object, with the number that is set for it and with the same
-- length. Its bytes are the object's, except where the value of a global variable is written.
pub record IsMapOf (i : Inputs) (object : State) (e : List ℕ × MapView) (m : MapContent)
    : Type 0 where
  pub name : m.name ≡ e.0
  pub number : set_number i.settings e.0 ≡ Some m.number
  pub sized : length m.contents ≡ length e.1.contents
  pub rest : (place : ℕ)
      → IsLeft i object e.0 place
      → slice_get m.contents place ≡ slice_get e.1.contents place

-- The maps of a plan are those of the object, in order.
pub record MapsKeepLengths : Type 0 where
  pub each : (i : Inputs) (u : Under) (object : State) (plan : PlanContent)
      → IsWholeObject i.file object
      → IsPlanOf i u object plan
      → AllZip (IsMapOf i object) object.maps plan.maps
