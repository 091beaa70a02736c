-- The values of global variables leave externs alone.
use Rattle.std.proofs.Common.{◌≡◌, ap, false, ◌∙◌}
use Rattle.extern_resolution.specs.Outcomes.{is_any_sought}
use Rattle.load_plan.specs.Inputs.{State}
use Rattle.load_plan.specs.Passes.{PutsValues}
use Rattle.settings.specs.Content.{SettingsContent}

pub unsought : (settings : SettingsContent) (s t : State) → PutsValues settings s t → is_any_sought s.externs.by_name ≡ false → is_any_sought t.externs.by_name ≡ false
unsought settings s t made none = ap (λ (o : State). is_any_sought o.externs.by_name) made.maps ∙ none
