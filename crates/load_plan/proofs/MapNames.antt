-- The names of a plan's maps.
use Rattle.std.proofs.Common.{◌≡◌, ℕ, List, [], ◌∷◌, map, refl, ap}
use Rattle.ebpf_items.specs.Maps.{MapView}
use Rattle.settings.specs.Content.{SettingsContent}
use Rattle.load_plan.specs.PlanMaps.{plan_map}

-- The names of a plan's maps are those of the object's maps.
pub names-plan_map : (settings : SettingsContent) (maps : List (List ℕ × MapView)) → map (λ m. m.name) (map (plan_map settings) maps) ≡ map (λ e. e.0) maps
names-plan_map settings [] = refl
names-plan_map settings (e ∷ es) = ap (λ (rest : List (List ℕ)). e.0 ∷ rest) (names-plan_map settings es)
