use Rattle.std.proofs.Common.{◌≡◌, ℕ, List, Bool, true}
use Rattle.std.specs.List.{list_any}
use Rattle.std.specs.Prelude.{is_none}
use Rattle.ebpf_items.specs.Maps.{MapView}
use Rattle.object_maps.specs.Maps.{shown}
use Rattle.load_plan.specs.Numbers.{set_number}
use Rattle.load_plan.proofs.numbered.unnumbered_map.Given as goal

-- The rest of the maps determines the result, and belongs to the maps.
abbrev pub invariant-loop-name : goal.invariant-loop-name
invariant-loop-name l =
    (list_any (λ e. is_none (set_number l.settings e.0)) (shown l.name-iterator) ≡ list_any (λ e. is_none (set_number l.settings e.0)) l.maps)
    × ((p : List ℕ × MapView → Bool) → list_any p (shown l.name-iterator) ≡ true → list_any p l.maps ≡ true)
