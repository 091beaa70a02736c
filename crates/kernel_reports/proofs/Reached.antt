-- The reaches of relocations, by sets of slots.
use Rattle.std.proofs.Common.{◌≡◌, Bool, List, [], ◌∷◌, map, Option, None, Some, refl}
use Rattle.std.specs.Prelude.{option_and_then, if◌then◌else◌}
use Rattle.kernel_reports.specs.Poison.{SlotPlace}
use Rattle.kernel_reports.specs.Reaches.{reach_among}
use Rattle.kernel_reports.specs.declared.reach.Reach.TheVariants.{CutOff, Reached}
use Rattle.kernel_reports.specs.declared.relocations.RelocatedSlot.{RelocatedSlot}
use Rattle.kernel_reports.specs.declared.relocations.RelocationAt.{RelocationAt}

module _ (there there' reached reached' : SlotPlace → Bool) (one : (p : SlotPlace) → there p ≡ there' p) (other : (p : SlotPlace) → reached p ≡ reached' p) where
  same_at : (o : Option RelocatedSlot)
      → option_and_then (λ place. if reached (place.key, place.index) then Some Reached else (if there (place.key, place.index) then Some CutOff else None)) o
      ≡ option_and_then (λ place. if reached' (place.key, place.index) then Some Reached else (if there' (place.key, place.index) then Some CutOff else None)) o
  same_at None = refl
  same_at (Some place) = rw (one (place.key, place.index), other (place.key, place.index)) refl

  pub same_reaches : (relocations : List RelocationAt) → map (reach_among there reached) relocations ≡ map (reach_among there' reached') relocations
  same_reaches [] = refl
  same_reaches (at ∷ more) = rw (same_at at.place, same_reaches more) refl
