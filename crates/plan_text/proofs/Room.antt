-- A list of distinct features that lacks one of the eight has fewer than eight.
use Rattle.std.proofs.Common.{◌≡◌, ◌+◌, ◌<◌, true, false, cond, [], ◌∷◌, length, refl, subst, arith}
use Rattle.std.specs.Prelude.{◌||◌}
use Rattle.btf_records.specs.declared.feature.BtfFeature.{BtfFeature}
use Rattle.btf_sanitize.specs.Answers.{Answers, AreDistinct, features, is_same, times}
use Rattle.btf_sanitize.proofs.DistinctFeatures.{has_room, length_features}
use Rattle.plan_text.specs.Machine.{is_asked}

pub times_none : (f : BtfFeature) (answers : Answers) → is_asked answers f ≡ false → times f (features answers) ≡ 0
times_none f [] h = refl
times_none f (a ∷ answers) h =
    (elim (is_same a.0 f) as (λ t. (t || is_asked answers f) ≡ false → cond t 1 0 + times f (features answers) ≡ 0) [
      | true ↦ λ h. cc
      | false ↦ λ h. omega (arith, times_none f answers h)
    ]) h

pub room_for_one : (answers : Answers) (f : BtfFeature) → AreDistinct (features answers) → is_asked answers f ≡ false → length answers < 8
room_for_one answers f d h = subst (λ n. n < 8) (length_features answers) (has_room f (features answers) d (times_none f answers h))
