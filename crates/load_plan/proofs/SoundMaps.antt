-- The words of maps have the limits of their forms.
use Rattle.std.proofs.Common.{◌≡◌, List, [], ◌∷◌, ◌++◌, refl, sym, subst}
use Rattle.std.proofs.lemmas.List.Elements.{All-append, All-cons, All-nil}
use Rattle.std.specs.List.{All}
use Rattle.ebpf_items.specs.Maps.{map_view}
use Rattle.ebpf_items.specs.declared.maps.Map.{Map}
use Rattle.ebpf_items.specs.declared.maps.Map.TheVariants.{Legacy, Btf}
use Rattle.plan_text.specs.Content.{IsSoundMap, MapContent}
use Rattle.plan_lines.specs.Lines.{AreWordsOf}
use Rattle.plan_lines.specs.declared.map_words.MapWords.{MapWords}
use Rattle.load_plan.specs.PlanMaps.{is_typed, plan_words}

sound_of : (m : Map) → AreWordsOf (is_typed m) (plan_words (map_view m).words)
sound_of (Legacy m) = (refl, refl, refl)
sound_of (Btf m) = refl

pub words_sound : (m : Map) (words : MapWords) → words ≡ plan_words (map_view m).words → AreWordsOf (is_typed m) words
words_sound m words is = rw is (sound_of m)

-- One more map within the limits.
pub with_sound : (ms old : List MapContent) (m : MapContent) → ms ≡ old ++ m ∷ [] → All IsSoundMap old → IsSoundMap m → All IsSoundMap ms
with_sound ms old m is sound one =
    subst (λ l. All IsSoundMap l) (sym is) (All-append IsSoundMap old (m ∷ []) sound (All-cons IsSoundMap m [] one (All-nil IsSoundMap)))
