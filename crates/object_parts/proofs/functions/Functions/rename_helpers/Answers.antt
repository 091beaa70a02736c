use Rattle.std.proofs.Common.{refl, rules}
use Rattle.std.proofs.lemmas.Map.Made.{map_same_pairs}
use Rattle.object_parts.specs.Content.{with_older_helpers}
use Rattle.object_parts.proofs.Keyed.{keyed_map}
use Rattle.object_parts.proofs.functions.Functions.rename_helpers.Goals as goal

pub invariant_of-self : goal.invariant_of-self
invariant_of-self c =
    let written = map_same_pairs _ with_older_helpers _ (λ k v b w f' t. search rules) _ _ c.retain.ensures.filtered in
    rw written (keyed_map with_older_helpers c.self.inside.entries.entries (λ f. refl) c.self.invariant)

pub returns : goal.returns
returns c =
    let written = map_same_pairs _ with_older_helpers _ (λ k v b w f' t. search rules) _ _ c.retain.ensures.filtered in
    rw (← c.self.view_is) written
