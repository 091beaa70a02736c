use Rattle.std.proofs.Common.{◌≡◌, ◌∙◌, ap, arith, map, take}
use Rattle.std.proofs.lemmas.List.{take_all}
use Rattle.std.specs.BTreeSet.{contains}
use Rattle.kernel_reports.specs.Reaches.{has_poison, has_reached, place_cmp, reach_among}
use Rattle.kernel_reports.proofs.Reached.{same_reaches}
use Rattle.kernel_reports.proofs.reach.reaches_at.Goals as goal

pub returns : goal.returns
returns c =
    let all : take c.loop-at.at-index c.args.relocations.now ≡ c.args.relocations.now = take_all _ _ (omega arith) in
    c.loop-at.invariant
    ∙ ap (map (reach_among (contains place_cmp c.in_ok-slots.slots) (contains place_cmp c.in_ok-reached.reached))) all
    ∙ same_reaches _ (has_poison c.args.poison.now) _ (has_reached c.args.poison.now) c.in_ok-slots.ensures c.in_ok-reached.ensures c.args.relocations.now
