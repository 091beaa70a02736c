use Rattle.std.proofs.Common.{◌≡◌, ◌++◌, ◌∙◌, ap, sym, rules}
use Rattle.std.proofs.lemmas.List.{append_assoc}
use Rattle.report_checks.specs.Causes.{map_causes_below, map_is, when}
use Rattle.report_checks.specs.declared.causes.ProgramCause.TheVariants.{Map}
use Rattle.report_checks.proofs.MapCauses.{one_more}
use Rattle.report_checks.proofs.causes.add_maps.Goals as goal

pub loop-index-preserved : goal.loop-index-preserved
loop-index-preserved c =
    let old = c.args.causes.now.items in
    let below = map_causes_below c.args.maps.now c.args.presences.now c.args.slots.now c.args.wanted c.loop-index.index in
    let here = when (map_is c.args.maps.now c.args.presences.now c.args.slots.now c.args.wanted c.loop-index.index) (Map c.loop-index.index) in
    let added : c.add_when.new.causes.items ≡ c.loop-index.causes.items ++ here = search rules in
    added
    ∙ (ap (λ l. l ++ here) c.loop-index.invariant
    ∙ (append_assoc old below here
    ∙ ap (λ l. old ++ l) (sym (one_more c.args.maps.now c.args.presences.now c.args.slots.now c.args.wanted c.loop-index.index))))
