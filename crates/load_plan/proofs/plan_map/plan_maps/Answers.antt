use Rattle.std.proofs.Common.{◌≡◌, map, rules, append-nil}
use Rattle.load_plan.specs.PlanMaps.{plan_map}
use Rattle.load_plan.proofs.MapNames.{names-plan_map}
use Rattle.load_plan.proofs.plan_map.plan_maps.Goals as goal

pub returns-clause-rising : goal.returns-clause-rising
returns-clause-rising c =
    let all : c.loop-name.list.items ≡ map (plan_map c.args.settings.now) c.args.maps.now = search (rules, append-nil) in
    let h = c.iter-name-items.ensures.rising in
    rw (all, names-plan_map c.args.settings.now c.args.maps.now) h
