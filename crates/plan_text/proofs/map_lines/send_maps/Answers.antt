use Rattle.std.proofs.Common.{◌<◌, length, arith}
use Rattle.watched.specs.Watched.{Sends-then}
use Rattle.plan_text.specs.PlanGrammar.{map_lines}
use Rattle.plan_text.proofs.Texts.{each_lines-more}
use Rattle.plan_text.proofs.map_lines.send_maps.Goals as goal

pub loop-map-preserved : goal.loop-map-preserved
loop-map-preserved g c =
    let within : c.loop-map.map-index < length c.args.maps.now = omega arith in
    rw (each_lines-more map_lines c.args.maps.now c.loop-map.map-index c.map-item.result within, ← c.map-item.is)
    (Sends-then _ _ _ _ _ _ c.loop-map.invariant c.send_map.ensures)
