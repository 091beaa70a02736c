use Rattle.std.proofs.Common.{◌<◌, length, arith, subst}
use Rattle.std.proofs.lemmas.List.Elements.{All-more}
use Rattle.plan_text.specs.Content.{FitsMap}
use Rattle.plan_text.proofs.limits.maps_fit.Goals as goal

pub loop-map-preserved : goal.loop-map-preserved
loop-map-preserved c =
    let within : c.loop-map.map-index < length c.args.maps.now = omega arith in
    All-more FitsMap c.args.maps.now c.loop-map.map-index c.map-item.result within c.loop-map.invariant (subst FitsMap c.map-item.is c.fits.ensures)
