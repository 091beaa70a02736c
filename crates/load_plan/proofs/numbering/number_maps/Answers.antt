use Rattle.std.proofs.Common.{◌≡◌, ◌<◌, ◌∷◌, ◌∙◌, arith, rules, sym}
use Rattle.ebpf_items.specs.Maps.{map_view}
use Rattle.object_maps.specs.Maps.{shown}
use Rattle.load_plan.proofs.MapNumbers.{no_number, one_numbered, one_skipped}
use Rattle.load_plan.proofs.numbering.number_maps.Goals as goal

pub loop-name-preserved-then-is_none : goal.loop-name-preserved-then-is_none
loop-name-preserved-then-is_none c =
    let next : shown c.loop-name.name-iterator ≡ (c.in-Some.name.now.now, map_view c.in-Some._map.now) ∷ shown c.next.new.self = search rules in
    let less : c.next_free-number.result < 2147483648 = omega (arith, c.if-number-ge-LIMIT.false) in
    record {
      small = omega (arith, less);
      numbering = rw c.in_ok-set_map.ensures.ok (one_numbered c.args.maps.now _ _ c.in-Some.name.now.now (map_view c.in-Some._map.now) c.in_ok-used.used c.loop-name.number _ c.loop-name.settings next c.loop-name.invariant.numbering c.next_free-number.result c.next_free-number.ensures.later c.next_free-number.ensures.used (c.next_free-number.ensures.free less)
          (sym c.map_number.ensures.value ∙ no_number c.map_number.result (search rules)));
    }

pub loop-name-preserved : goal.loop-name-preserved
loop-name-preserved c =
    let next : shown c.loop-name.name-iterator ≡ (c.in-Some.name.now.now, map_view c.in-Some._map.now) ∷ shown c.next.new.self = search rules in
    record {
      small = c.loop-name.invariant.small;
      numbering = one_skipped c.args.maps.now _ _ c.in-Some.name.now.now (map_view c.in-Some._map.now) c.in_ok-used.used c.loop-name.number _ c.loop-name.settings next c.loop-name.invariant.numbering c.map_number.result c.map_number.ensures.value (search rules);
    }
