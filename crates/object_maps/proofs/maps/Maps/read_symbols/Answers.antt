use Rattle.std.proofs.Common.{◌<◌, length, arith}
use Rattle.std.proofs.lemmas.Result.{err_from_is_err_and}
use Rattle.object_maps.specs.LegacyMaps.{legacy_map, legacy_map_faults}
use Rattle.object_maps.proofs.Entered.{entered_step}
use Rattle.object_maps.proofs.Sayings.{none_more, says_at}
use Rattle.object_maps.proofs.maps.Maps.read_symbols.Goals as goal

pub returns-in_err-read_legacy_map-clause-refused : goal.returns-in_err-read_legacy_map-clause-refused
returns-in_err-read_legacy_map-clause-refused c =
    let p = err_from_is_err_and c.from_residual.result c.from_residual.ensures.1 in
    let within : c.loop-symbol.symbol-index < length c.args.symbols.now = omega arith in
    rw (p.1, p.2)
    (λ other. says_at (legacy_map_faults c.args.section.now) c.args.symbols.now c.loop-symbol.symbol-index c.symbol-item.result _ within c.symbol-item.is (c.in_err-read_legacy_map.ensures.refused other))

pub loop-symbol-preserved : goal.loop-symbol-preserved
loop-symbol-preserved c =
    let within : c.loop-symbol.symbol-index < length c.args.symbols.now = omega arith in
    record {
      value = entered_step c.args.self.now c.loop-symbol.self c.read_legacy_map.new.self (legacy_map c.args.section.now) c.args.symbols.now c.loop-symbol.symbol-index c.symbol-item.result within c.symbol-item.is c.loop-symbol.invariant.value c.in_ok-read_legacy_map.ensures.value;
      accepted = none_more (legacy_map_faults c.args.section.now) c.args.symbols.now c.loop-symbol.symbol-index c.symbol-item.result within c.symbol-item.is c.loop-symbol.invariant.accepted c.in_ok-read_legacy_map.ensures.accepted;
    }
