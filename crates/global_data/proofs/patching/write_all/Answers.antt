use Rattle.std.proofs.Common.{◌≡◌, length, sym, subst, fold, ap, ◌∙◌}
use Rattle.object_maps.specs.Overwritten.{HasRange}
use Rattle.global_data.specs.GlobalData.{Write, written}
use Rattle.global_data.proofs.Written.{fit-head, fit-tail, value-tail}
use Rattle.global_data.proofs.patching.write_all.Goals as goal

pub overwrite-requires : goal.overwrite-requires
overwrite-requires c =
    let P : Write → Type 0 = λ w. HasRange c.loop-write.maps w.map w.start (length w.bytes) in
    subst P (sym c.write.view_is) (fit-head c.loop-write.maps c.args.writes.now c.loop-write.write-index c.write-item.result c.loop-write-test.true c.write-item.is c.loop-write.invariant.fit)

pub loop-write-preserved : goal.loop-write-preserved
loop-write-preserved c =
    let wrote : c.overwrite.new.self ≡ written c.loop-write.maps c.write-item.result = c.overwrite.ensures ∙ ap (written c.loop-write.maps) c.write.view_is in
    record {
      value = value-tail c.loop-write.maps c.overwrite.new.self (fold written c.args.maps.now c.args.writes.now) c.args.writes.now c.loop-write.write-index c.write-item.result c.loop-write-test.true c.write-item.is wrote c.loop-write.invariant.value;
      fit = fit-tail c.loop-write.maps c.overwrite.new.self c.args.writes.now c.loop-write.write-index c.write-item.result c.loop-write-test.true c.write-item.is wrote c.loop-write.invariant.fit;
    }
