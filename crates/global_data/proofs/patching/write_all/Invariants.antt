use Rattle.std.proofs.Common.{◌≡◌, drop, fold}
use Rattle.global_data.specs.GlobalData.{written}
use Rattle.global_data.specs.Writes.{Fit}
use Rattle.global_data.proofs.patching.write_all.Given as goal

abbrev pub invariant-loop-write : goal.invariant-loop-write
invariant-loop-write l = record {
  value : fold written l.maps (drop l.write-index l.writes) ≡ fold written l.fn.maps l.writes;
  fit : Fit l.maps (drop l.write-index l.writes);
}
