use Rattle.std.proofs.Common.{◌≤◌, ◌-◌, length, drop}
use Rattle.std.specs.Prelude.{All}
use Rattle.btf_ext.specs.SectionInfos.{IsSectionInfo, Reach}
use Rattle.btf_ext.specs.Layout.{IsFaultless}
use Rattle.btf_ext.proofs.section_info_list.places.Given as goal

abbrev pub invariant-loop-at : goal.invariant-loop-at
invariant-loop-at l = record {
  reached : Reach l.order l.size l.bytes 0 l.places.items l.at;
  faultless : All (λ place. IsFaultless l.region.kind l.order l.size l.table.strings (drop place l.bytes)) l.places.items;
  stand : All (λ place. IsSectionInfo l.order l.size (drop place l.bytes)) l.places.items;
  within : l.at ≤ length l.bytes;
}

abbrev pub decreases-loop-at : goal.decreases-loop-at
decreases-loop-at l = length l.bytes - l.at
