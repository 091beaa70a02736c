use Rattle.std.proofs.Common.{◌≤◌, length}
use Rattle.btf_ext.specs.Layout.{is_named}
use Rattle.btf_ext.proofs.Named.{IsLastIn}
use Rattle.btf_ext.proofs.section_info_list.SectionInfoList.last_named.Given as goal

abbrev pub invariant-loop-index : goal.invariant-loop-index
invariant-loop-index l = record {
  last : IsLastIn (is_named l.strings l.name l.self) l.self.places.items l.index;
  within : l.index ≤ length l.self.places.items;
}

abbrev pub decreases-loop-index : goal.decreases-loop-index
decreases-loop-index l = l.index
