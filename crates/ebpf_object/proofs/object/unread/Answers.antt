use Rattle.object_contents.proofs.NoPrograms.{none_lacks}
use Rattle.ebpf_object.proofs.object.unread.Goals as goal

pub invariant_of-result : goal.invariant_of-result
invariant_of-result c = none_lacks c.new-2.result c.new-3.result c.new-2.ensures
