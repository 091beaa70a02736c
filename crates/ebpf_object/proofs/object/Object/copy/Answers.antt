use Rattle.std.proofs.Common.{◌≡◌, [], rules}
use Rattle.object_contents.proofs.NoPrograms.{none_lacks}
use Rattle.ebpf_object.proofs.object.Object.copy.Goals as goal

pub invariant_of-self-in_err-try_clone-3 : goal.invariant_of-self-in_err-try_clone-3
invariant_of-self-in_err-try_clone-3 c =
    let none : c.self.inside.programs ≡ [] = search rules in
    none_lacks c.self.inside.programs c.put-4.new.place none
