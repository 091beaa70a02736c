use Rattle.std.proofs.Common.{◌≡◌, map, take}
use Rattle.ebpf_object.specs.Hashed.{numbered}
use Rattle.ebpf_object.proofs.hashed.numbered.Given as goal

abbrev pub invariant-loop-named : goal.invariant-loop-named
invariant-loop-named l = l.all.items ≡ map numbered (take l.named-index l.maps)
