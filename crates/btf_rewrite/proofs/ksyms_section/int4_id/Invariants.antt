use Rattle.std.proofs.Common.{◌≡◌, ◌+◌, ◌-◌, drop, length}
use Rattle.btf_storage.specs.Ints.{int4_from}
use Rattle.btf_rewrite.proofs.ksyms_section.int4_id.Given as goal

abbrev pub invariant-loop-t : goal.invariant-loop-t
invariant-loop-t l = int4_from (l.index + 1) (drop l.index l.types.types) ≡ int4_from 1 l.types.types

abbrev pub decreases-loop-t : goal.decreases-loop-t
decreases-loop-t l = length l.types.types - l.index
