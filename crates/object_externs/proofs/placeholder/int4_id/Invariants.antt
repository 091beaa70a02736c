use Rattle.std.proofs.Common.{◌≡◌, ◌+◌, length}
use Rattle.btf_storage.specs.Ints.{int4_from}
use Rattle.object_externs.proofs.placeholder.int4_id.Given as goal

abbrev pub invariant-loop-t : goal.invariant-loop-t
invariant-loop-t l = record {
  found : int4_from l.id l.t-iterator ≡ int4_from 1 l.table.types;
  counted : l.id + length l.t-iterator ≡ length l.table.types + 1;
}
