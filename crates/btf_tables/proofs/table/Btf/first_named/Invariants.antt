use Rattle.std.proofs.Common.{◌≡◌, drop}
use Rattle.btf_tables.proofs.Named.{NoneBefore, all_types}
use Rattle.btf_tables.proofs.table.Btf.first_named.Given as goal

abbrev pub invariant-loop-t : goal.invariant-loop-t
invariant-loop-t l = record {
  left : l.t-iterator ≡ drop l.id (all_types l.self);
  before : NoneBefore l.self l.name l.kind l.id;
}
