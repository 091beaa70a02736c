use Rattle.std.proofs.Common.{◌≡◌, [], take}
use Rattle.std.specs.Prelude.{All, fold}
use Rattle.btf_storage.specs.Faultless.{IsFaultless}
use Rattle.object_externs.specs.Externs.{with_extern}
use Rattle.object_externs.specs.Faults.{EntryFault}
use Rattle.object_externs.specs.Names.{by_bytes}
use Rattle.object_externs.proofs.entries.read_entries.Given as goal

abbrev pub invariant-loop-entry : goal.invariant-loop-entry
invariant-loop-entry l = record {
  entered : by_bytes l.externs.entries ≡ fold (with_extern l.symbols l.table) [] (take l.entry-index l.entries);
  each : All (λ entry. IsFaultless (EntryFault l.symbols l.table entry)) (take l.entry-index l.entries);
}
