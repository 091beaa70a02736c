use Rattle.std.specs.Prelude.{option_copied}
use Rattle.extern_resolution.specs.Faults.{EntryTypedFault}
use Rattle.extern_resolution.specs.Steps.{EntryTyped, Grows, NoneBefore}
use Rattle.object_externs.specs.Names.{by_bytes}
use Rattle.extern_resolution.proofs.typed.typed_by.Given as goal

abbrev pub invariant-loop-name : goal.invariant-loop-name
invariant-loop-name l =
    Grows (EntryTyped l.table (option_copied l.kernel)) l.externs.by_name (by_bytes l.name-iterator) (by_bytes l.by_name.entries) ×
    NoneBefore (EntryTypedFault l.table (option_copied l.kernel)) l.externs.by_name (by_bytes l.name-iterator)
