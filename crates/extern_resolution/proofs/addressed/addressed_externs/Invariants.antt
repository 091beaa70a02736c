use Rattle.extern_resolution.specs.Steps.{EntryAddressed, Grows, NoAddress, NoneBefore}
use Rattle.object_externs.specs.Names.{by_bytes}
use Rattle.extern_resolution.proofs.addressed.addressed_externs.Given as goal

abbrev pub invariant-loop-name : goal.invariant-loop-name
invariant-loop-name l =
    Grows (EntryAddressed l.addresses) l.externs.by_name (by_bytes l.name-iterator) (by_bytes l.by_name.entries) ×
    NoneBefore (NoAddress l.addresses) l.externs.by_name (by_bytes l.name-iterator)
