use Rattle.std.proofs.Common.{◌≡◌, ◌++◌}
use Rattle.btf_sanitize.proofs.table.push_all.Given as goal
use Rattle.btf_storage.specs.Growth.{AreFew}

abbrev pub invariant-loop-t : goal.invariant-loop-t
invariant-loop-t l =
    (l.records.types ++ l.t-iterator.rest.items ≡ l.fn.records.types ++ l.fn.types.items)
    × (l.records.order ≡ l.fn.records.order)
    × AreFew l.records.order l.records.types
