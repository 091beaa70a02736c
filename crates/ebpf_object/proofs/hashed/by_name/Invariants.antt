use Rattle.std.proofs.Common.{◌≡◌}
use Rattle.ebpf_object.specs.Hashed.{and_by_name, by_name}
use Rattle.ebpf_object.proofs.hashed.by_name.Given as goal

-- The values so far, extended by the rest, are all values.
abbrev pub invariant-loop-name : goal.invariant-loop-name
invariant-loop-name l = and_by_name l.ordered l.name-iterator ≡ by_name l.values.entries
