use Rattle.std.proofs.Common.{◌≡◌}
use Rattle.ebpf_object.specs.Hashed.{and_in_order, in_order}
use Rattle.ebpf_object.proofs.hashed.in_order.Given as goal

-- The numbers so far, extended by the rest, are all numbers.
abbrev pub invariant-loop-number : goal.invariant-loop-number
invariant-loop-number l = and_in_order l.ordered.keys l.number-iterator ≡ in_order l.numbers.keys
