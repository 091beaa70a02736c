use Rattle.std.proofs.Common.{◌≡◌, ◌++◌, drop}
use Rattle.std.specs.Option.{option_copied}
use Rattle.std.specs.Prelude.{map}
use Rattle.report_needs.specs.Kinds.{kind_need}
use Rattle.report_needs.proofs.kinds.needs_of.Given as goal

abbrev pub invariant-loop-kind : goal.invariant-loop-kind
invariant-loop-kind l = l.needs.items ++ map (kind_need (option_copied l.kernel)) (drop l.kind-index l.kinds) ≡ map (kind_need (option_copied l.kernel)) l.kinds
