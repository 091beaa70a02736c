use Rattle.std.proofs.Common.{◌≡◌, ◌-◌}
use Rattle.core_match.specs.VariantMatches.{first_variant}
use Rattle.core_match.proofs.variant.first_variant.Given as goal

abbrev pub invariant-loop-index : goal.invariant-loop-index
invariant-loop-index l = first_variant l.target l.t l.name (l.count - l.index) l.index ≡ first_variant l.target l.t l.name l.count 0
