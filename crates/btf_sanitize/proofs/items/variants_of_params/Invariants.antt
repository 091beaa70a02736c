use Rattle.std.proofs.Common.{◌≡◌, ◌++◌, drop, length, map}
use Rattle.btf_sanitize.specs.Rewritten.{variant_of_param}
use Rattle.btf_sanitize.proofs.items.variants_of_params.Given as goal

abbrev pub invariant-loop-param : goal.invariant-loop-param
invariant-loop-param l = (l.variants.items ++ map variant_of_param (drop l.param-index l.params) ≡ map variant_of_param l.params) × (length l.variants.items ≡ l.param-index)
