use Rattle.std.proofs.Common.{◌≡◌, ◌++◌, drop, length, map}
use Rattle.btf_sanitize.specs.Rewritten.{member_of_variant}
use Rattle.btf_sanitize.proofs.items.members_of_variants.Given as goal

abbrev pub invariant-loop-variant : goal.invariant-loop-variant
invariant-loop-variant l = (l.members.items ++ map (member_of_variant l.placeholder) (drop l.variant-index l.variants) ≡ map (member_of_variant l.placeholder) l.variants) × (length l.members.items ≡ l.variant-index)
