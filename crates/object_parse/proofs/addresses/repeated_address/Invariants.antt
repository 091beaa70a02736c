use Rattle.std.proofs.Common.{◌≡◌, ℕ, ◌==◌, take}
use Rattle.std.specs.BTreeSet.{contains}
use Rattle.std.specs.List.{list_any}
use Rattle.std.specs.Ordering.{nat_cmp}
use Rattle.object_parse.specs.Faults.{AreDistinct}
use Rattle.object_parse.specs.TextSections.{function_addresses}
use Rattle.object_parse.proofs.addresses.repeated_address.Given as goal

abbrev pub invariant-loop-symbol : goal.invariant-loop-symbol
invariant-loop-symbol l = record {
  seen : (address : ℕ) → contains nat_cmp l.addresses address ≡ list_any (λ b. b == address) (function_addresses (take l.symbol-index l.symbols));
  distinct : AreDistinct (function_addresses (take l.symbol-index l.symbols));
}
