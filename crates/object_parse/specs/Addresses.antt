-- A set of addresses to which that of a symbol is added, if the symbol defines a function.
use Rattle.std.specs.Prelude.{◌≡◌, ℕ, ◌==◌, ◌||◌, Bool, [], ◌∷◌}
use Rattle.std.specs.BTreeSet.{BTreeSet, contains}
use Rattle.std.specs.List.{list_any}
use Rattle.std.specs.Ordering.{nat_cmp}
use Rattle.elf64.specs.Symbols.{Symbol}
use Rattle.object_parse.specs.TextSections.{function_addresses}

-- The result says whether the address was in the set before.
pub record AddsAddress (old new : BTreeSet ℕ) (symbol : Symbol) (answer : Bool) : Type 0 where
  pub at : (address : ℕ)
      → contains nat_cmp new address
      ≡ (contains nat_cmp old address
      || list_any (λ b. b == address) (function_addresses (symbol ∷ [])))
  pub repeated : answer ≡ list_any (λ b. contains nat_cmp old b) (function_addresses (symbol ∷ []))
