use Rattle.std.proofs.Common.{◌≡◌, ◌||◌, ℕ, List}
use Rattle.extern_resolution.specs.Outcomes.{is_name_sought}
use Rattle.kernel_symbols.specs.Texts.{is_among}
use Rattle.object_externs.specs.Names.{by_bytes}
use Rattle.extern_resolution.proofs.addressed.sought_names.Given as goal

abbrev pub invariant-loop-name : goal.invariant-loop-name
invariant-loop-name l = (name : List ℕ) → (is_among l.names.items name || is_name_sought (by_bytes l.name-iterator) name) ≡ is_name_sought l.externs.by_name name
