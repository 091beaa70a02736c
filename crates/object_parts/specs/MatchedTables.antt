-- Kernel tables by their indexes in a list of tables, strictly increasing.
use Rattle.std.specs.Prelude.{ℕ, List, fold}
use Rattle.std.specs.BTreeSet.{insert_key}
use Rattle.std.specs.Ordering.{nat_cmp}

abbrev pub with_table : List ℕ → ℕ → List ℕ
with_table tables place = insert_key nat_cmp tables place

abbrev pub with_tables : List ℕ → List ℕ → List ℕ
with_tables tables others = fold with_table tables others
