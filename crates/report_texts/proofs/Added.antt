-- Names that are added one helper after the other.
use Rattle.std.proofs.Common.{◌≡◌, ℤ, List}
use Rattle.btf_tables.specs.Tables.{Table}
use Rattle.report_texts.specs.Helpers.{name_after}
use Rattle.report_texts.specs.declared.helper_names.HelperNames.{HelperNames}

-- The names after those of the rest are added are the names after all are added.
pub record AreLeft (kernel : Table) (left all : List ℤ) (old now : HelperNames) : Type 0 where
  pub each : (number : ℤ) → name_after kernel left now number ≡ name_after kernel all old number
