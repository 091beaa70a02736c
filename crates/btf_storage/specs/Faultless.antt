-- The absence of faults.
use Rattle.btf_records.specs.declared.error.BtfError.{BtfError}

-- None of these faults occurs.
pub record IsFaultless (fault : BtfError → Type 0) : Type 0 where
  pub none : (e : BtfError) → fault e → ⊥
