-- A rewriting keeps the size of a type.
use Rattle.std.proofs.Common.{◌≡◌, ℕ, Bool, true}
use Rattle.btf_records.specs.declared.types.BtfType.{BtfType}
use Rattle.btf_tables.specs.Agreement.{RestsOn, size_ids}
use Rattle.btf_rewrite.specs.Carrying.{AreLeft, Carries}
use Rattle.btf_tables.specs.Holdings.{AreHeld}
use Rattle.btf_tables.specs.Tables.{Table}
use Rattle.btf_tables.specs.TypeSizes.{type_size}

pub same_size : (is_left : ℕ → BtfType → Bool) (old new : Table) (id : ℕ) → RestsOn size_ids old id (λ table. type_size table id) → AreHeld size_ids → Carries is_left old new → (reached : ℕ → Bool) → AreLeft is_left reached old → reached id ≡ true → type_size new id ≡ type_size old id
same_size is_left old new id rests held carries reached left here = rests.alike reached new (held.agree reached old new (carries.ids reached left)) here
