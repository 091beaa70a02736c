-- The record of an id. The first record has id 1.
use Rattle.std.specs.Prelude.{ℕ, ◌-◌, ◌==◌, if◌then◌else◌, List, Option, Some, slice_get}
use Rattle.btf_records.specs.declared.types.BtfType.{BtfType}
use Rattle.btf_records.specs.declared.types.BtfType.TheVariants.{Unknown}

-- The record of id 0 is void.
abbrev pub record_of_id : List BtfType → ℕ → Option BtfType
record_of_id types id = if id == 0 then Some Unknown else slice_get types (id - 1)
