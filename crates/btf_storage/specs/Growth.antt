-- The limits of the size of a table.
use Rattle.std.specs.Prelude.{ℕ, ◌<◌, ◌≤◌, ◌^◌, ◌⊎◌, List, length}
use Rattle.std.specs.List.{flat_map}
use Rattle.btf_encoding.specs.Records.{record_bytes}
use Rattle.btf_records.specs.declared.types.BtfType.{BtfType}
use Rattle.btf_records.specs.declared.words.Endianness.{Endianness}

-- The number of bytes or types overflows 32 bits.
abbrev pub TooMany : ℕ → Type 0
TooMany n = 2 ^ 32 ≤ n

-- The number of types, or of their bytes, overflows 32 bits.
abbrev pub AreTooMany : Endianness → List BtfType → Type 0
AreTooMany order types =
    TooMany (length (flat_map (record_bytes order) types)) ⊎ TooMany (length types)

pub record AreFew (order : Endianness) (types : List BtfType) : Type 0 where
  pub bytes : length (flat_map (record_bytes order) types) < 2 ^ 32
  pub count : length types < 2 ^ 32
