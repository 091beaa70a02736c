-- Records that are written with the bytes they were read from.
use Rattle.std.specs.Prelude.{◌≡◌, ℕ, ◌==◌, ◌&&◌, nat_lt, Bool, true, List, ◌++◌}
use Rattle.std.specs.List.{flat_map}
use Rattle.btf_encoding.specs.Records.{Begins, Spells, name_at, record_bytes, third_at}
use Rattle.btf_records.specs.Words.{word_at}
use Rattle.btf_records.specs.declared.kind.BtfKind.{BtfKind}
use Rattle.btf_records.specs.declared.kind.BtfKind.TheVariants as kinds
use Rattle.btf_records.specs.declared.types.BtfType.{BtfType}
use Rattle.btf_records.specs.declared.words.Endianness.{Endianness}

-- The words of a record that `type_in` drops have the values that `words_of` writes.
abbrev pub is_kept : BtfKind → Endianness → List ℕ → Bool
is_kept kinds.Unknown order bytes =
    (name_at order bytes == 0) && ((word_at order bytes 4 == 0) && (third_at order bytes == 0))
is_kept kinds.Array order bytes = third_at order bytes == 0
is_kept kinds.Fwd order bytes = third_at order bytes == 0
is_kept kinds.Var order bytes = nat_lt (word_at order bytes 12) 4
is_kept _ order bytes = true

-- The bytes are records, one after the other.
pub record AreRecords (order : Endianness) (bytes : List ℕ) : Type 0 where
  pub types : List BtfType
  pub spelled : Spells order types bytes

-- The records that the bytes begin with, up to the rest, are written after `old`, and read back as
-- the same records.
pub record AreWrittenUpTo (order : Endianness) (bytes rest old new : List ℕ) : Type 0 where
  pub front : List BtfType
  pub begins : Begins order front rest bytes
  pub written : new ≡ old ++ flat_map (record_bytes order) front
  pub spelled : Spells order front (flat_map (record_bytes order) front)

-- The only records that the bytes spell are written after `old`, and read back as the same records.
pub record IsWrittenAgain (order : Endianness) (bytes old new : List ℕ) : Type 0 where
  pub written : (types : List BtfType)
      → Spells order types bytes
      → new ≡ old ++ flat_map (record_bytes order) types
  pub spelled : (types : List BtfType)
      → Spells order types bytes
      → Spells order types (flat_map (record_bytes order) types)
