-- The table that a section holds ("BTF Type and String Encoding").
use Rattle.std.specs.Prelude.{◌≡◌, ℕ, List, map}
use Rattle.btf_encoding.specs.Records.{without_fallback}
use Rattle.btf_tables.specs.Tables.{IsTable, Table, TableFault}
use Rattle.btf_records.specs.declared.error.BtfError.{BtfError}
use Rattle.btf_records.specs.declared.words.Endianness.{Endianness}

-- The section holds the table and no other, and has no fault.
pub record HoldsTable (order : Endianness) (bytes : List ℕ) (table : Table) : Type 0 where
  pub holds : IsTable order bytes table
  pub faultless : (e : BtfError) → TableFault order bytes e → ⊥
  pub alone : (other : Table) → IsTable order bytes other → other ≡ table

-- The table without the enums that unions stand for, which have no bytes.
abbrev pub without_fallbacks : Table → Table
without_fallbacks table = record table { types = map without_fallback table.types }
