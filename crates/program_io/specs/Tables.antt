-- The tables in files of types.
use Rattle.std.specs.Prelude.{◌≡◌, ◌≢◌, ℕ, Bool, true, false, List}
use Rattle.btf_records.specs.declared.words.Endianness.{Endianness}
use Rattle.btf_records.specs.declared.words.Endianness.TheVariants.{Big, Little}
use Rattle.btf_tables.specs.Sections.{HoldsTable}
use Rattle.btf_tables.specs.Tables.{Table}
use Rattle.type_files.specs.Starts.{start_of}
use Rattle.type_files.specs.Tables.{IsFound}
use Rattle.type_files.specs.declared.starts.FileStart.{FileStart}
use Rattle.type_files.specs.declared.starts.FileStart.TheVariants as starts
use Rattle.type_files.specs.declared.tables.FoundTypes.{FoundTypes}
use Rattle.type_files.specs.declared.tables.FoundTypes.TheVariants as found

-- The byte order of the types in a file: that of an ELF file is its own.
abbrev pub found_order : Endianness → FoundTypes → Endianness
found_order order (found.Section table own) = own
found_order order (found.File table own) = order
found_order order (found.Unmarked table) = order

abbrev pub found_table : FoundTypes → List ℕ
found_table (found.Section table own) = table.now
found_table (found.File table own) = table.now
found_table (found.Unmarked table) = table.now

-- The types in a file of a kernel, whose magic isn't checked.
pub record HoldsGiven (order : Endianness) (bytes : List ℕ) (table : Table) : Type 0 where
  pub found : FoundTypes
  pub is : IsFound bytes found
  pub holds : HoldsTable (found_order order found) (found_table found) table

-- Whether the types in a file are those of an ELF file, or begin with their magic in a byte order.
abbrev pub IsMarkedIn : Endianness → FoundTypes → Type 0
IsMarkedIn order (found.Section table own) = Unit {0}
IsMarkedIn order (found.File table own) = own ≡ order
IsMarkedIn order (found.Unmarked table) = ⊥

pub record HoldsMarked (order : Endianness) (bytes : List ℕ) (table : Table) : Type 0 where
  pub found : FoundTypes
  pub is : IsFound bytes found
  pub marked : IsMarkedIn order found
  pub holds : HoldsTable (found_order order found) (found_table found) table

-- The file begins with the magic of types in another byte order.
pub record HasOtherOrder (bytes : List ℕ) (order : Endianness) : Type 0 where
  pub own : Endianness
  pub start : start_of bytes ≡ starts.Types own
  pub other : own ≢ order

abbrev pub is_other : Endianness → Endianness → Bool
is_other Little Little = false
is_other Big Big = false
is_other _ _ = true

-- Whether a file that may hold types in a byte order doesn't begin with their magic.
abbrev pub lacks_magic : Endianness → FileStart → Bool
lacks_magic order (starts.Types own) = is_other own order
lacks_magic order starts.Unknown = true
lacks_magic order starts.Elf = false
lacks_magic order (starts.Format format) = false
