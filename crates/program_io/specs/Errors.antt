-- The errors for arguments and files.
use Rattle.std.specs.Prelude.{◌≡◌, ℕ, nat_eq, Bool, true, false, List, [], ◌∷◌}
use Rattle.std.specs.List.{starts_with}
use Rattle.std.specs.String.{string_bytes}
use Rattle.btf_records.specs.declared.words.Endianness.{Endianness}
use Rattle.btf_records.specs.declared.words.Endianness.TheVariants.{Little, Big}
use Rattle.btf_tables.specs.Tables.{TableFault}
use Rattle.btf_records.specs.declared.error.BtfError.{BtfError}
use Rattle.program_io.specs.Tables.{found_order, found_table, HasOtherOrder}
use Rattle.program_io.specs.declared.error.InputError.{InputError}
use Rattle.program_io.specs.declared.error.InputError.TheVariants.{EmptyFolder, NoTypes, OtherOrder, OutOfMemory, Read, Types, TypesOrder, Unmarked, WordNotText}
use Rattle.type_files.specs.Starts.{start_of}
use Rattle.type_files.specs.Tables.{HasTypesFault, IsFound}
use Rattle.type_files.specs.declared.fault.TypesFault.{TypesFault}
use Rattle.type_files.specs.declared.starts.FileStart.TheVariants.{Unknown}
use Rattle.type_files.specs.declared.tables.FoundTypes.{FoundTypes}

-- The arguments can't be read.
abbrev pub IsWordError : InputError → Type 0
IsWordError WordNotText = Unit {0}
IsWordError OutOfMemory = Unit {0}
IsWordError _ = ⊥

-- A file or a folder with a name can't be read.
abbrev pub IsUnread : List ℕ → InputError → Type 0
IsUnread name (Read named error) = string_bytes named ≡ name
IsUnread name OutOfMemory = Unit {0}
IsUnread name _ = ⊥

-- One of several files can't be read.
abbrev pub IsReadError : InputError → Type 0
IsReadError (Read named error) = Unit {0}
IsReadError OutOfMemory = Unit {0}
IsReadError _ = ⊥

-- One of several folders can't be read, or has no files.
abbrev pub IsFolderError : InputError → Type 0
IsFolderError (Read named error) = Unit {0}
IsFolderError (EmptyFolder named wanted) = Unit {0}
IsFolderError OutOfMemory = Unit {0}
IsFolderError _ = ⊥

-- The magic of types in the other byte order.
abbrev pub other_magic : Endianness → List ℕ
other_magic Little = 235 ∷ 159 ∷ []
other_magic Big = 159 ∷ 235 ∷ []

abbrev pub begin_otherwise : List ℕ → Endianness → Bool
begin_otherwise bytes order = starts_with nat_eq bytes (other_magic order)

-- The bytes of the file with a name don't hold types.
abbrev pub IsTypesError : List ℕ → List ℕ → Endianness → InputError → Type 0
IsTypesError name bytes order (Types named e) =
    (string_bytes named ≡ name)
    × TableFault order bytes e
    × (begin_otherwise bytes order ≡ false)
IsTypesError name bytes order (TypesOrder named e) =
    (string_bytes named ≡ name)
    × TableFault order bytes e
    × (begin_otherwise bytes order ≡ true)
IsTypesError name bytes order OutOfMemory = Unit {0}
IsTypesError name bytes order _ = ⊥

-- A file with a name holds no types of a kernel.
abbrev pub IsNoTypes : List ℕ → TypesFault → InputError → Type 0
IsNoTypes name fault (NoTypes named why) = (string_bytes named ≡ name) × (why ≡ fault)
IsNoTypes name fault OutOfMemory = Unit {0}
IsNoTypes name fault _ = ⊥

abbrev pub HasNoTypes : List ℕ → List ℕ → InputError → Type 0
HasNoTypes name bytes (NoTypes named fault) = (string_bytes named ≡ name) × HasTypesFault bytes fault
HasNoTypes name bytes OutOfMemory = Unit {0}
HasNoTypes name bytes _ = ⊥

-- A file with a name doesn't begin with the magic of types in a byte order.
abbrev pub IsUnmarked : List ℕ → Bool → InputError → Type 0
IsUnmarked name is_other_order (OtherOrder named) =
    (string_bytes named ≡ name) × (is_other_order ≡ true)
IsUnmarked name is_other_order (Unmarked named) =
    (string_bytes named ≡ name) × (is_other_order ≡ false)
IsUnmarked name is_other_order OutOfMemory = Unit {0}
IsUnmarked name is_other_order _ = ⊥

-- The types found in a file can't be parsed.
pub record HasTableFault (bytes : List ℕ) (order : Endianness) (e : BtfError) : Type 0 where
  pub found : FoundTypes
  pub is : IsFound bytes found
  pub fault : TableFault (found_order order found) (found_table found) e

-- A file with a name holds no types of a kernel, or they can't be parsed.
abbrev pub IsGivenError : List ℕ → List ℕ → Endianness → InputError → Type 0
IsGivenError name bytes order (NoTypes named fault) =
    (string_bytes named ≡ name) × HasTypesFault bytes fault
IsGivenError name bytes order (Types named e) =
    (string_bytes named ≡ name) × HasTableFault bytes order e
IsGivenError name bytes order (TypesOrder named e) =
    (string_bytes named ≡ name) × HasTableFault bytes order e
IsGivenError name bytes order OutOfMemory = Unit {0}
IsGivenError name bytes order _ = ⊥

-- The same, or it doesn't begin with the magic of types in a byte order.
abbrev pub IsMarkedError : List ℕ → List ℕ → Endianness → InputError → Type 0
IsMarkedError name bytes order (Unmarked named) =
    (string_bytes named ≡ name) × (start_of bytes ≡ Unknown)
IsMarkedError name bytes order (OtherOrder named) =
    (string_bytes named ≡ name) × HasOtherOrder bytes order
IsMarkedError name bytes order error = IsGivenError name bytes order error
