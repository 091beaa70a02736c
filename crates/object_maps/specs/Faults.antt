-- The faults of the maps of an object, and the errors that name them.
use Rattle.std.specs.Prelude.{ℕ, List, [], ◌∷◌, Contains, Bool, Option, Some, None, if◌then◌else◌}
use Rattle.std.specs.Option.{IsSomeAnd}
use Rattle.std.specs.String.{string_bytes}
use Rattle.btf_records.specs.declared.error.BtfError.{BtfError}
use Rattle.btf_records.specs.declared.error.BtfError.TheVariants as btf
use Rattle.ebpf_items.specs.declared.error.ParseError.{ParseError}
use Rattle.ebpf_items.specs.declared.error.ParseError.TheVariants as error
use Rattle.object_maps.specs.declared.lookup.DefinitionError.{DefinitionError}
use Rattle.object_maps.specs.declared.lookup.DefinitionError.TheVariants as definition_error

-- The faults, in order: The section of this name has no symbol that could be a map. The definition
-- of the map of this name doesn't fit its section, or its size doesn't fit in 32 bits. Types define
-- maps, and there is no table. No symbol of the section has the name of this map. A look-up in the
-- table fails. A map inside the map of this name is pinned, or holds maps. The array of inner maps
-- has elements.
pub data MapFault : Type 0 where
  NoSymbols : (name : List ℕ) → MapFault
  BadDefinition : (name : List ℕ) → MapFault
  NoTable : MapFault
  NoSymbol : (name : List ℕ) → MapFault
  NoType : (error : BtfError) → MapFault
  PinnedInnerMap : (name : List ℕ) → MapFault
  MapsInInnerMap : (name : List ℕ) → MapFault
  ValuesWithCount : (name : List ℕ) → MapFault

-- The fault of a map that an error of types names.
abbrev pub types_fault : BtfError → MapFault
types_fault (btf.InnerMapCannotBePinned name) = PinnedInnerMap (string_bytes name)
types_fault (btf.MultiLevelMapInMapNotSupported name) = MapsInInnerMap (string_bytes name)
types_fault (btf.InvalidValuesSpec name) = ValuesWithCount (string_bytes name)
types_fault e = NoType e

-- The fault of the map of a name whose struct is refused.
abbrev pub struct_fault : List ℕ → DefinitionError → MapFault
struct_fault name definition_error.PinnedInnerMap = PinnedInnerMap name
struct_fault name definition_error.MapsInInnerMap = MapsInInnerMap name
struct_fault name definition_error.ValuesWithCount = ValuesWithCount name
struct_fault name (definition_error.Types e) = types_fault e

-- The fault of maps that an error names.
abbrev pub fault_of : ParseError → Option MapFault
fault_of (error.NoSymbolsForSection name) = Some (NoSymbols (string_bytes name))
fault_of (error.InvalidMapDefinition name) = Some (BadDefinition (string_bytes name))
fault_of error.NoBTF = Some NoTable
fault_of (error.SymbolNotFound name) = Some (NoSymbol (string_bytes name))
fault_of (error.BtfError e) = Some (types_fault e)
fault_of _ = None

-- An error names one of these faults.
abbrev pub Says : List MapFault → ParseError → Type 0
Says faults e = IsSomeAnd (fault_of e) (Contains faults)

-- The fault of a section without symbols for maps.
abbrev pub symbols_lack : List ℕ → Bool → List MapFault
symbols_lack name there = if there then [] else NoSymbols name ∷ []
