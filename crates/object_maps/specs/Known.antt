-- The definitions that were read from a table, by the ids of their structs.
use Rattle.std.specs.Prelude.{◌≡◌, ℕ, [], IfSome}
use Rattle.std.specs.BTreeMap.{BTreeMap, get}
use Rattle.std.specs.Ordering.{nat_cmp}
use Rattle.btf_tables.specs.Tables.{Table}
use Rattle.ebpf_items.specs.Maps.{btf_words}
use Rattle.ebpf_items.specs.declared.maps.BtfMapDef.{BtfMapDef}
use Rattle.object_maps.specs.Definitions.{defined, definition_of, inner_errors, inner_words, errors}
use Rattle.object_maps.specs.declared.definition.BtfDefinition.{BtfDefinition}

-- A struct defines this map, without an error.
pub record IsDefined (table : Table) (id : ℕ) (d : BtfDefinition) : Type 0 where
  pub value : definition_of d ≡ defined table id
  pub accepted : errors table id ≡ []

pub record IsInnerDefined (table : Table) (id : ℕ) (def : BtfMapDef) : Type 0 where
  pub value : btf_words def ≡ inner_words table id
  pub accepted : inner_errors table id ≡ []

abbrev pub AreDefined : Table → BTreeMap ℕ BtfDefinition → Type 0
AreDefined table known = (id : ℕ) → IfSome (get nat_cmp known id) (IsDefined table id)

abbrev pub AreInnerDefined : Table → BTreeMap ℕ BtfMapDef → Type 0
AreInnerDefined table known = (id : ℕ) → IfSome (get nat_cmp known id) (IsInnerDefined table id)
