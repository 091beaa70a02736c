-- The maps of a section `.maps`, which are defined by types.
use Rattle.std.specs.Prelude.{◌≡◌, ◌⊎◌, ℕ, List, [], ◌∷◌, fold, Contains, Option, Some, None, Result, Ok, Err}
use Rattle.std.specs.List.{flat_map}
use Rattle.std.specs.Option.{option_map}
use Rattle.std.specs.String.{string_bytes}
use Rattle.btf_records.specs.declared.error.BtfError.{BtfError}
use Rattle.btf_records.specs.declared.error.BtfError.TheVariants as btf
use Rattle.btf_records.specs.declared.item.BtfMember.{BtfMember}
use Rattle.btf_records.specs.declared.variables.Var.{Var}
use Rattle.btf_tables.specs.Tables.{Table}
use Rattle.ebpf_items.specs.Maps.{MapWords, btf_words, zero_btf_map_def}
use Rattle.object_maps.specs.Lookups.{and_then, answer_map, members_at, name_at, struct_after_modifiers, variable_at}
use Rattle.object_maps.specs.Members.{member_said, member_said_inside, with_said}
use Rattle.object_maps.specs.declared.definition.BtfDefinition.{BtfDefinition}
use Rattle.object_maps.specs.declared.lookup.DefinitionError.{DefinitionError}
use Rattle.object_maps.specs.declared.lookup.DefinitionError.TheVariants as definition_error
use Rattle.object_maps.specs.declared.member.Said.{Said}
use Rattle.object_maps.specs.declared.member.Said.TheVariants as said

-- The name and the struct of a map variable.
abbrev pub named_struct : Table → Var → Result (List ℕ × ℕ) BtfError
named_struct table v =
    and_then (λ name. answer_map (λ id. (name, id)) (struct_after_modifiers table v.btf_type))
    (name_at table v.name_offset)

abbrev pub map_variable : Table → ℕ → Result (List ℕ × ℕ) BtfError
map_variable table id = and_then (named_struct table) (variable_at table id)

-- The words before any member is read.
abbrev pub zero_words : MapWords
zero_words = btf_words zero_btf_map_def

-- The error that reading a struct yields where memory runs out.
abbrev pub out_of_memory : DefinitionError
out_of_memory = definition_error.Types btf.OutOfMemory

-- ---- An inner map

abbrev pub with_answer : MapWords → Result Said DefinitionError → MapWords
with_answer words (Ok s) = with_said words s
with_answer words (Err r) = words

abbrev pub with_inner_member : Table → MapWords → BtfMember → MapWords
with_inner_member table words m = with_answer words (member_said_inside table m)

-- The words of an inner map. Of several members that set one word, the last one counts.
abbrev pub inner_words : Table → ℕ → MapWords
inner_words table id = fold (with_inner_member table) zero_words (members_at table id)

-- The error that reading a member of an inner map yields, if any.
abbrev pub errors_in : Result Said DefinitionError → List DefinitionError
errors_in (Ok s) = []
errors_in (Err r) = r ∷ []

abbrev pub inner_member_errors : Table → BtfMember → List DefinitionError
inner_member_errors table m = errors_in (member_said_inside table m)

abbrev pub inner_errors : Table → ℕ → List DefinitionError
inner_errors table id = flat_map (inner_member_errors table) (members_at table id)

-- ---- A map

-- The words of a map and those of its inner maps.
pub record Definition : Type 0 where
  pub words : MapWords
  pub inner : Option MapWords

abbrev pub definition_of : BtfDefinition → Definition
definition_of d = record { words = btf_words d.def; inner = option_map btf_words d.inner }

-- The words of the inner map. Of several members that define it, the last one counts.
abbrev pub inner_said : Table → Option MapWords → Said → Option MapWords
inner_said table inner (said.Inner id) = Some (inner_words table id)
inner_said table inner _ = inner

abbrev pub defined_by : Table → Definition → Result Said DefinitionError → Definition
defined_by table d (Ok s) = record {
  words = with_said d.words s;
  inner = inner_said table d.inner s;
}
defined_by table d (Err r) = d

abbrev pub with_member : Table → Definition → BtfMember → Definition
with_member table d m = defined_by table d (member_said table m)

abbrev pub nothing_defined : Definition
nothing_defined = record { words = zero_words; inner = None }

-- The definition by the struct of an id.
abbrev pub defined : Table → ℕ → Definition
defined table id = fold (with_member table) nothing_defined (members_at table id)

-- The errors that reading a member of a map yields, with those of the inner map.
abbrev pub errors_said : Table → Result Said DefinitionError → List DefinitionError
errors_said table (Ok (said.Inner id)) = inner_errors table id
errors_said table (Ok _) = []
errors_said table (Err r) = r ∷ []

abbrev pub member_errors : Table → BtfMember → List DefinitionError
member_errors table m = errors_said table (member_said table m)

abbrev pub errors : Table → ℕ → List DefinitionError
errors table id = flat_map (member_errors table) (members_at table id)

-- The errors that name the map.
abbrev pub HasNamedFault : List DefinitionError → List ℕ → BtfError → Type 0
HasNamedFault all name (btf.InnerMapCannotBePinned n) =
    (string_bytes n ≡ name) × Contains all definition_error.PinnedInnerMap
HasNamedFault all name (btf.MultiLevelMapInMapNotSupported n) =
    (string_bytes n ≡ name) × Contains all definition_error.MapsInInnerMap
HasNamedFault all name (btf.InvalidValuesSpec n) =
    (string_bytes n ≡ name) × Contains all definition_error.ValuesWithCount
HasNamedFault all name _ = ⊥

-- The error reports one of the errors for the map of a name.
abbrev pub IsFaultAmong : List DefinitionError → List ℕ → BtfError → Type 0
IsFaultAmong all name e = Contains all (definition_error.Types e) ⊎ HasNamedFault all name e

abbrev pub HasDefinitionFault : Table → List ℕ → ℕ → BtfError → Type 0
HasDefinitionFault table name id e = IsFaultAmong (errors table id) name e
