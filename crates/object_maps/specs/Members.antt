-- The meaning of the members of a map's struct, by name. libbpf has the names in
-- `parse_btf_map_def` (tools/lib/bpf/libbpf.c). Maps of maps are documented in the kernel's
-- Documentation/bpf/map_of_maps.rst.
use Rattle.std.specs.Prelude.{ℕ, List, [], ◌∷◌, codes, bytes_eq, Result, Ok, Err, unwrap_or}
use Rattle.std.specs.Map.{lookup}
use Rattle.btf_records.specs.declared.item.BtfMember.{BtfMember}
use Rattle.btf_tables.specs.Tables.{Table}
use Rattle.ebpf_items.specs.declared.maps.MapWord.TheVariants as word
use Rattle.ebpf_items.specs.Maps.{MapWords, with_word}
use Rattle.object_maps.specs.Lookups.{and_then, answer_map, in_types, name_at, number_of, sized_target, values_struct}
use Rattle.object_maps.specs.declared.lookup.DefinitionError.{DefinitionError}
use Rattle.object_maps.specs.declared.lookup.DefinitionError.TheVariants.{MapsInInnerMap, PinnedInnerMap}
use Rattle.object_maps.specs.declared.member.Role.{Role}
use Rattle.object_maps.specs.declared.member.Role.TheVariants as role
use Rattle.object_maps.specs.declared.member.Said.{Said}
use Rattle.object_maps.specs.declared.member.Said.TheVariants as said

abbrev pub roles : List (List ℕ × Role)
roles =
    (codes "type", role.Number word.MapType)
    ∷ (codes "key", role.Key)
    ∷ (codes "key_size", role.Number word.KeySize)
    ∷ (codes "value", role.Value)
    ∷ (codes "value_size", role.Number word.ValueSize)
    ∷ (codes "values", role.Values)
    ∷ (codes "max_entries", role.Number word.MaxEntries)
    ∷ (codes "map_flags", role.Number word.MapFlags)
    ∷ (codes "map_extra", role.Number word.MapExtra)
    ∷ (codes "pinning", role.Number word.Pinning)
    ∷ []

-- The role of a member by its name. Members of other names have no meaning.
abbrev pub role_of : List ℕ → Role
role_of name = unwrap_or (lookup (bytes_eq name) roles) role.Other

-- The meaning of a member of a role and a type.
abbrev pub said_by : Table → Role → ℕ → Result Said DefinitionError
said_by table (role.Number w) id = in_types (answer_map (said.Number w) (number_of table id))
said_by table role.Key id = in_types (answer_map said.Key (sized_target table id))
said_by table role.Value id = in_types (answer_map said.Value (sized_target table id))
said_by table role.Values id = answer_map said.Inner (values_struct table id)
said_by table role.Other id = Ok said.Nothing

-- The meaning of a member in the struct of an inner map, which can't be pinned nor hold maps.
abbrev pub said_inside : Table → Role → ℕ → Result Said DefinitionError
said_inside table (role.Number word.Pinning) id = Err PinnedInnerMap
said_inside table role.Values id = Err MapsInInnerMap
said_inside table r id = said_by table r id

abbrev pub role_at : Table → BtfMember → Result Role DefinitionError
role_at table m = answer_map role_of (in_types (name_at table m.name_offset))

abbrev pub member_said : Table → BtfMember → Result Said DefinitionError
member_said table m = and_then (λ r. said_by table r m.btf_type) (role_at table m)

abbrev pub member_said_inside : Table → BtfMember → Result Said DefinitionError
member_said_inside table m = and_then (λ r. said_inside table r m.btf_type) (role_at table m)

-- The words after a member was read. The values of a map of maps are 32-bit descriptors.
abbrev pub with_said : MapWords → Said → MapWords
with_said words (said.Number w value) = with_word w value words
with_said words (said.Key t) = record words { key_size = t.size; btf_key_type_id = t.type_id }
with_said words (said.Value t) = record words { value_size = t.size; btf_value_type_id = t.type_id }
with_said words (said.Inner id) = record words { value_size = 4 }
with_said words said.Nothing = words
