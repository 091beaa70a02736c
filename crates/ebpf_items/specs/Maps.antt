-- The view of maps that contracts use.
use Rattle.std.specs.Prelude.{ℕ, ◌==◌, Bool, true, false, List, [], Option, Some, None, unwrap_or, if◌then◌else◌}
use Rattle.std.specs.Option.{option_map}
use Rattle.section_kinds.specs.declared.section_kind.EbpfSectionKind.{EbpfSectionKind}
use Rattle.section_kinds.specs.declared.section_kind.EbpfSectionKind.TheVariants.{Undefined, BtfMaps}
use Rattle.ebpf_items.specs.declared.maps.MapWord.{MapWord}
use Rattle.ebpf_items.specs.declared.maps.MapWord.TheVariants as word
use Rattle.ebpf_items.specs.declared.maps.PinningType.{PinningType}
use Rattle.ebpf_items.specs.declared.maps.PinningType.TheVariants as pinning
use Rattle.ebpf_items.specs.declared.maps.bpf_map_def.{bpf_map_def}
use Rattle.ebpf_items.specs.declared.maps.BtfMapDef.{BtfMapDef}
use Rattle.ebpf_items.specs.declared.maps.bpf_map_info.{bpf_map_info}
use Rattle.ebpf_items.specs.declared.maps.Map.{Map}
use Rattle.ebpf_items.specs.declared.maps.Map.TheVariants.{Legacy, Btf}

-- The pinning that a number encodes, if it encodes one.
abbrev pub pinning_of : ℕ → Option PinningType
pinning_of value =
    if value == 0 then Some pinning.None else if value == 1 then Some pinning.ByName else None

-- The pinning of a map definition. Unknown numbers mean no pinning.
abbrev pub pinning_or_none : ℕ → PinningType
pinning_or_none value = unwrap_or (pinning_of value) pinning.None

-- The default of a legacy definition: zeros, and no pinning.
abbrev pub zero_map_def : bpf_map_def
zero_map_def = record {
  map_type = 0;
  key_size = 0;
  value_size = 0;
  max_entries = 0;
  map_flags = 0;
  id = 0;
  pinning = pinning.None;
}

abbrev pub zero_btf_map_def : BtfMapDef
zero_btf_map_def = record {
  map_type = 0;
  key_size = 0;
  value_size = 0;
  max_entries = 0;
  map_flags = 0;
  map_extra = 0;
  pinning = pinning.None;
  btf_key_type_id = 0;
  btf_value_type_id = 0;
}

-- The words that define a map.
pub record MapWords : Type 0 where
  pub map_type : ℕ
  pub key_size : ℕ
  pub value_size : ℕ
  pub max_entries : ℕ
  pub map_flags : ℕ
  pub map_extra : ℕ
  pub pinning : PinningType
  pub id : ℕ
  pub btf_key_type_id : ℕ
  pub btf_value_type_id : ℕ

abbrev pub legacy_words : bpf_map_def → MapWords
legacy_words def = record {
  map_type = def.map_type;
  key_size = def.key_size;
  value_size = def.value_size;
  max_entries = def.max_entries;
  map_flags = def.map_flags;
  map_extra = 0;
  pinning = def.pinning;
  id = def.id;
  btf_key_type_id = 0;
  btf_value_type_id = 0;
}

abbrev pub btf_words : BtfMapDef → MapWords
btf_words def = record {
  map_type = def.map_type;
  key_size = def.key_size;
  value_size = def.value_size;
  max_entries = def.max_entries;
  map_flags = def.map_flags;
  map_extra = def.map_extra;
  pinning = def.pinning;
  id = 0;
  btf_key_type_id = def.btf_key_type_id;
  btf_value_type_id = def.btf_value_type_id;
}

-- The words with one word set.
abbrev pub with_word : MapWord → ℕ → MapWords → MapWords
with_word word.MapType value words = record words { map_type = value }
with_word word.KeySize value words = record words { key_size = value }
with_word word.ValueSize value words = record words { value_size = value }
with_word word.MaxEntries value words = record words { max_entries = value }
with_word word.MapFlags value words = record words { map_flags = value }
with_word word.MapExtra value words = record words { map_extra = value }
with_word word.Pinning value words = record words { pinning = pinning_or_none value }

-- A map: whether types define it, its words, the words of its inner maps, its section and symbol,
-- and its bytes.
pub record MapView : Type 0 where
  pub is_btf : Bool
  pub words : MapWords
  pub inner : Option MapWords
  pub section_index : ℕ
  pub section_kind : EbpfSectionKind
  pub symbol_index : Option ℕ
  pub contents : List ℕ

abbrev pub map_view : Map → MapView
map_view (Legacy m) = record {
  is_btf = false;
  words = legacy_words m.def;
  inner = option_map legacy_words m.inner_def;
  section_index = m.section_index;
  section_kind = m.section_kind;
  symbol_index = m.symbol_index;
  contents = m.contents.items;
}
map_view (Btf m) = record {
  is_btf = true;
  words = btf_words m.def;
  inner = option_map btf_words m.inner_def;
  section_index = m.section_index;
  section_kind = BtfMaps;
  symbol_index = Some m.symbol_index;
  contents = m.contents.items;
}

-- A map that types define, with its section and its symbol.
abbrev pub btf_map_view : MapWords → Option MapWords → ℕ → ℕ → MapView
btf_map_view words inner section_index symbol_index = record {
  is_btf = true;
  words = words;
  inner = inner;
  section_index = section_index;
  section_kind = BtfMaps;
  symbol_index = Some symbol_index;
  contents = [];
}

abbrev pub with_value_size : MapView → ℕ → MapView
with_value_size m size = record m { words = record m.words { value_size = size } }

abbrev pub with_max_entries : MapView → ℕ → MapView
with_max_entries m max_entries = record m { words = record m.words { max_entries = max_entries } }

-- A map with words but without a symbol of its own and without bytes.
abbrev pub bare_view : Bool → MapWords → MapView
bare_view is_btf words = record {
  is_btf = is_btf;
  words = words;
  inner = None;
  section_index = 0;
  section_kind = if is_btf then BtfMaps else Undefined;
  symbol_index = if is_btf then Some 0 else None;
  contents = [];
}

-- The inner map of a map of maps.
abbrev pub inner_view : MapView → Option MapView
inner_view m = option_map (bare_view m.is_btf) m.inner

-- The words of a map that the kernel describes. A map with a type for its values has BTF types.
-- Other maps have an id.
abbrev pub words_of_info : bpf_map_info → PinningType → MapWords
words_of_info info pinning = record {
  map_type = info.type_;
  key_size = info.key_size;
  value_size = info.value_size;
  max_entries = info.max_entries;
  map_flags = info.map_flags;
  map_extra = if info.btf_value_type_id == 0 then 0 else info.map_extra;
  pinning = pinning;
  id = if info.btf_value_type_id == 0 then info.id else 0;
  btf_key_type_id = if info.btf_value_type_id == 0 then 0 else info.btf_key_type_id;
  btf_value_type_id = info.btf_value_type_id;
}

abbrev pub view_of_info : bpf_map_info → PinningType → MapView
view_of_info info pinning =
    bare_view (if info.btf_value_type_id == 0 then false else true) (words_of_info info pinning)
