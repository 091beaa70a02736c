-- The maps of a plan.
use Rattle.std.specs.Prelude.{ℕ, Bool, List}
use Rattle.std.specs.Option.{option_map}
use Rattle.ebpf_items.specs.Maps as items
use Rattle.ebpf_items.specs.Maps.{MapView, map_view}
use Rattle.ebpf_items.specs.declared.maps.Map.{Map}
use Rattle.plan_text.specs.Content.{MapContent}
use Rattle.plan_lines.specs.declared.map_words.MapWords.{MapWords}
use Rattle.settings.specs.Content.{SettingsContent}
use Rattle.load_plan.specs.Numbers.{number_of}

-- The words of a map, as those of a plan's map.
abbrev pub plan_words : items.MapWords → MapWords
plan_words w = record {
  map_type = w.map_type;
  key_size = w.key_size;
  value_size = w.value_size;
  max_entries = w.max_entries;
  map_flags = w.map_flags;
  map_extra = w.map_extra;
  pinning = w.pinning;
  id = w.id;
  btf_key_type_id = w.btf_key_type_id;
  btf_value_type_id = w.btf_value_type_id;
}

-- Whether types define a map.
abbrev pub is_typed : Map → Bool
is_typed m = (map_view m).is_btf

-- A map of a plan, with its name and number.
abbrev pub plan_map_of : List ℕ → ℕ → MapView → MapContent
plan_map_of name number m = record {
  name = name;
  number = number;
  is_btf = m.is_btf;
  words = plan_words m.words;
  contents = m.contents;
  inner = option_map plan_words m.inner;
}

-- A map of a plan, with the number that is set for it.
abbrev pub plan_map : SettingsContent → List ℕ × MapView → MapContent
plan_map settings e = plan_map_of e.0 (number_of settings e.0) e.1
