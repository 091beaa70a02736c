-- The maps that relocations name are those of the plan.
use Rattle.std.proofs.Common.{◌≡◌, ℕ, Bool, true, false, List, [], ◌∷◌, ◌++◌, map, Option, Some, None, refl, sym, subst, inl, inr}
use Rattle.std.specs.Prelude.{find, reverse, if◌then◌else◌, option_and_then}
use Rattle.std.specs.Option.{option_or}
use Rattle.std.proofs.lemmas.List.{reverse-append}
use Rattle.ebpf_items.specs.Maps.{MapView}
use Rattle.elf64.specs.Relocations.{Relocation}
use Rattle.elf64.specs.Symbols.{Symbol}
use Rattle.object_file.specs.Symbols.{symbol_at}
use Rattle.load_plan.specs.Numbers.{numbered}
use Rattle.load_plan.specs.PlanMaps.{plan_map}
use Rattle.plan_text.specs.Content.{MapContent}
use Rattle.settings.specs.Content.{SettingsContent}
use Rattle.slot_relocation.specs.Laws.{map_by, map_of}
use Rattle.slot_relocation.specs.Maps.{MapsGiven, NumberedMap, given, is_of_section, is_of_symbol, last_map, map_for, symbol_index}
use Rattle.load_plan.specs.Programs.{HasMap}

-- Each of these maps is a map of a plan.
abbrev HasMaps : List MapContent → List NumberedMap → Type 0
HasMaps ps [] = Unit {0}
HasMaps ps (m ∷ ms) = HasMap ps m × HasMaps ps ms

with_one : (p : MapContent) (ps : List MapContent) (ms : List NumberedMap) → HasMaps ps ms → HasMaps (p ∷ ps) ms
with_one p ps [] has = tt
with_one p ps (m ∷ ms) has = (inr has.0, with_one p ps ms has.1)

has_numbered : (settings : SettingsContent) (maps : List (List ℕ × MapView)) → HasMaps (map (plan_map settings) maps) (map (numbered settings) maps)
has_numbered settings [] = tt
has_numbered settings (e ∷ es) = (inl (refl, refl), with_one (plan_map settings e) (map (plan_map settings) es) (map (numbered settings) es) (has_numbered settings es))

has_both : (ps : List MapContent) (ms ns : List NumberedMap) → HasMaps ps ms → HasMaps ps ns → HasMaps ps (ms ++ ns)
has_both ps [] ns has more = more
has_both ps (m ∷ ms) ns has more = (has.0, has_both ps ms ns has.1 more)

has_reversed : (ps : List MapContent) (ms : List NumberedMap) → HasMaps ps ms → HasMaps ps (reverse ms)
has_reversed ps [] has = tt
has_reversed ps (m ∷ ms) has =
    subst (λ (l : List NumberedMap). HasMaps ps l) (sym (reverse-append (m ∷ []) ms)) (has_both ps (reverse ms) (m ∷ []) (has_reversed ps ms has.1) (has.0, tt))

has_under : (ps : List MapContent) (b : Bool) (here : NumberedMap) (later : Option NumberedMap) (m : NumberedMap) → HasMap ps here → (if b then Some here else later) ≡ Some m → (later ≡ Some m → HasMap ps m) → HasMap ps m
has_under ps true here later m has is rest = let same : here ≡ m = cc in subst (λ x. HasMap ps x) same has
has_under ps false here later m has is rest = rest is

has_found : (ps : List MapContent) (test : NumberedMap → Bool) (ms : List NumberedMap) (m : NumberedMap) → HasMaps ps ms → find test ms ≡ Some m → HasMap ps m
has_found ps test [] m has is = absurd (cc)
has_found ps test (x ∷ xs) m has is = has_under ps (test x) x (find test xs) m has.0 is (has_found ps test xs m has.1)

has_either : (ps : List MapContent) (one other : Option NumberedMap) (m : NumberedMap) → option_or one other ≡ Some m → (one ≡ Some m → HasMap ps m) → (other ≡ Some m → HasMap ps m) → HasMap ps m
has_either ps (Some x) other m is first second = first is
has_either ps None other m is first second = second is

has_for : (ps : List MapContent) (ms : List NumberedMap) (symbol section : ℕ) (m : NumberedMap) → HasMaps ps ms → map_for ms symbol section ≡ Some m → HasMap ps m
has_for ps ms symbol section m has is =
    has_either ps (last_map (is_of_symbol symbol) ms) (last_map (is_of_section section) ms) m is
    (has_found ps (is_of_symbol symbol) (reverse ms) m (has_reversed ps ms has))
    (has_found ps (is_of_section section) (reverse ms) m (has_reversed ps ms has))

has_within : (ps : List MapContent) (ms : List NumberedMap) (symbol : ℕ) (section : Option ℕ) (m : NumberedMap) → HasMaps ps ms → option_and_then (map_for ms symbol) section ≡ Some m → HasMap ps m
has_within ps ms symbol (Some section) m has is = has_for ps ms symbol section m has is
has_within ps ms symbol None m has is = absurd (cc)

has_by : (ps : List MapContent) (g : MapsGiven) (symbol : ℕ) (s : Option Symbol) (m : NumberedMap) → HasMaps ps g.maps → option_and_then (map_by g symbol) s ≡ Some m → HasMap ps m
has_by ps g symbol (Some s) m has is = has_within ps g.maps symbol s.section_index m has is
has_by ps g symbol None m has is = absurd (cc)

pub named_maps : (settings : SettingsContent) (maps : List (List ℕ × MapView)) (file text_sections : List ℕ) (r : Relocation) (m : NumberedMap) → map_of (given file text_sections (map (numbered settings) maps)) r ≡ Some m → HasMap (map (plan_map settings) maps) m
named_maps settings maps file text_sections r m is =
    has_by (map (plan_map settings) maps) (given file text_sections (map (numbered settings) maps)) (symbol_index r) (symbol_at file (symbol_index r)) m (has_numbered settings maps) is
