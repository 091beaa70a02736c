-- Maps that are inserted by name.
use Rattle.std.proofs.Common.{◌≡◌, ℕ, ◌+◌, ◌<◌, Bool, true, false, cond, List, [], ◌∷◌, ◌++◌, take, length, get_or, flat_map, Option, Some, None, refl, ap, ap₂, sym, ◌∙◌, reverse, subst}
use Rattle.std.specs.Prelude.{find, bytes_eq, Ok}
use Rattle.std.specs.Option.{option_map, option_or}
use Rattle.std.proofs.lemmas.Grind.{flat_map-append}
use Rattle.std.proofs.lemmas.List.{append-nil, reverse-append, take_more}
use Rattle.std.proofs.lemmas.List.Folds.{find-append}
use Rattle.btf_records.specs.declared.item.DataSecEntry.{DataSecEntry}
use Rattle.btf_tables.specs.Tables.{Table}
use Rattle.elf64.specs.Sections.{Section}
use Rattle.elf64.specs.Symbols.{Symbol}
use Rattle.ebpf_items.specs.Maps.{MapView, btf_map_view, btf_words}
use Rattle.object_maps.specs.Definitions.{Definition, defined, definition_of, map_variable}
use Rattle.object_maps.specs.declared.definition.BtfDefinition.{BtfDefinition}
use Rattle.object_file.specs.Symbols.{last_named as symbol_named}
use Rattle.object_maps.specs.BtfMaps.{entry_map, variable_view}
use Rattle.object_maps.specs.Found.{AreLast, entered, is_named, last_named, with_map}
use Rattle.object_maps.proofs.Named.{at_entered, fold_append, last_value, or-none}

pub entered_none : (maps : List (List ℕ × MapView)) → entered maps [] ≡ maps
unfolding entered
entered_none maps = refl

-- Insertions in two steps.
pub entered_append : (maps a b : List (List ℕ × MapView)) → entered (entered maps a) b ≡ entered maps (a ++ b)
unfolding entered
entered_append maps a b = fold_append maps a b

-- The step of a loop that inserts what it finds.
pub entered_step : {X : Type 0} (start before after : List (List ℕ × MapView)) (f : X → List (List ℕ × MapView)) (xs : List X) (i : ℕ) (x : X) → i < length xs → x ≡ get_or xs i x → before ≡ entered start (flat_map f (take i xs)) → after ≡ entered before (f x) → after ≡ entered start (flat_map f (take (i + 1) xs))
entered_step start before after f xs i x within is held step =
    step
    ∙ ap (λ es. entered es (f x)) held
    ∙ entered_append start (flat_map f (take i xs)) (f x)
    ∙ ap (entered start) (ap (λ ys. flat_map f (take i xs) ++ ys) (sym (append-nil (f x))) ∙ sym (flat_map-append f (take i xs) (x ∷ [])))
    ∙ ap (λ ys. entered start (flat_map f ys)) (ap (λ y. take i xs ++ y ∷ []) is ∙ sym (take_more xs i x within))

-- ---- The map of an entry of a type table

-- What is inserted for an entry is the entry's map.
pub entry_entered : (start after : List (List ℕ × MapView)) (table : Table) (section : Section) (symbols : List Symbol) (entry : DataSecEntry) (name text : List ℕ) (id index place : ℕ) (s : Symbol) (d : BtfDefinition) (m : MapView) → map_variable table entry.btf_type ≡ Ok (name, id) → definition_of d ≡ defined table id → Some s ≡ symbol_named symbols name → s.name ≡ Some name → s.name ≡ Some text → m ≡ btf_map_view (btf_words d.def) (option_map btf_words d.inner) index place → index ≡ section.index → place ≡ s.index → after ≡ with_map start (text, m) → after ≡ entered start (entry_map table section symbols entry)
unfolding entered
entry_entered start after table section symbols entry name text id index place s d m variable definition found named called view here there step =
    let same : text ≡ name = cc in
    let seen : m ≡ variable_view table section id s = view ∙ ap₂ (btf_map_view (btf_words d.def) (option_map btf_words d.inner)) here there ∙ ap (λ (x : Definition). btf_map_view x.words x.inner section.index s.index) definition in
    rw (variable, ← found) (step ∙ ap₂ (λ (n : List ℕ) (v : MapView). with_map start (n, v)) same seen)

-- ---- The map of a name

joined : (found : Option (List ℕ × MapView)) (b : Bool) (m : List ℕ × MapView) → option_map (λ f. f.1) (option_or found (cond b (Some m) None)) ≡ option_or (option_map (λ f. f.1) found) (cond b (Some m.1) None)
joined (Some f) b m = refl
joined None true m = refl
joined None false m = refl

last-is : (found : List (List ℕ × MapView)) (name : List ℕ) → last_named found name ≡ last_value name found
last-is [] name = refl
last-is (m ∷ found) name =
    ap (λ fs. option_map (λ f. f.1) (find (is_named name) fs)) (reverse-append (m ∷ []) found)
    ∙ ap (option_map (λ f. f.1)) (find-append (is_named name) (reverse found) (m ∷ []))
    ∙ joined (find (is_named name) (reverse found)) (bytes_eq name m.0) m
    ∙ ap (λ o. option_or o (cond (bytes_eq name m.0) (Some m.1) None)) (last-is found name)

last-of : (found : List (List ℕ × MapView)) → AreLast (entered [] found) found
unfolding entered
last-of found = record { at = λ name. at_entered name [] found ∙ or-none (last_value name found) ∙ sym (last-is found name) }

pub entered_last : (maps found : List (List ℕ × MapView)) → maps ≡ entered [] found → AreLast maps found
entered_last maps found is = let P : List (List ℕ × MapView) → Type 0 = λ ms. AreLast ms found in subst P (sym is) (last-of found)
