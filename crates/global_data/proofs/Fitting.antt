-- If no global variable has a fault, all writes lie in their maps.
use Rattle.std.proofs.Common.{◌≡◌, ℕ, ◌+◌, ◌≤◌, Bool, true, false, cond, List, [], ◌∷◌, ◌++◌, length, map, Option, Some, None, refl, ap, sym, ◌∙◌, subst, fold, arith}
use Rattle.std.specs.Prelude.{find, bytes_eq, nat_le, ◌==◌, option_and_then}
use Rattle.std.specs.declared.cmp.Ordering.TheVariants.{Less}
use Rattle.std.specs.Ordering.{nat_cmp, is_eq}
use Rattle.std.specs.Cmp.Lexicographic.{slice_cmp}
use Rattle.std.specs.BTreeMap.{is_at}
use Rattle.std.specs.List.{AllByRecursion}
use Rattle.std.specs.List.Sorted.{IsStrictlySortedBy}
use Rattle.std.specs.Map.{lookup}
use Rattle.std.specs.Option.{IsSomeAnd, option_map, option_map_or, unwrap_or}
use Rattle.std.proofs.lemmas.Map.Text.{is_eq-slice_cmp}
use Rattle.std.proofs.lemmas.Slice.Eq.{bytes_eq-Decides}
use Rattle.ebpf_items.specs.Maps.{MapView}
use Rattle.elf64.specs.Symbols.{Symbol, symbols_of}
use Rattle.object_file.specs.Symbols.{last_named}
use Rattle.settings.specs.ValuesContent.{GlobalContent}
use Rattle.global_data.specs.GlobalData.{GlobalFault, bad_data, first_fault, global_fault, is_inside, map_fault, map_of, or_fault, symbol_fault, write_over}
use Rattle.global_data.specs.Writes.{Fit, write_list, writes_of}

-- A name that is less than all names of maps is the name of no map.
none-below : (name : List ℕ) (maps : List (List ℕ × MapView)) → AllByRecursion (λ y. slice_cmp nat_cmp name y ≡ Less) (map (λ e. e.0) maps) → lookup (is_at (slice_cmp nat_cmp name)) maps ≡ None
none-below name [] below = refl
none-below name (e ∷ es) below = ap (λ (o : _). cond (is_eq o) (Some e.1) (lookup (is_at (slice_cmp nat_cmp name)) es)) below.0 ∙ none-below name es below.1

at-head : (name : List ℕ) (e : List ℕ × MapView) (es : List (List ℕ × MapView)) (test : Bool) → bytes_eq name e.0 ≡ test → lookup (is_at (slice_cmp nat_cmp name)) (e ∷ es) ≡ cond test (Some e.1) (lookup (is_at (slice_cmp nat_cmp name)) es)
at-head name e es test is = ap (λ (t : Bool). cond t (Some e.1) (lookup (is_at (slice_cmp nat_cmp name)) es)) (is_eq-slice_cmp name e.0 ∙ is)

-- A map that is found among the entries after the first is found among all entries.
later : (e : List ℕ × MapView) (es : List (List ℕ × MapView)) (m : List ℕ × MapView) (test : Bool) → bytes_eq m.0 e.0 ≡ test → AllByRecursion (λ y. slice_cmp nat_cmp e.0 y ≡ Less) (map (λ x. x.0) es) → lookup (is_at (slice_cmp nat_cmp m.0)) es ≡ Some m.1 → lookup (is_at (slice_cmp nat_cmp m.0)) (e ∷ es) ≡ Some m.1
later e es m true is below found =
    let P : List ℕ → Type 0 = λ n. lookup (is_at (slice_cmp nat_cmp n)) es ≡ Some m.1 in
    let here : lookup (is_at (slice_cmp nat_cmp e.0)) es ≡ Some m.1 = subst P ((bytes_eq-Decides m.0 e.0).0 is) found in
    let none : lookup (is_at (slice_cmp nat_cmp e.0)) es ≡ None = none-below e.0 es below in
    absurd (cc)
later e es m false is below found = at-head m.0 e es false is ∙ found

picked : (test : Bool) (index : ℕ) (e : List ℕ × MapView) (es : List (List ℕ × MapView)) (m : List ℕ × MapView) → AllByRecursion (λ y. slice_cmp nat_cmp e.0 y ≡ Less) (map (λ x. x.0) es) → cond test (Some e) (find (λ x. x.1.section_index == index) es) ≡ Some m → (find (λ x. x.1.section_index == index) es ≡ Some m → lookup (is_at (slice_cmp nat_cmp m.0)) es ≡ Some m.1) → lookup (is_at (slice_cmp nat_cmp m.0)) (e ∷ es) ≡ Some m.1
picked true index e es m below found rest =
    let same : e ≡ m = ap (λ (o : Option (List ℕ × MapView)). unwrap_or o m) found in
    let P : List ℕ × MapView → Type 0 = λ x. lookup (is_at (slice_cmp nat_cmp x.0)) (e ∷ es) ≡ Some x.1 in
    subst P same (at-head e.0 e es true ((bytes_eq-Decides e.0 e.0).1 refl))
picked false index e es m below found rest = later e es m (bytes_eq m.0 e.0) refl below (rest found)

-- The map of a section is found by its name.
found-under : (index : ℕ) (maps : List (List ℕ × MapView)) (m : List ℕ × MapView) → IsStrictlySortedBy (slice_cmp nat_cmp) (map (λ e. e.0) maps) → find (λ x. x.1.section_index == index) maps ≡ Some m → lookup (is_at (slice_cmp nat_cmp m.0)) maps ≡ Some m.1
unfolding IsStrictlySortedBy
found-under index [] m rising found = absurd (cc)
found-under index (e ∷ es) m rising found = picked (e.1.section_index == index) index e es m rising.0 found (found-under index es m rising.1)

map-under : (maps : List (List ℕ × MapView)) (section : Option ℕ) (m : List ℕ × MapView) → IsStrictlySortedBy (slice_cmp nat_cmp) (map (λ e. e.0) maps) → map_of maps section ≡ Some m → lookup (is_at (slice_cmp nat_cmp m.0)) maps ≡ Some m.1
map-under maps (Some index) m rising found = found-under index maps m rising found
map-under maps None m rising found = absurd (cc)

ranged : (found : Option MapView) (m : MapView) (size : ℕ) → found ≡ Some m → size ≤ length m.contents → IsSomeAnd found (λ x. size ≤ length x.contents)
ranged found m size is fits = let P : Option MapView → Type 0 = λ o. IsSomeAnd o (λ x. size ≤ length x.contents) in subst P (sym is) fits

inside : (test : Bool) (fault : GlobalFault) → cond test None (Some fault) ≡ None → test ≡ true
inside true fault h = refl
inside false fault h = absurd (cc)

map-fits : (maps : List (List ℕ × MapView)) (global : List ℕ × GlobalContent) (s : Symbol) (held : Option (List ℕ × MapView)) → IsStrictlySortedBy (slice_cmp nat_cmp) (map (λ e. e.0) maps) → map_of maps s.section_index ≡ held → length global.1.bytes ≡ s.size → map_fault global s held ≡ None → Fit maps (option_map_or (λ w. w ∷ []) (option_map (λ m. record { map = m.0; start = s.address; bytes = global.1.bytes }) held) [])
map-fits maps global s (Some m) rising is sized sound =
    let within : nat_le (s.address + s.size) (length m.1.contents) ≡ true = inside (is_inside s m) (bad_data global s) sound in
    let fits : s.address + length global.1.bytes ≤ length m.1.contents = grind arith in
    (ranged (lookup (is_at (slice_cmp nat_cmp m.0)) maps) m.1 (s.address + length global.1.bytes) (map-under maps s.section_index m rising is) fits, tt)
map-fits maps global s None rising is sized sound = absurd (cc)

sized-fits : (maps : List (List ℕ × MapView)) (global : List ℕ × GlobalContent) (s : Symbol) (test : Bool) → (length global.1.bytes == s.size) ≡ test → IsStrictlySortedBy (slice_cmp nat_cmp) (map (λ e. e.0) maps) → cond test (map_fault global s (map_of maps s.section_index)) (Some (bad_data global s)) ≡ None → Fit maps (option_map_or (λ w. w ∷ []) (write_over maps global.1.bytes s) [])
sized-fits maps global s true is rising sound = map-fits maps global s (map_of maps s.section_index) rising refl (grind arith) sound
sized-fits maps global s false is rising sound = absurd (cc)

symbol-fits : (maps : List (List ℕ × MapView)) (global : List ℕ × GlobalContent) (found : Option Symbol) → IsStrictlySortedBy (slice_cmp nat_cmp) (map (λ e. e.0) maps) → symbol_fault maps global found ≡ None → Fit maps (option_map_or (λ w. w ∷ []) (option_and_then (write_over maps global.1.bytes) found) [])
symbol-fits maps global (Some s) rising sound = sized-fits maps global s (length global.1.bytes == s.size) refl rising sound
symbol-fits maps global None rising sound = tt

fit-append : (maps : List (List ℕ × MapView)) (a b : List _) → Fit maps a → Fit maps b → Fit maps (a ++ b)
fit-append maps [] b left right = right
fit-append maps (w ∷ ws) b left right = (left.0, fit-append maps ws b left.1 right)

-- The first fault remains the first when more variables follow.
pub first-stays : (symbols : List Symbol) (maps : List (List ℕ × MapView)) (f : GlobalFault) (globals : List (List ℕ × GlobalContent)) → fold (or_fault symbols maps) (Some f) globals ≡ Some f
first-stays symbols maps f [] = refl
first-stays symbols maps f (g ∷ gs) = first-stays symbols maps f gs

none-first : (symbols : List Symbol) (maps : List (List ℕ × MapView)) (globals : List (List ℕ × GlobalContent)) (found : Option GlobalFault) → fold (or_fault symbols maps) found globals ≡ None → found ≡ None
none-first symbols maps globals (Some f) none = let stays : _ ≡ Some f = first-stays symbols maps f globals in absurd (cc)
none-first symbols maps globals None none = refl

-- If no variable has a fault, all writes lie in their maps.
all-fit : (symbols : List Symbol) (maps : List (List ℕ × MapView)) (globals : List (List ℕ × GlobalContent)) → IsStrictlySortedBy (slice_cmp nat_cmp) (map (λ e. e.0) maps) → fold (or_fault symbols maps) None globals ≡ None → Fit maps (writes_of symbols maps globals)
all-fit symbols maps [] rising sound = tt
all-fit symbols maps (g ∷ gs) rising sound =
    let here : global_fault symbols maps g ≡ None = none-first symbols maps gs (global_fault symbols maps g) sound in
    let P : Option GlobalFault → Type 0 = λ o. fold (or_fault symbols maps) o gs ≡ None in
    fit-append maps (write_list symbols maps g) (writes_of symbols maps gs)
    (symbol-fits maps g (last_named symbols g.0) rising here)
    (all-fit symbols maps gs rising (subst P here sound))

pub found-fit : (file : List ℕ) (maps : List (List ℕ × MapView)) (globals : List (List ℕ × GlobalContent)) → IsStrictlySortedBy (slice_cmp nat_cmp) (map (λ e. e.0) maps) → first_fault file maps globals ≡ None → Fit maps (writes_of (symbols_of file) maps globals)
unfolding first_fault
found-fit file maps globals rising sound = all-fit (symbols_of file) maps globals rising sound
