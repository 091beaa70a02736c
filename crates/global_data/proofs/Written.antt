-- Bytes that are written into maps, one write after the other.
use Rattle.std.proofs.Common.{◌≡◌, ℕ, suc, ◌+◌, ◌<◌, ◌≤◌, Bool, true, false, cond, List, [], ◌∷◌, ◌++◌, length, map, drop, get_or, Option, Some, None, refl, ap, sym, ◌∙◌, subst, fold, arith, add-one, drop-cons}
use Rattle.std.specs.Prelude.{find, bytes_eq, ◌==◌, option_and_then}
use Rattle.std.specs.Ordering.{nat_cmp, is_eq}
use Rattle.std.specs.Cmp.Lexicographic.{slice_cmp}
use Rattle.std.specs.BTreeMap.{is_at}
use Rattle.std.specs.declared.cmp.Ordering.TheVariants.{Less}
use Rattle.std.specs.List.{AllByRecursion}
use Rattle.std.specs.List.Sorted.{IsStrictlySortedBy}
use Rattle.std.specs.Map.{lookup}
use Rattle.std.specs.Option.{IsSomeAnd, option_map, option_map_or}
use Rattle.std.proofs.lemmas.Grind.{common_steps}
use Rattle.std.proofs.lemmas.Map.Text.{is_eq-slice_cmp}
use Rattle.std.proofs.lemmas.Slice.Eq.{bytes_eq-Decides}
use Rattle.ebpf_items.specs.Maps.{MapView}
use Rattle.elf64.specs.Symbols.{Symbol, symbols_of}
use Rattle.object_file.specs.Symbols.{last_named}
use Rattle.object_maps.specs.Overwritten.{HasRange, entry_overwritten, map_overwritten, overwritten, with_bytes}
use Rattle.settings.specs.ValuesContent.{GlobalContent}
use Rattle.global_data.specs.GlobalData.{Write, extent_of, extents, map_of, patched, patched_one, write_of, write_over, written}
use Rattle.global_data.specs.Writes.{Fit, write_list, writes_of}

-- ---- Ranges are preserved

same-length : (contents bytes : List ℕ) (start : ℕ) → start + length bytes ≤ length contents → length (overwritten contents start bytes) ≡ length contents
same-length contents bytes start within = grind (arith, common_steps)

entry-name : (test : Bool) (m : List ℕ × MapView) (v : MapView) → (cond test (m.0, v) m).0 ≡ m.0
entry-name true m v = refl
entry-name false m v = refl

-- A map with another name is unchanged.
other-step : (name q : List ℕ) (start : ℕ) (bytes : List ℕ) (m : List ℕ × MapView) (found : bytes_eq name q ≡ false) (t u : Bool) (a b : Option MapView) → is_eq (slice_cmp nat_cmp q m.0) ≡ t → bytes_eq name m.0 ≡ u → a ≡ b → cond (is_eq (slice_cmp nat_cmp q (cond u (m.0, map_overwritten start bytes m.1) m).0)) (Some (cond u (m.0, map_overwritten start bytes m.1) m).1) a ≡ cond (is_eq (slice_cmp nat_cmp q m.0)) (Some m.1) b
other-step name q start bytes m apart true true a b at is same =
    let e : q ≡ m.0 = (bytes_eq-Decides q m.0).0 (sym (is_eq-slice_cmp q m.0) ∙ at) in
    let f : name ≡ m.0 = (bytes_eq-Decides name m.0).0 is in
    let g : bytes_eq name q ≡ true = (bytes_eq-Decides name q).1 (f ∙ sym e) in
    absurd (cc)
other-step name q start bytes m apart false true a b at is same = rw (at, same) refl
other-step name q start bytes m apart t false a b at is same = rw same refl

other-found : (name q : List ℕ) (start : ℕ) (bytes : List ℕ) (maps : List (List ℕ × MapView)) → bytes_eq name q ≡ false → lookup (is_at (slice_cmp nat_cmp q)) (with_bytes maps name start bytes) ≡ lookup (is_at (slice_cmp nat_cmp q)) maps
unfolding with_bytes
other-found name q start bytes [] apart = refl
other-found name q start bytes (m ∷ ms) apart = other-step name q start bytes m apart (is_eq (slice_cmp nat_cmp q m.0)) (bytes_eq name m.0) (lookup (is_at (slice_cmp nat_cmp q)) (map (entry_overwritten name start bytes) ms)) (lookup (is_at (slice_cmp nat_cmp q)) ms) refl refl (other-found name q start bytes ms apart)

-- The map with the name is overwritten.
own-step : (name : List ℕ) (start : ℕ) (bytes : List ℕ) (m : List ℕ × MapView) (u : Bool) (a b : Option MapView) → is_eq (slice_cmp nat_cmp name m.0) ≡ u → a ≡ option_map (map_overwritten start bytes) b → cond (is_eq (slice_cmp nat_cmp name (cond u (m.0, map_overwritten start bytes m.1) m).0)) (Some (cond u (m.0, map_overwritten start bytes m.1) m).1) a ≡ option_map (map_overwritten start bytes) (cond (is_eq (slice_cmp nat_cmp name m.0)) (Some m.1) b)
own-step name start bytes m true a b at same = rw at refl
own-step name start bytes m false a b at same = rw at same

own-found : (name : List ℕ) (start : ℕ) (bytes : List ℕ) (maps : List (List ℕ × MapView)) → lookup (is_at (slice_cmp nat_cmp name)) (with_bytes maps name start bytes) ≡ option_map (map_overwritten start bytes) (lookup (is_at (slice_cmp nat_cmp name)) maps)
unfolding with_bytes
own-found name start bytes [] = refl
own-found name start bytes (m ∷ ms) = own-step name start bytes m (bytes_eq name m.0) (lookup (is_at (slice_cmp nat_cmp name)) (map (entry_overwritten name start bytes) ms)) (lookup (is_at (slice_cmp nat_cmp name)) ms) (is_eq-slice_cmp name m.0) (own-found name start bytes ms)

same-range : (start size : ℕ) (bytes : List ℕ) (found : Option MapView) → IsSomeAnd found (λ m. start + length bytes ≤ length m.contents) → IsSomeAnd found (λ m. size ≤ length m.contents) → IsSomeAnd (option_map (map_overwritten start bytes) found) (λ m. size ≤ length m.contents)
same-range start size bytes (Some m) own h = let P : ℕ → Type 0 = λ n. size ≤ n in subst P (sym (same-length m.contents bytes start own)) h
same-range start size bytes None own h = h

range-kept : (name q : List ℕ) (start place size : ℕ) (bytes : List ℕ) (maps : List (List ℕ × MapView)) (test : Bool) → bytes_eq name q ≡ test → HasRange maps name start (length bytes) → HasRange maps q place size → HasRange (with_bytes maps name start bytes) q place size
range-kept name q start place size bytes maps true is own h =
    let P : Option MapView → Type 0 = λ o. IsSomeAnd o (λ m. place + size ≤ length m.contents) in
    let Q : List ℕ → Type 0 = λ n. HasRange maps n place size in
    let R : List ℕ → Type 0 = λ n. HasRange (with_bytes maps name start bytes) n place size in
    let same : name ≡ q = (bytes_eq-Decides name q).0 is in
    subst R same (subst P (sym (own-found name start bytes maps)) (same-range start (place + size) bytes (lookup (is_at (slice_cmp nat_cmp name)) maps) own (subst Q (sym same) h)))
range-kept name q start place size bytes maps false is own h =
    let P : Option MapView → Type 0 = λ o. IsSomeAnd o (λ m. place + size ≤ length m.contents) in
    subst P (sym (other-found name q start bytes maps is)) h

fit-kept : (maps : List (List ℕ × MapView)) (w : Write) (ws : List Write) → HasRange maps w.map w.start (length w.bytes) → Fit maps ws → Fit (written maps w) ws
fit-kept maps w [] own fit = tt
fit-kept maps w (x ∷ xs) own fit = (range-kept w.map x.map w.start x.start (length x.bytes) w.bytes maps (bytes_eq w.map x.map) refl own fit.0, fit-kept maps w xs own fit.1)

-- ---- Names and sizes are preserved

-- If all maps have greater names, no map is written.
none-named : (name : List ℕ) (start : ℕ) (bytes : List ℕ) (maps : List (List ℕ × MapView)) → AllByRecursion (λ y. slice_cmp nat_cmp name y ≡ Less) (map (λ e. e.0) maps) → map (entry_overwritten name start bytes) maps ≡ maps
none-named name start bytes [] below = refl
none-named name start bytes (m ∷ ms) below =
    let other : bytes_eq name m.0 ≡ false = sym (is_eq-slice_cmp name m.0) ∙ ap is_eq below.0 in
    ap (λ (t : Bool). cond t (m.0, map_overwritten start bytes m.1) m ∷ map (entry_overwritten name start bytes) ms) other
    ∙ ap (λ xs. m ∷ xs) (none-named name start bytes ms below.1)

extents-step : (name : List ℕ) (start : ℕ) (bytes : List ℕ) (m : List ℕ × MapView) (ms : List (List ℕ × MapView)) (test : Bool) → bytes_eq name m.0 ≡ test → AllByRecursion (λ y. slice_cmp nat_cmp m.0 y ≡ Less) (map (λ e. e.0) ms) → IsSomeAnd (cond test (Some m.1) (lookup (is_at (slice_cmp nat_cmp name)) ms)) (λ x. start + length bytes ≤ length x.contents) → (HasRange ms name start (length bytes) → extents (map (entry_overwritten name start bytes) ms) ≡ extents ms) → extent_of (cond test (m.0, map_overwritten start bytes m.1) m) ∷ extents (map (entry_overwritten name start bytes) ms) ≡ extent_of m ∷ extents ms
extents-step name start bytes m ms true is below own rest =
    let P : List ℕ → Type 0 = λ n. AllByRecursion (λ y. slice_cmp nat_cmp n y ≡ Less) (map (λ e. e.0) ms) in
    let same : name ≡ m.0 = (bytes_eq-Decides name m.0).0 is in
    rw (same-length m.1.contents bytes start own, none-named name start bytes ms (subst P (sym same) below)) refl
extents-step name start bytes m ms false is below own rest = ap (λ xs. extent_of m ∷ xs) (rest own)

-- Names are strictly increasing, so only the map that is found has the name.
extents-kept : (name : List ℕ) (start : ℕ) (bytes : List ℕ) (maps : List (List ℕ × MapView)) → IsStrictlySortedBy (slice_cmp nat_cmp) (map (λ e. e.0) maps) → HasRange maps name start (length bytes) → extents (with_bytes maps name start bytes) ≡ extents maps
unfolding with_bytes IsStrictlySortedBy
extents-kept name start bytes [] rising own = refl
extents-kept name start bytes (m ∷ ms) rising own =
    let P : Bool → Type 0 = λ t. IsSomeAnd (cond t (Some m.1) (lookup (is_at (slice_cmp nat_cmp name)) ms)) (λ x. start + length bytes ≤ length x.contents) in
    extents-step name start bytes m ms (bytes_eq name m.0) refl rising.0 (subst P (is_eq-slice_cmp name m.0) own) (extents-kept name start bytes ms rising.1)

names-kept : (name : List ℕ) (start : ℕ) (bytes : List ℕ) (maps : List (List ℕ × MapView)) → map (λ e. e.0) (with_bytes maps name start bytes) ≡ map (λ e. e.0) maps
unfolding with_bytes
names-kept name start bytes [] = refl
names-kept name start bytes (m ∷ ms) =
    ap (λ (n : List ℕ). n ∷ map (λ e. e.0) (map (entry_overwritten name start bytes) ms)) (entry-name (bytes_eq name m.0) m (map_overwritten start bytes m.1))
    ∙ ap (λ (ns : List (List ℕ)). m.0 ∷ ns) (names-kept name start bytes ms)

pub extents-written : (maps : List (List ℕ × MapView)) (ws : List Write) → IsStrictlySortedBy (slice_cmp nat_cmp) (map (λ e. e.0) maps) → Fit maps ws → extents (fold written maps ws) ≡ extents maps
extents-written maps [] rising fit = refl
extents-written maps (w ∷ ws) rising fit =
    let P : List (List ℕ) → Type 0 = λ names. IsStrictlySortedBy (slice_cmp nat_cmp) names in
    extents-written (written maps w) ws (subst P (sym (names-kept w.map w.start w.bytes maps)) rising) (fit-kept maps w ws fit.0 fit.1)
    ∙ extents-kept w.map w.start w.bytes maps rising fit.0

-- ---- One write after the other

next : (ws : List Write) (i : ℕ) (w : Write) → i < length ws → w ≡ get_or ws i w → drop i ws ≡ w ∷ drop (i + 1) ws
next ws i w within is = drop-cons ws i w within ∙ ap (λ x. x ∷ drop (suc i) ws) (sym is) ∙ ap (λ n. w ∷ drop n ws) (sym (add-one i))

pub fit-head : (maps : List (List ℕ × MapView)) (ws : List Write) (i : ℕ) (w : Write) → i < length ws → w ≡ get_or ws i w → Fit maps (drop i ws) → HasRange maps w.map w.start (length w.bytes)
fit-head maps ws i w within is fit = let P : List Write → Type 0 = λ xs. Fit maps xs in (subst P (next ws i w within is) fit).0

pub fit-tail : (maps later : List (List ℕ × MapView)) (ws : List Write) (i : ℕ) (w : Write) → i < length ws → w ≡ get_or ws i w → later ≡ written maps w → Fit maps (drop i ws) → Fit later (drop (i + 1) ws)
fit-tail maps later ws i w within is wrote fit =
    let P : List Write → Type 0 = λ xs. Fit maps xs in
    let Q : List (List ℕ × MapView) → Type 0 = λ ms. Fit ms (drop (i + 1) ws) in
    let parts = subst P (next ws i w within is) fit in
    subst Q (sym wrote) (fit-kept maps w (drop (i + 1) ws) parts.0 parts.1)

pub value-tail : (maps later all : List (List ℕ × MapView)) (ws : List Write) (i : ℕ) (w : Write) → i < length ws → w ≡ get_or ws i w → later ≡ written maps w → fold written maps (drop i ws) ≡ all → fold written later (drop (i + 1) ws) ≡ all
value-tail maps later all ws i w within is wrote value =
    ap (λ ms. fold written ms (drop (i + 1) ws)) wrote ∙ ap (fold written maps) (sym (next ws i w within is)) ∙ value

-- ---- The writes are independent of earlier writes

section-step : (name : List ℕ) (start : ℕ) (bytes : List ℕ) (index : ℕ) (m : List ℕ × MapView) (t u : Bool) (a b : Option (List ℕ × MapView)) → a ≡ option_map (entry_overwritten name start bytes) b → bytes_eq name m.0 ≡ u → (m.1.section_index == index) ≡ t → cond ((cond u (m.0, map_overwritten start bytes m.1) m).1.section_index == index) (Some (cond u (m.0, map_overwritten start bytes m.1) m)) a ≡ option_map (entry_overwritten name start bytes) (cond (m.1.section_index == index) (Some m) b)
section-step name start bytes index m true true a b same is at = rw (at, is) refl
section-step name start bytes index m false true a b same is at = rw at same
section-step name start bytes index m true false a b same is at = rw (at, is) refl
section-step name start bytes index m false false a b same is at = rw at same

found-kept : (name : List ℕ) (start : ℕ) (bytes : List ℕ) (index : ℕ) (maps : List (List ℕ × MapView)) → find (λ m. m.1.section_index == index) (with_bytes maps name start bytes) ≡ option_map (entry_overwritten name start bytes) (find (λ m. m.1.section_index == index) maps)
unfolding with_bytes
found-kept name start bytes index [] = refl
found-kept name start bytes index (m ∷ ms) = section-step name start bytes index m (m.1.section_index == index) (bytes_eq name m.0) (find (λ x. x.1.section_index == index) (map (entry_overwritten name start bytes) ms)) (find (λ x. x.1.section_index == index) ms) (found-kept name start bytes index ms) refl refl

map-kept : (w : Write) (maps : List (List ℕ × MapView)) (section : Option ℕ) → map_of (written maps w) section ≡ option_map (entry_overwritten w.map w.start w.bytes) (map_of maps section)
map-kept w maps (Some index) = found-kept w.map w.start w.bytes index maps
map-kept w maps None = refl

write-at : (w : Write) (start : ℕ) (bytes : List ℕ) (held : Option (List ℕ × MapView)) → option_map (λ m. let x : Write = record { map = m.0; start = start; bytes = bytes } in x) (option_map (entry_overwritten w.map w.start w.bytes) held) ≡ option_map (λ m. let x : Write = record { map = m.0; start = start; bytes = bytes } in x) held
write-at w start bytes (Some m) = ap (λ (n : List ℕ). let x : Write = record { map = n; start = start; bytes = bytes } in Some x) (entry-name (bytes_eq w.map m.0) m (map_overwritten w.start w.bytes m.1))
write-at w start bytes None = refl

symbol-kept : (w : Write) (maps : List (List ℕ × MapView)) (bytes : List ℕ) (found : Option Symbol) → option_and_then (write_over (written maps w) bytes) found ≡ option_and_then (write_over maps bytes) found
symbol-kept w maps bytes (Some s) =
    ap (option_map (λ m. let x : Write = record { map = m.0; start = s.address; bytes = bytes } in x)) (map-kept w maps s.section_index)
    ∙ write-at w s.address bytes (map_of maps s.section_index)
symbol-kept w maps bytes None = refl

writes-kept : (symbols : List Symbol) (w : Write) (maps : List (List ℕ × MapView)) (globals : List (List ℕ × GlobalContent)) → writes_of symbols (written maps w) globals ≡ writes_of symbols maps globals
writes-kept symbols w maps [] = refl
writes-kept symbols w maps (g ∷ gs) =
    ap (λ (o : Option Write). option_map_or (λ x. x ∷ []) o [] ++ writes_of symbols (written maps w) gs) (symbol-kept w maps g.1.bytes (last_named symbols g.0))
    ∙ ap (λ (ws : List Write). write_list symbols maps g ++ ws) (writes-kept symbols w maps gs)

one-more : (symbols : List Symbol) (maps : List (List ℕ × MapView)) (globals : List (List ℕ × GlobalContent)) (o : Option Write) → fold written (option_map_or (written maps) o maps) (writes_of symbols (option_map_or (written maps) o maps) globals) ≡ fold written maps (option_map_or (λ w. w ∷ []) o [] ++ writes_of symbols maps globals)
one-more symbols maps globals (Some w) = ap (fold written (written maps w)) (writes-kept symbols w maps globals)
one-more symbols maps globals None = refl

-- Patching the variables one after the other has the result of the writes that are computed from
-- the original maps.
patched-writes : (symbols : List Symbol) (maps : List (List ℕ × MapView)) (globals : List (List ℕ × GlobalContent)) → fold (patched_one symbols) maps globals ≡ fold written maps (writes_of symbols maps globals)
patched-writes symbols maps [] = refl
patched-writes symbols maps (g ∷ gs) = patched-writes symbols (patched_one symbols maps g) gs ∙ one-more symbols maps gs (write_of symbols maps g)

pub patched-of : (file : List ℕ) (maps : List (List ℕ × MapView)) (globals : List (List ℕ × GlobalContent)) → fold written maps (writes_of (symbols_of file) maps globals) ≡ patched file maps globals
unfolding patched
patched-of file maps globals = sym (patched-writes (symbols_of file) maps globals)
