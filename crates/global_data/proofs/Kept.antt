-- Values of global variables that are put into maps.
use Rattle.std.proofs.Common.{◌≡◌, ℕ, ◌+◌, ◌<◌, ◌≤◌, Bool, true, false, cond, List, [], ◌∷◌, length, get_or, Option, Some, None, refl, sym, ap, ◌∙◌, subst, fold, arith, slice_get, Less, Equal}
use Rattle.std.specs.Prelude.{find, bytes_eq, nat_le, nat_lt, ◌==◌, option_and_then}
use Rattle.std.specs.Cmp.Lexicographic.{slice_cmp}
use Rattle.std.specs.List.{AllByRecursion, AllZip}
use Rattle.std.specs.List.Sorted.{IsStrictlySortedBy}
use Rattle.std.specs.Option.{option_map, option_map_or, unwrap_or}
use Rattle.std.specs.Ordering.{nat_cmp}
use Rattle.std.specs.Map.{keys_of}
use Rattle.std.proofs.lemmas.Cmp.{tied_itself, nat_list_cmp_total}
use Rattle.std.proofs.lemmas.Grind.{common_steps}
use Rattle.std.proofs.lemmas.List.Elements.{All-head, All-tail}
use Rattle.std.proofs.lemmas.Option.{slice_get-get_or, slice_get_past}
use Rattle.std.proofs.lemmas.Slice.Eq.{bytes_eq-Decides}
use Rattle.ebpf_items.specs.Maps.{MapView}
use Rattle.elf64.specs.Symbols.{Symbol, symbols_of}
use Rattle.object_file.specs.Symbols.{last_named}
use Rattle.object_maps.specs.Overwritten.{map_overwritten, overwritten, with_bytes}
use Rattle.settings.specs.ValuesContent.{GlobalContent}
use Rattle.global_data.specs.GlobalData.{GlobalFault, Write, bad_data, first_fault, global_fault, map_fault, map_of, or_fault, patched, patched_one, symbol_fault, write_over, written}
use Rattle.global_data.specs.Kept.{IsOutside, IsPutOver, KeepBytes, Stays, ValuesLeaveBytes}

-- Bytes written over other bytes.

same-length : (contents bytes : List ℕ) (start : ℕ) → start + length bytes ≤ length contents
    → length (overwritten contents start bytes) ≡ length contents
same-length contents bytes start within = grind (arith, common_steps)

read-before : (contents bytes : List ℕ) (start place : ℕ) → start + length bytes ≤ length contents → place < start
    → get_or (overwritten contents start bytes) place 0 ≡ get_or contents place 0
read-before contents bytes start place within before = grind (arith, common_steps)

read-after : (contents bytes : List ℕ) (start place : ℕ) → start + length bytes ≤ length contents
    → start + length bytes ≤ place → get_or (overwritten contents start bytes) place 0 ≡ get_or contents place 0
read-after contents bytes start place within after = grind (arith, common_steps)

read-same : (xs ys : List ℕ) (place : ℕ) → length xs ≡ length ys → get_or xs place 0 ≡ get_or ys place 0
    → slice_get xs place ≡ slice_get ys place
read-same xs ys place long same = by (nat_lt place (length xs)) refl where
  by : (test : Bool) → nat_lt place (length xs) ≡ test → slice_get xs place ≡ slice_get ys place
  by true is =
      slice_get-get_or xs place 0 (grind arith) ∙ ap Some same ∙ sym (slice_get-get_or ys place 0 (grind arith))
  by false is = slice_get_past xs place (grind arith) ∙ sym (slice_get_past ys place (grind arith))

-- Maps whose bytes are unchanged outside some indexes.

pub stays_itself : (Outside : List ℕ → ℕ → Type 0) (maps : List (List ℕ × MapView)) → AllZip (Stays Outside) maps maps
stays_itself Outside [] = tt
stays_itself Outside (m ∷ ms) =
    (record { name = refl; section = refl; sized = refl; rest = λ place out. refl }, stays_itself Outside ms)

stays-both : (First Second Both : List ℕ → ℕ → Type 0)
    → ((name : List ℕ) (place : ℕ) → Both name place → First name place × Second name place)
    → (a b c : List (List ℕ × MapView))
    → AllZip (Stays First) a b → AllZip (Stays Second) b c → AllZip (Stays Both) a c
stays-both First Second Both parts [] [] [] one two = tt
stays-both First Second Both parts [] [] (z ∷ zs) one two = absurd two
stays-both First Second Both parts [] (y ∷ ys) c one two = absurd one
stays-both First Second Both parts (x ∷ xs) [] c one two = absurd one
stays-both First Second Both parts (x ∷ xs) (y ∷ ys) [] one two = absurd two
stays-both First Second Both parts (x ∷ xs) (y ∷ ys) (z ∷ zs) one two = (
  record {
    name = two.0.name ∙ one.0.name;
    section = two.0.section ∙ one.0.section;
    sized = two.0.sized ∙ one.0.sized;
    rest = λ place both.
        let out = parts x.0 place both in
        let here : Second y.0 place = subst (λ (name : List ℕ). Second name place) (sym one.0.name) out.1 in
        two.0.rest place here ∙ one.0.rest place out.0;
  },
  stays-both First Second Both parts xs ys zs one.1 two.1,
)

names-stay : (Outside : List ℕ → ℕ → Type 0) (a b : List (List ℕ × MapView)) → AllZip (Stays Outside) a b
    → keys_of b ≡ keys_of a
names-stay Outside [] [] one = refl
names-stay Outside [] (y ∷ ys) one = absurd one
names-stay Outside (x ∷ xs) [] one = absurd one
names-stay Outside (x ∷ xs) (y ∷ ys) one =
    ap (λ (n : List ℕ). n ∷ keys_of ys) one.0.name
    ∙ ap (λ (ns : List (List ℕ)). x.0 ∷ ns) (names-stay Outside xs ys one.1)

-- The map of a section before, for a map that is found later.
record Found (Outside : List ℕ → ℕ → Type 0) (before : Option (List ℕ × MapView)) (m : List ℕ × MapView) : Type 0 where
  map : List ℕ × MapView
  is : before ≡ Some map
  stays : Stays Outside map m

found-by : (Outside : List ℕ → ℕ → Type 0) (t u : Bool) (x y m : List ℕ × MapView)
    → (before after : Option (List ℕ × MapView)) → u ≡ t → Stays Outside x y
    → (after ≡ Some m → Found Outside before m) → cond u (Some y) after ≡ Some m
    → Found Outside (cond t (Some x) before) m
found-by Outside true true x y m before after same stays rest is =
    record {
      map = x;
      is = refl;
      stays = subst (Stays Outside x)
          (ap (λ (o : Option (List ℕ × MapView)). unwrap_or o y) is) stays;
    }
found-by Outside true false x y m before after same stays rest is = absurd (cc)
found-by Outside false true x y m before after same stays rest is = absurd (cc)
found-by Outside false false x y m before after same stays rest is = rest is

found-before : (Outside : List ℕ → ℕ → Type 0) (index : ℕ) (a b : List (List ℕ × MapView)) (m : List ℕ × MapView)
    → AllZip (Stays Outside) a b → find (λ x. x.1.section_index == index) b ≡ Some m
    → Found Outside (find (λ x. x.1.section_index == index) a) m
found-before Outside index [] [] m one is = absurd (cc)
found-before Outside index [] (y ∷ ys) m one is = absurd one
found-before Outside index (x ∷ xs) [] m one is = absurd one
found-before Outside index (x ∷ xs) (y ∷ ys) m one is =
    found-by Outside (x.1.section_index == index) (y.1.section_index == index) x y m
    (find (λ z. z.1.section_index == index) xs) (find (λ z. z.1.section_index == index) ys)
    (ap (λ (n : ℕ). n == index) one.0.section) one.0 (found-before Outside index xs ys m one.1) is

map-before : (Outside : List ℕ → ℕ → Type 0) (section : Option ℕ) (a b : List (List ℕ × MapView)) (m : List ℕ × MapView)
    → AllZip (Stays Outside) a b → map_of b section ≡ Some m → Found Outside (map_of a section) m
map-before Outside (Some index) a b m one is = found-before Outside index a b m one is
map-before Outside None a b m one is = absurd (cc)

-- Strictly increasing names occur once.

not-itself : (name other : List ℕ) → slice_cmp nat_cmp other name ≡ Less → bytes_eq name other ≡ false
not-itself name other less = by (bytes_eq name other) refl where
  by : (test : Bool) → bytes_eq name other ≡ test → test ≡ false
  by true is =
      let same : name ≡ other = (bytes_eq-Decides name other).0 is in
      let less-itself : slice_cmp nat_cmp other other ≡ Less =
      subst (λ (n : List ℕ). slice_cmp nat_cmp other n ≡ Less) same less in
      let equal : slice_cmp nat_cmp other other ≡ Equal = tied_itself nat_list_cmp_total other in
      absurd (cc)
  by false is = refl

not-below : (name other : List ℕ) → slice_cmp nat_cmp name other ≡ Less → bytes_eq name other ≡ false
not-below name other less = by (bytes_eq name other) refl where
  by : (test : Bool) → bytes_eq name other ≡ test → test ≡ false
  by true is =
      let same : name ≡ other = (bytes_eq-Decides name other).0 is in
      let less-itself : slice_cmp nat_cmp name name ≡ Less =
      subst (λ (n : List ℕ). slice_cmp nat_cmp name n ≡ Less) (sym same) less in
      let equal : slice_cmp nat_cmp name name ≡ Equal = tied_itself nat_list_cmp_total name in
      absurd (cc)
  by false is = refl

-- Entries with this map's name are this map.
abbrev Alone : List ℕ × MapView → List (List ℕ × MapView) → Type 0
Alone m maps = AllByRecursion (λ e. bytes_eq m.0 e.0 ≡ true → e ≡ m) maps

alone-below : (m : List ℕ × MapView) (maps : List (List ℕ × MapView))
    → AllByRecursion (λ y. slice_cmp nat_cmp m.0 y ≡ Less) (keys_of maps) → Alone m maps
alone-below m [] below = tt
alone-below m (e ∷ es) below =
    ((λ is. let not : bytes_eq m.0 e.0 ≡ false = not-below m.0 e.0 below.0 in absurd (cc)), alone-below m es below.1)

found-among : (P : List ℕ → Type 0) (test : List ℕ × MapView → Bool) (maps : List (List ℕ × MapView))
    → (m : List ℕ × MapView) → AllByRecursion P (keys_of maps) → find test maps ≡ Some m → P m.0
found-among P test [] m all is = absurd (cc)
found-among P test (e ∷ es) m all is = by (test e) is (found-among P test es m all.1) where
  by : (t : Bool) → cond t (Some e) (find test es) ≡ Some m → (find test es ≡ Some m → P m.0) → P m.0
  by true found rest =
      subst (λ (x : List ℕ × MapView). P x.0) (ap (λ (o : Option (List ℕ × MapView)). unwrap_or o e) found) all.0
  by false found rest = rest found

alone-found : (test : List ℕ × MapView → Bool) (maps : List (List ℕ × MapView)) (m : List ℕ × MapView)
    → IsStrictlySortedBy (slice_cmp nat_cmp) (keys_of maps) → find test maps ≡ Some m → Alone m maps
unfolding IsStrictlySortedBy
alone-found test [] m rising is = tt
alone-found test (e ∷ es) m rising is = by (test e) is (alone-found test es m rising.1) where
  by : (t : Bool) → cond t (Some e) (find test es) ≡ Some m → (find test es ≡ Some m → Alone m es) → Alone m (e ∷ es)
  by true found rest =
      let same : e ≡ m = ap (λ (o : Option (List ℕ × MapView)). unwrap_or o e) found in
      let below : AllByRecursion (λ y. slice_cmp nat_cmp m.0 y ≡ Less) (keys_of es) =
      subst (λ (x : List ℕ × MapView). AllByRecursion (λ y. slice_cmp nat_cmp x.0 y ≡ Less) (keys_of es)) same
      rising.0 in
      ((λ is. same), alone-below m es below)
  by false found rest =
      let less : slice_cmp nat_cmp e.0 m.0 ≡ Less =
      found-among (λ y. slice_cmp nat_cmp e.0 y ≡ Less) test es m rising.0 found in
      ((λ is. let not : bytes_eq m.0 e.0 ≡ false = not-itself m.0 e.0 less in absurd (cc)), rest found)

map-alone : (maps : List (List ℕ × MapView)) (section : Option ℕ) (m : List ℕ × MapView)
    → IsStrictlySortedBy (slice_cmp nat_cmp) (keys_of maps) → map_of maps section ≡ Some m → Alone m maps
map-alone maps (Some index) m rising is = alone-found (λ x. x.1.section_index == index) maps m rising is
map-alone maps None m rising is = absurd (cc)

-- The value of one variable.

-- An index in a map that the value of a variable isn't written over.
abbrev Apart : List Symbol → List (List ℕ × MapView) → List ℕ × GlobalContent → List ℕ → ℕ → Type 0
Apart symbols maps g name place = IsPutOver symbols maps name place g → ⊥

-- Bytes that fit are written over those of a map.
entry-stays : (symbols : List Symbol) (first : List (List ℕ × MapView)) (g : List ℕ × GlobalContent) (s : Symbol)
    → (m e old : List ℕ × MapView) (test : Bool)
    → last_named symbols g.0 ≡ Some s → map_of first s.section_index ≡ Some old → m.0 ≡ old.0
    → bytes_eq m.0 e.0 ≡ test → (bytes_eq m.0 e.0 ≡ true → e ≡ m)
    → length g.1.bytes ≡ s.size → s.address + s.size ≤ length m.1.contents
    → Stays (Apart symbols first g) e (cond test (e.0, map_overwritten s.address g.1.bytes e.1) e)
entry-stays symbols first g s m e old true named over same is alone sized fits =
    let whole : e ≡ m = alone is in
    let within : s.address + length g.1.bytes ≤ length e.1.contents =
    subst (λ (x : List ℕ × MapView). s.address + length g.1.bytes ≤ length x.1.contents) (sym whole)
    (omega (arith, sized, fits)) in
    let long : length (overwritten e.1.contents s.address g.1.bytes) ≡ length e.1.contents =
    same-length e.1.contents g.1.bytes s.address within in
    record {
      name = refl;
      section = refl;
      sized = long;
      rest = λ place apart.
          by place apart within long (nat_lt place s.address) (nat_lt place (s.address + s.size)) refl refl;
    } where
      by : (place : ℕ) → Apart symbols first g e.0 place → s.address + length g.1.bytes ≤ length e.1.contents
          → length (overwritten e.1.contents s.address g.1.bytes) ≡ length e.1.contents
          → (before within : Bool) → nat_lt place s.address ≡ before → nat_lt place (s.address + s.size) ≡ within
          → slice_get (overwritten e.1.contents s.address g.1.bytes) place ≡ slice_get e.1.contents place
      by place apart fit long true u lower upper =
          read-same (overwritten e.1.contents s.address g.1.bytes) e.1.contents place long
          (read-before e.1.contents g.1.bytes s.address place fit (grind arith))
      by place apart fit long false false lower upper =
          read-same (overwritten e.1.contents s.address g.1.bytes) e.1.contents place long
          (read-after e.1.contents g.1.bytes s.address place fit (grind arith))
      by place apart fit long false true lower upper =
          let known : old.0 ≡ e.0 = sym same ∙ (bytes_eq-Decides m.0 e.0).0 is in
          absurd (apart (record {
            symbol = s;
            named = named;
            map = old.1;
            over = subst (λ (n : List ℕ). map_of first s.section_index ≡ Some (n, old.1)) known over;
            begins = grind arith;
            ends = grind arith;
          }))
entry-stays symbols first g s m e old false named over same is alone sized fits =
    record { name = refl; section = refl; sized = refl; rest = λ place apart. refl }

entries-stay : (symbols : List Symbol) (first : List (List ℕ × MapView)) (g : List ℕ × GlobalContent) (s : Symbol)
    → (m old : List ℕ × MapView)
    → last_named symbols g.0 ≡ Some s → map_of first s.section_index ≡ Some old → m.0 ≡ old.0
    → length g.1.bytes ≡ s.size → s.address + s.size ≤ length m.1.contents
    → (maps : List (List ℕ × MapView)) → Alone m maps
    → AllZip (Stays (Apart symbols first g)) maps (with_bytes maps m.0 s.address g.1.bytes)
unfolding with_bytes
entries-stay symbols first g s m old named over same sized fits [] alone = tt
entries-stay symbols first g s m old named over same sized fits (e ∷ es) alone = (
  entry-stays symbols first g s m e old (bytes_eq m.0 e.0) named over same refl alone.0 sized fits,
  entries-stay symbols first g s m old named over same sized fits es alone.1,
)

-- A map that is found, and a symbol whose size the value has.
fits-found : (g : List ℕ × GlobalContent) (s : Symbol) (old : List ℕ × MapView) (found : Option (List ℕ × MapView))
    → found ≡ Some old → (test : Bool) → (length g.1.bytes == s.size) ≡ test
    → cond test (map_fault g s found) (Some (bad_data g s)) ≡ None
    → (length g.1.bytes ≡ s.size) × (s.address + s.size ≤ length old.1.contents)
fits-found g s old None is test sized sound = absurd (cc)
fits-found g s old (Some m) is false sized sound = absurd (cc)
fits-found g s old (Some m) is true sized sound =
    let same : m ≡ old = ap (λ (o : Option (List ℕ × MapView)). unwrap_or o m) is in
    let inside : nat_le (s.address + s.size) (length m.1.contents) ≡ true =
    by (nat_le (s.address + s.size) (length m.1.contents)) sound in
    (grind arith, subst (λ (x : List ℕ × MapView). s.address + s.size ≤ length x.1.contents) same (grind arith)) where
      by : (t : Bool) → cond t None (Some (bad_data g s)) ≡ None → t ≡ true
      by true h = refl
      by false h = absurd (cc)

-- The write of a value to a map.
abbrev write-at : List ℕ × GlobalContent → Symbol → List ℕ × MapView → Write
write-at g s m = record { map = m.0; start = s.address; bytes = g.1.bytes }

one-stays : (Outside : List ℕ → ℕ → Type 0) (symbols : List Symbol) (first maps : List (List ℕ × MapView))
    → (g : List ℕ × GlobalContent) → AllZip (Stays Outside) first maps
    → IsStrictlySortedBy (slice_cmp nat_cmp) (keys_of maps) → global_fault symbols first g ≡ None
    → AllZip (Stays (Apart symbols first g)) maps (patched_one symbols maps g)
one-stays Outside symbols first maps g so-far rising sound = by (last_named symbols g.0) refl sound where
  under : (s : Symbol) → last_named symbols g.0 ≡ Some s → symbol_fault first g (Some s) ≡ None
      → (found : Option (List ℕ × MapView)) → map_of maps s.section_index ≡ found
      → AllZip (Stays (Apart symbols first g)) maps
      (option_map_or (written maps) (option_map (write-at g s) found) maps)
  under s named none None is = stays_itself (Apart symbols first g) maps
  under s named none (Some m) is =
      let before = map-before Outside s.section_index first maps m so-far is in
      let fit =
      fits-found g s before.map (map_of first s.section_index) before.is (length g.1.bytes == s.size) refl none in
      entries-stay symbols first g s m before.map named before.is before.stays.name fit.0
      (omega (arith, fit.1, before.stays.sized)) maps (map-alone maps s.section_index m rising is)

  by : (found : Option Symbol) → last_named symbols g.0 ≡ found → symbol_fault first g found ≡ None
      → AllZip (Stays (Apart symbols first g)) maps
      (option_map_or (written maps) (option_and_then (write_over maps g.1.bytes) found) maps)
  by None named none = stays_itself (Apart symbols first g) maps
  by (Some s) named none = under s named none (map_of maps s.section_index) refl

-- The values of all variables.

fault-stays : (symbols : List Symbol) (maps : List (List ℕ × MapView)) (f : GlobalFault)
    → (globals : List (List ℕ × GlobalContent)) → fold (or_fault symbols maps) (Some f) globals ≡ Some f
fault-stays symbols maps f [] = refl
fault-stays symbols maps f (g ∷ gs) = fault-stays symbols maps f gs

none-first : (symbols : List Symbol) (maps : List (List ℕ × MapView)) (globals : List (List ℕ × GlobalContent))
    → (found : Option GlobalFault) → fold (or_fault symbols maps) found globals ≡ None → found ≡ None
none-first symbols maps globals (Some f) none =
    let stays : _ ≡ Some f = fault-stays symbols maps f globals in absurd (cc)
none-first symbols maps globals None none = refl

all-stay : (Outside : List ℕ → ℕ → Type 0) (symbols : List Symbol) (first : List (List ℕ × MapView))
    → (globals : List (List ℕ × GlobalContent)) (maps : List (List ℕ × MapView)) → AllZip (Stays Outside) first maps
    → IsStrictlySortedBy (slice_cmp nat_cmp) (keys_of maps)
    → fold (or_fault symbols first) None globals ≡ None
    → AllZip (Stays (IsOutside symbols first globals)) maps (fold (patched_one symbols) maps globals)
all-stay Outside symbols first [] maps so-far rising sound = stays_itself (IsOutside symbols first []) maps
all-stay Outside symbols first (g ∷ gs) maps so-far rising sound =
    let Never : List ℕ → ℕ → Type 0 = λ name place. Outside name place × Apart symbols first g name place in
    let here : global_fault symbols first g ≡ None = none-first symbols first gs (global_fault symbols first g) sound in
    let rest : fold (or_fault symbols first) None gs ≡ None =
    subst (λ (o : Option GlobalFault). fold (or_fault symbols first) o gs ≡ None) here sound in
    let one = one-stays Outside symbols first maps g so-far rising here in
    let names : keys_of (patched_one symbols maps g) ≡ keys_of maps =
    names-stay (Apart symbols first g) maps (patched_one symbols maps g) one in
    stays-both (Apart symbols first g) (IsOutside symbols first gs) (IsOutside symbols first (g ∷ gs))
    (λ name place out. (
      All-head (λ x. Apart symbols first x name place) g gs out,
      All-tail
          (λ x. Apart symbols first x name place) g gs out,
    ))
    maps (patched_one symbols maps g) (fold (patched_one symbols) (patched_one symbols maps g) gs)
    one
    (all-stay Never symbols first gs (patched_one symbols maps g)
    (stays-both Outside (Apart symbols first g) Never (λ name place both. both) first maps
    (patched_one symbols maps g) so-far one)
    (subst (IsStrictlySortedBy (slice_cmp nat_cmp)) (sym names) rising) rest)

-- The bytes of the maps after all values are written.

kept : (symbols : List Symbol) (maps : List (List ℕ × MapView)) (globals : List (List ℕ × GlobalContent))
    → IsStrictlySortedBy (slice_cmp nat_cmp) (keys_of maps) → fold (or_fault symbols maps) None globals ≡ None
    → AllZip (Stays (IsOutside symbols maps globals)) maps (fold (patched_one symbols) maps globals)
kept symbols maps globals rising sound =
    all-stay (λ name place. Unit {0}) symbols maps globals maps
    (stays_itself (λ name place. Unit {0}) maps) rising sound

pub leave_bytes : (file : List ℕ) (maps : List (List ℕ × MapView)) (globals : List (List ℕ × GlobalContent))
    → IsStrictlySortedBy (slice_cmp nat_cmp) (keys_of maps) → first_fault file maps globals ≡ None
    → KeepBytes file globals maps (patched file maps globals)
unfolding patched first_fault
leave_bytes file maps globals rising sound = kept (symbols_of file) maps globals rising sound

pub values_leave_bytes : ValuesLeaveBytes
values_leave_bytes = record { each = leave_bytes }
