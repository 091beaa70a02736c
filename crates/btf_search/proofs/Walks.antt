-- Types found in one search of each table.
use Rattle.std.proofs.Common.{◌≡◌, ℕ, suc, ◌+◌, ◌-◌, ◌<◌, ◌≤◌, Bool, true, false, List, [], ◌∷◌, ◌++◌, drop, filter, get_or, map, length, Option, None, Some, inl, inr, refl, sym, ap, ◌∙◌, arith, add-one, append_assoc, append-nil, drop-cons}
use Rattle.std.proofs.lemmas.Bool.Decides.{nat_tests}
use Rattle.std.proofs.lemmas.Grind.{common_steps}
use Rattle.std.proofs.lemmas.Option.{slice_get-get_or, slice_get-map}
use Rattle.std.specs.Prelude.{slice_get, ◌&&◌, ◌||◌, ◌==◌, nat_eq}
use Rattle.std.specs.Cmp.Lexicographic.{pointwise, same_text}
use Rattle.std.specs.List.{list_all, range_with_len}
use Rattle.std.specs.Option.{option_map, option_map_or}
use Rattle.btf_records.specs.Fields.{kind_of_type}
use Rattle.btf_records.specs.Kinds.{number_of}
use Rattle.btf_records.specs.declared.kind.BtfKind.{BtfKind}
use Rattle.btf_records.specs.declared.kind.BtfKind.TheVariants.{Unknown}
use Rattle.btf_records.specs.declared.types.BtfType.{BtfType}
use Rattle.btf_tables.specs.Tables.{Table, type_by_id}
use Rattle.string_table.specs.FirstBytes.{is_marked}
use Rattle.btf_search.specs.NamedTypes.{has_kind, ids_of, is_asked, is_so, name_of, named_ids_at}
use Rattle.btf_search.specs.Searches.{AreFound, Found, Searched, covers, found_among, found_at, found_in, has_name, is_wanted}

-- ---- The type of an id

-- A type that is tested by its record.
so_by : (test : BtfKind → Option (List ℕ) → Bool) (table : Table) (id : ℕ) (t : BtfType) → type_by_id table id ≡ Some t → is_so test table id ≡ test (kind_of_type t) (name_of table t)
so_by test table id t is = rw is refl

nothing_added : (search : Searched) (table : Table) (id : ℕ) (old : List Found) → is_so (is_wanted search) table id ≡ false → old ≡ old ++ found_among search table (id ∷ [])
nothing_added search table id old isnt = let none : found_among search table (id ∷ []) ≡ [] = rw isnt refl in sym (append-nil old) ∙ ap (λ (xs : List Found). old ++ xs) (sym none)

pub added : (search : Searched) (table : Table) (id : ℕ) (t : BtfType) (old new : List Found) → type_by_id table id ≡ Some t → is_wanted search (kind_of_type t) (name_of table t) ≡ true → new ≡ old ++ (record { type_id = id; kind = kind_of_type t; name = name_of table t }) ∷ [] → new ≡ old ++ found_among search table (id ∷ [])
added search table id t old new is wanted put =
    let here : found_among search table (id ∷ []) ≡ found_at table id ∷ [] = rw (so_by (is_wanted search) table id t is ∙ wanted) refl in
    let one : found_at table id ≡ record { type_id = id; kind = kind_of_type t; name = name_of table t } = rw is refl in
    put ∙ ap (λ (xs : List Found). old ++ xs) (ap (λ (x : Found). x ∷ []) (sym one) ∙ sym here)

pub not_added : (search : Searched) (table : Table) (id : ℕ) (t : BtfType) (old : List Found) → type_by_id table id ≡ Some t → is_wanted search (kind_of_type t) (name_of table t) ≡ false → old ≡ old ++ found_among search table (id ∷ [])
not_added search table id t old is isnt = nothing_added search table id old (so_by (is_wanted search) table id t is ∙ isnt)

pub no_type : (search : Searched) (table : Table) (id : ℕ) (old : List Found) → type_by_id table id ≡ None → old ≡ old ++ found_among search table (id ∷ [])
no_type search table id old none = nothing_added search table id old (let isnt : is_so (is_wanted search) table id ≡ false = rw none refl in isnt)

-- ---- The remaining ids

-- The ids from `id` on, of n ids.
abbrev pub left : ℕ → ℕ → List ℕ
left n id = range_with_len id (n - id)

pub all_left : (n len : ℕ) → n ≡ len + 1 → left n 0 ≡ range_with_len 0 (suc len)
all_left n len is = let same : n - 0 ≡ suc len = omega (arith, is) in rw same refl

this_id : (n id : ℕ) → id < n → left n id ≡ id ∷ left n (id + 1)
this_id n id lt = let one : n - id ≡ suc (n - (id + 1)) = omega (arith, lt) in rw one refl

none_left : (n id : ℕ) → n ≤ id → left n id ≡ []
none_left n id le = let none : n - id ≡ 0 = omega (arith, le) in rw none refl

-- ---- The ids of a query

pub asked_on : (p : ℕ → Bool) (n id : ℕ) (old all : List ℕ) → id < n → old ++ filter p (left n id) ≡ all → p id ≡ true → (old ++ id ∷ []) ++ filter p (left n (id + 1)) ≡ all
asked_on p n id old all lt before is = append_assoc old (id ∷ []) (filter p (left n (id + 1))) ∙ (rw (this_id n id lt, is) at before)

pub asked_past : (p : ℕ → Bool) (n id : ℕ) (old all : List ℕ) → id < n → old ++ filter p (left n id) ≡ all → p id ≡ false → old ++ filter p (left n (id + 1)) ≡ all
asked_past p n id old all lt before is = rw (this_id n id lt, is) at before

pub asked_all : (p : ℕ → Bool) (n id : ℕ) (old all : List ℕ) → n ≤ id → old ++ filter p (left n id) ≡ all → old ≡ all
asked_all p n id old all le before = sym (append-nil old) ∙ (rw (none_left n id le) at before)

-- ---- The types that the search wants

one_by : (search : Searched) (table : Table) (id : ℕ) (ids : List ℕ) (test : Bool) → is_so (is_wanted search) table id ≡ test → found_among search table (id ∷ ids) ≡ found_among search table (id ∷ []) ++ found_among search table ids
one_by search table id ids true is = rw is refl
one_by search table id ids false is = rw is refl

pub found_on : (search : Searched) (table : Table) (n id : ℕ) (old new all : List Found) → id < n → old ++ found_among search table (left n id) ≡ all → new ≡ old ++ found_among search table (id ∷ []) → new ++ found_among search table (left n (id + 1)) ≡ all
found_on search table n id old new all lt before put =
    rw put (append_assoc old (found_among search table (id ∷ [])) (found_among search table (left n (id + 1))) ∙ (ap (λ (xs : List Found). old ++ xs) (sym (one_by search table id (left n (id + 1)) (is_so (is_wanted search) table id) refl)) ∙ (rw (this_id n id lt) at before)))

pub found_all : (search : Searched) (table : Table) (n id : ℕ) (old all : List Found) → n ≤ id → old ++ found_among search table (left n id) ≡ all → old ≡ all
found_all search table n id old all le before = sym (append-nil old) ∙ (rw (none_left n id le) at before)

-- ---- The ids of found types

abbrev pub id_of : Found → ℕ
id_of f = f.type_id

abbrev pub at : List Found → ℕ → Found
at found i = get_or found i (record { type_id = 0; kind = Unknown; name = None })

this_found : (found : List Found) (i : ℕ) → i < length found → drop i found ≡ at found i ∷ drop (i + 1) found
this_found found i lt = rw add-one (drop-cons found i (record { type_id = 0; kind = Unknown; name = None }) lt)

pub picked_on : (p : Found → Bool) (found : List Found) (old all : List ℕ) (i : ℕ) → i < length found → old ++ map (λ f. f.type_id) (filter p (drop i found)) ≡ all → p (at found i) ≡ true → (old ++ (at found i).type_id ∷ []) ++ map (λ f. f.type_id) (filter p (drop (i + 1) found)) ≡ all
picked_on p found old all i lt before is = append_assoc old ((at found i).type_id ∷ []) (map id_of (filter p (drop (i + 1) found))) ∙ (rw (this_found found i lt, is) at before)

pub picked_past : (p : Found → Bool) (found : List Found) (old all : List ℕ) (i : ℕ) → i < length found → old ++ map (λ f. f.type_id) (filter p (drop i found)) ≡ all → p (at found i) ≡ false → old ++ map (λ f. f.type_id) (filter p (drop (i + 1) found)) ≡ all
picked_past p found old all i lt before is = rw (this_found found i lt, is) at before

nothing_left : (found : List Found) (i : ℕ) → length found ≤ i → drop i found ≡ []
nothing_left found i le = grind (arith, common_steps)

pub picked_all : (p : Found → Bool) (found : List Found) (old all : List ℕ) (i : ℕ) → length found ≤ i → old ++ map (λ f. f.type_id) (filter p (drop i found)) ≡ all → old ≡ all
picked_all p found old all i le before = sym (append-nil old) ∙ (rw (nothing_left found i le) at before)

-- ---- The result of a query is among the found types

pub none_found : (search : Searched) (tables : List Table) → AreFound search tables []
none_found search tables = inl refl

marked_kind : (search : Searched) (kinds : List BtfKind) (kind : BtfKind) → list_all (λ k. is_marked search.kinds (number_of k)) kinds ≡ true → has_kind kinds kind ≡ true → is_marked search.kinds (number_of kind) ≡ true
marked_kind search [] kind all has = absurd cc
marked_kind search (k ∷ ks) kind all has = by (marked_kind search ks kind) (is_marked search.kinds (number_of k)) refl (number_of k == number_of kind) refl all has where
  by : (list_all (λ k. is_marked search.kinds (number_of k)) ks ≡ true → has_kind ks kind ≡ true → is_marked search.kinds (number_of kind) ≡ true) → (marked : Bool) → is_marked search.kinds (number_of k) ≡ marked → (here : Bool) → (number_of k == number_of kind) ≡ here → (marked && list_all (λ k. is_marked search.kinds (number_of k)) ks) ≡ true → (here || has_kind ks kind) ≡ true → is_marked search.kinds (number_of kind) ≡ true
  by rest false m here h all has = absurd cc
  by rest true m true h all has =
      let same : number_of k ≡ number_of kind = grind (arith, nat_tests, h) in
      ap (is_marked search.kinds) (sym same) ∙ m
  by rest true m false h all has = rest all has

named_by : (search : Searched) (name : List ℕ) (found : Option (List ℕ)) → has_name search.names name ≡ true → option_map_or (λ text. pointwise nat_eq text name) found true ≡ true → option_map_or (has_name search.names) found true ≡ true
named_by search name None has is = refl
named_by search name (Some text) has is = rw (same_text text name (sym is)) has

pub both : (one other : Bool) → one ≡ true → other ≡ true → (one && other) ≡ true
both true other a b = b
both false other a b = absurd cc

pub first_test : (one other : Bool) → (one && other) ≡ true → one ≡ true
first_test true other is = refl
first_test false other is = absurd cc

pub other_test : (one other : Bool) → (one && other) ≡ true → other ≡ true
other_test true other is = is
other_test false other is = absurd cc

asked_is_wanted : (search : Searched) (kinds : List BtfKind) (name : List ℕ) (kind : BtfKind) (found : Option (List ℕ)) → covers search kinds name ≡ true → is_asked kinds name kind found ≡ true → is_wanted search kind found ≡ true
asked_is_wanted search kinds name kind found covered is =
    let named = has_name search.names name in
    let kept = list_all (λ k. is_marked search.kinds (number_of k)) kinds in
    let asked = option_map_or (λ text. pointwise nat_eq text name) found true in
    both (is_marked search.kinds (number_of kind)) (option_map_or (has_name search.names) found true) (marked_kind search kinds kind (other_test named kept covered) (first_test (has_kind kinds kind) asked is)) (named_by search name found (first_test named kept covered) (other_test (has_kind kinds kind) asked is))

abbrev asks : List BtfKind → List ℕ → Found → Bool
asks kinds name f = is_asked kinds name f.kind f.name

step : (search : Searched) (kinds : List BtfKind) (name : List ℕ) (table : Table) (id : ℕ) (ids : List ℕ) (wanted asked : Bool) → is_so (is_wanted search) table id ≡ wanted → is_so (is_asked kinds name) table id ≡ asked → (asked ≡ true → wanted ≡ true) → (wanted ≡ true → asks kinds name (found_at table id) ≡ asked)
    → filter (is_so (is_asked kinds name) table) ids ≡ map id_of (filter (asks kinds name) (found_among search table ids)) → filter (is_so (is_asked kinds name) table) (id ∷ ids) ≡ map id_of (filter (asks kinds name) (found_among search table (id ∷ ids)))
step search kinds name table id ids true true w a sure same rest = rw (w, a, same refl) (ap (λ (xs : List ℕ). id ∷ xs) rest)
step search kinds name table id ids true false w a sure same rest = rw (w, a, same refl) rest
step search kinds name table id ids false true w a sure same rest = absurd (let none : false ≡ true = sure refl in cc)
step search kinds name table id ids false false w a sure same rest = rw (w, a) rest

kept : (search : Searched) (kinds : List BtfKind) (name : List ℕ) (table : Table) → covers search kinds name ≡ true → (ids : List ℕ) → filter (is_so (is_asked kinds name) table) ids ≡ map id_of (filter (asks kinds name) (found_among search table ids))
kept search kinds name table covered [] = refl
kept search kinds name table covered (id ∷ ids) = by (kept search kinds name table covered ids) (type_by_id table id) refl where
  by : filter (is_so (is_asked kinds name) table) ids ≡ map id_of (filter (asks kinds name) (found_among search table ids)) → (t : Option BtfType) → type_by_id table id ≡ t → filter (is_so (is_asked kinds name) table) (id ∷ ids) ≡ map id_of (filter (asks kinds name) (found_among search table (id ∷ ids)))
  by rest None is = step search kinds name table id ids false false (rw is refl) (rw is refl) (λ e. e) (λ e. absurd cc) rest
  by rest (Some t) is =
      let k = kind_of_type t in
      let n = name_of table t in
      step search kinds name table id ids (is_wanted search k n) (is_asked kinds name k n) (rw is refl) (rw is refl) (asked_is_wanted search kinds name k n covered) (λ e. rw is refl) rest

covered_in : (search : Searched) (tables : List Table) (table : ℕ) (kinds : List BtfKind) (name : List ℕ) (types : List Found) (t : Option Table) → slice_get tables table ≡ t → covers search kinds name ≡ true → Some types ≡ option_map (found_in search) t → named_ids_at kinds name tables table ≡ map id_of (filter (asks kinds name) types)
covered_in search tables table kinds name types None at covered is = absurd cc
covered_in search tables table kinds name types (Some t) at covered is =
    let same : found_in search t ≡ types = cc in
    rw at (kept search kinds name t covered (ids_of t) ∙ ap (λ (fs : List Found). map id_of (filter (asks kinds name) fs)) same)

pub covered : (search : Searched) (tables : List Table) (found : List (List Found)) (table : ℕ) (kinds : List BtfKind) (name : List ℕ) (types : List Found) → AreFound search tables found → covers search kinds name ≡ true → Some types ≡ slice_get found table → named_ids_at kinds name tables table ≡ map (λ f. f.type_id) (filter (λ f. is_asked kinds name f.kind f.name) types)
covered search tables found table kinds name types (inl none) covers is = absurd (let nothing : Some types ≡ slice_get [] table = is ∙ ap (λ (fs : List (List Found)). slice_get fs table) none in cc)
covered search tables found table kinds name types (inr all) covers is = covered_in search tables table kinds name types (slice_get tables table) refl covers (is ∙ (ap (λ (fs : List (List Found)). slice_get fs table) all ∙ slice_get-map (found_in search) tables table))

-- The element at an index.
pub got : {X : Type 0} (xs ys : List X) (i : ℕ) (x : X) → ys ≡ xs → i < length ys → x ≡ get_or ys i x → Some x ≡ slice_get xs i
got xs ys i x same lt is = sym (ap (λ (zs : List _). slice_get zs i) (sym same) ∙ slice_get-get_or ys i x lt ∙ ap (λ (y : _). Some y) (sym is))
