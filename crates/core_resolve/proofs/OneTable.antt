-- Type relocations in a list of one table.
use Rattle.std.proofs.Common.{arith, ◌≡◌, ◌≢◌, ℕ, ◌<◌, Bool, true, false, cond, List, [], ◌∷◌, ◌++◌, map, None, Some, Ok, Err, Option, Result, refl, ap, ◌∙◌, append-nil}
use Rattle.std.specs.Option.{option_map, option_map_or, option_to_list}
use Rattle.std.specs.Prelude.{filter, find}
use Rattle.core_spec.specs.LocalPaths.{local_path}
use Rattle.core_spec.specs.declared.error.AccessError.{AccessError}
use Rattle.core_spec.specs.declared.path.AccessPath.{AccessPath}
use Rattle.btf_records.specs.declared.error.BtfError.{BtfError}
use Rattle.btf_tables.specs.Tables.{Table}
use Rattle.ebpf_items.specs.declared.relocation_kind.RelocationKind.{RelocationKind}
use Rattle.ebpf_items.specs.declared.relocation_kind.RelocationKind.TheVariants as kinds
use Rattle.core_match.specs.Candidates.{Wanted, all_types, candidates, is_candidate, is_unreadable_at, unreadable, wanted_for}
use Rattle.core_match.specs.declared.kernel_type.KernelType.{KernelType}
use Rattle.core_resolve.specs.Laws.{ListsOfOneTable}
use Rattle.core_resolve.specs.Matches.{followed_by, kernel_matches, match_at, matches_of, searched_tables, with_candidates, with_local, with_own_type}
use Rattle.core_resolve.specs.OneTable.{ids_of, matches_among, matches_in_one, named_ids, only, only_table, outcome_in_one, settled_in_one, unreadable_name}
use Rattle.core_resolve.specs.RelocationOutcomes.{IsTableOf, resolved_by_kind, first_table, local_value, relocation_outcome, outcome_of_matches}
use Rattle.core_resolve.specs.declared.error.TypeRelocationError.{TypeRelocationError}
use Rattle.core_resolve.specs.declared.matches.Match.{Match}
use Rattle.core_resolve.specs.declared.relocation.TypeRelocation.{TypeRelocation}
use Rattle.core_resolve.proofs.OutcomeTables.{first_of}

-- ---- Lists

found_of : {A B : Type 0} (f : A → B) (test : B → Bool) (xs : List A) → find test (map f xs) ≡ option_map f (find (λ x. test (f x)) xs)
found_of f test [] = refl
found_of f test (x ∷ xs) = by (test (f x)) (found_of f test xs) where
  by : (b : Bool) → find test (map f xs) ≡ option_map f (find (λ y. test (f y)) xs) → cond b (Some (f x)) (find test (map f xs)) ≡ option_map f (cond b (Some x) (find (λ y. test (f y)) xs))
  by true rest = refl
  by false rest = rest

kept_of : {A B : Type 0} (f : A → B) (test : B → Bool) (xs : List A) → filter test (map f xs) ≡ map f (filter (λ x. test (f x)) xs)
kept_of f test [] = refl
kept_of f test (x ∷ xs) = by (test (f x)) (kept_of f test xs) where
  by : (b : Bool) → filter test (map f xs) ≡ map f (filter (λ y. test (f y)) xs) → cond b (f x ∷ filter test (map f xs)) (filter test (map f xs)) ≡ map f (cond b (x ∷ filter (λ y. test (f y)) xs) (filter (λ y. test (f y)) xs))
  by true rest = ap (λ l. f x ∷ l) rest
  by false rest = rest

-- ---- Matches

among_same : (kind : RelocationKind) (local : Table) (path : AccessPath) (target : Table) (ids : List ℕ) (done : List Match) → matches_of kind local path (target ∷ []) done (map only ids) ≡ matches_among kind local path target done ids
unfolding matches_of matches_among
among_same kind local path target [] done = refl
among_same kind local path target (id ∷ ids) done = by (match_at kind local path (target ∷ []) (only id)) (λ m. among_same kind local path target ids (done ++ option_to_list m)) where
  by : (r : Result (Option Match) TypeRelocationError)
      → ((m : Option Match) → matches_of kind local path (target ∷ []) (done ++ option_to_list m) (map only ids) ≡ matches_among kind local path target (done ++ option_to_list m) ids)
      → followed_by r (λ m. matches_of kind local path (target ∷ []) (done ++ option_to_list m) (map only ids)) ≡ followed_by r (λ m. matches_among kind local path target (done ++ option_to_list m) ids)
  by (Ok m) rest = rest m
  by (Err e) rest = refl

-- The result for the candidates is the same in both definitions, whether or not a name can't be
-- read.
searched_same : (kind : RelocationKind) (local : Table) (path : AccessPath) (target : Table) (bad : Option ℕ) (ids : List ℕ)
    → with_candidates (option_map_or (λ place. Err (unreadable (target ∷ []) place)) (option_map only bad) (Ok (map only ids))) (matches_of kind local path (target ∷ []) [])
    ≡ followed_by (option_map_or (λ id. Err (unreadable_name target id)) bad (Ok ids)) (matches_among kind local path target [])
searched_same kind local path target None ids = among_same kind local path target ids []
searched_same kind local path target (Some id) ids = refl

-- The types of the list are those of its table.
types_same : (target : Table) → all_types (target ∷ []) ≡ map only (ids_of target)
types_same target = append-nil (map only (ids_of target))

-- The result for a type whose name can't be read, if there is one, and for the types with the name.
abbrev come_to : RelocationKind → Table → AccessPath → Table → Option KernelType → List KernelType → Result (List Match) TypeRelocationError
come_to kind local path target bad named =
    with_candidates (option_map_or (λ place. Err (unreadable (target ∷ []) place)) bad (Ok named)) (matches_of kind local path (target ∷ []) [])

all_same : (kind : RelocationKind) (local : Table) (path : AccessPath) (target : Table) (wanted : Wanted)
    → with_candidates (candidates wanted (target ∷ [])) (matches_of kind local path (target ∷ []) []) ≡ followed_by (named_ids wanted target) (matches_among kind local path target [])
all_same kind local path target wanted =
    let bad = is_unreadable_at wanted (target ∷ []) in
    let good = is_candidate wanted (target ∷ []) in
    let ids = ids_of target in
    ap (λ (types : List KernelType). come_to kind local path target (find bad types) (filter good types)) (types_same target)
    ∙ ap (λ (o : Option KernelType). come_to kind local path target o (filter good (map only ids))) (found_of only bad ids)
    ∙ ap (λ (cs : List KernelType). come_to kind local path target (option_map only (find (λ id. bad (only id)) ids)) cs) (kept_of only good ids)
    ∙ searched_same kind local path target (find (λ id. bad (only id)) ids) (filter (λ id. good (only id)) ids)

-- The matches are the same in both definitions. The tables that are searched depend on the kind.
kernel_same : (kind : RelocationKind) (local : Table) (path : AccessPath) (target : Table)
    → kernel_matches kind local path (target ∷ []) ≡ with_own_type (wanted_for local path.type_id) (matches_in_one kind local path target)
unfolding matches_of
kernel_same kind local path target = by kind (wanted_for local path.type_id) where
  by : (kind : RelocationKind) (r : Result Wanted BtfError)
      → with_own_type r (λ wanted. with_candidates (candidates wanted (searched_tables kind (target ∷ []))) (matches_of kind local path (target ∷ []) [])) ≡ with_own_type r (matches_in_one kind local path target)
  by kind (Err e) = refl
  by kinds.TypeIdLocal (Ok wanted) = refl
  by kinds.TypeIdTarget (Ok wanted) = all_same kinds.TypeIdTarget local path target wanted
  by kinds.FieldByteOffset (Ok wanted) = all_same kinds.FieldByteOffset local path target wanted
  by kinds.FieldByteSize (Ok wanted) = all_same kinds.FieldByteSize local path target wanted
  by kinds.FieldExists (Ok wanted) = all_same kinds.FieldExists local path target wanted
  by kinds.FieldSigned (Ok wanted) = all_same kinds.FieldSigned local path target wanted
  by kinds.FieldLShift64 (Ok wanted) = all_same kinds.FieldLShift64 local path target wanted
  by kinds.FieldRShift64 (Ok wanted) = all_same kinds.FieldRShift64 local path target wanted
  by kinds.TypeExists (Ok wanted) = all_same kinds.TypeExists local path target wanted
  by kinds.TypeSize (Ok wanted) = all_same kinds.TypeSize local path target wanted
  by kinds.EnumVariantExists (Ok wanted) = all_same kinds.EnumVariantExists local path target wanted
  by kinds.EnumVariantValue (Ok wanted) = all_same kinds.EnumVariantValue local path target wanted

-- ---- Outcomes

zero_below_one : (n : ℕ) → n < 1 → n ≡ 0
zero_below_one n lt = omega arith

table_same : (target : Table) (ms : List Match) → IsTableOf (target ∷ []) (first_table ms) → first_table ms ≡ only_table ms
table_same target [] lt = refl
table_same target (m ∷ ms) lt = ap (λ (n : ℕ). Some n) (zero_below_one m.table lt)

settled_same : (local : Table) (kind : RelocationKind) (path : AccessPath) (target : Table) (ms : List Match) → IsTableOf (target ∷ []) (first_table ms)
    → with_local (local_value local kind path) (outcome_of_matches kind ms) ≡ with_local (local_value local kind path) (settled_in_one kind ms)
settled_same local kind path target ms lt =
    ap (λ (table : Option ℕ). with_local (local_value local kind path) (λ value. followed_by (resolved_by_kind kind value ms) (λ outcome. Ok (record { outcome = outcome; local_field = value.field; table = table }))))
    (table_same target ms lt)

then_same : {T U : Type 0} (r : Result T TypeRelocationError) (go go' : T → Result U TypeRelocationError) → ((x : T) → r ≡ Ok x → go x ≡ go' x) → followed_by r go ≡ followed_by r go'
then_same {T} {U} r go go' h = by r refl where
  by : (s : Result T TypeRelocationError) → r ≡ s → followed_by s go ≡ followed_by s go'
  by (Ok x) is = h x is
  by (Err e) is = refl

put_inside : {W T U : Type 0} (r : Result W BtfError) (f : W → Result T TypeRelocationError) (go : T → Result U TypeRelocationError) → followed_by (with_own_type r f) go ≡ with_own_type r (λ w. followed_by (f w) go)
put_inside (Ok w) f go = refl
put_inside (Err e) f go = refl

path_same : (local : Table) (r : TypeRelocation) (target : Table) (path : AccessPath)
    → followed_by (kernel_matches r.kind local path (target ∷ [])) (λ ms. with_local (local_value local r.kind path) (outcome_of_matches r.kind ms))
    ≡ with_own_type (wanted_for local path.type_id) (λ wanted. followed_by (matches_in_one r.kind local path target wanted) (λ ms. with_local (local_value local r.kind path) (settled_in_one r.kind ms)))
path_same local r target path =
    then_same (kernel_matches r.kind local path (target ∷ [])) (λ ms. with_local (local_value local r.kind path) (outcome_of_matches r.kind ms)) (λ ms. with_local (local_value local r.kind path) (settled_in_one r.kind ms))
    (λ ms is. settled_same local r.kind path target ms (first_of r.kind local path (target ∷ []) ms is))
    ∙ ap (λ (s : Result (List Match) TypeRelocationError). followed_by s (λ ms. with_local (local_value local r.kind path) (settled_in_one r.kind ms))) (kernel_same r.kind local path target)
    ∙ put_inside (wanted_for local path.type_id) (matches_in_one r.kind local path target) (λ ms. with_local (local_value local r.kind path) (settled_in_one r.kind ms))

pub outcome_same : (local : Table) (r : TypeRelocation) (target : Table) → relocation_outcome local r (target ∷ []) ≡ outcome_in_one local r target
outcome_same local r target = by (local_path local r.kind r.type_id r.access_str_off) where
  by : (s : Result AccessPath AccessError)
      → with_local s (λ path. followed_by (kernel_matches r.kind local path (target ∷ [])) (λ ms. with_local (local_value local r.kind path) (outcome_of_matches r.kind ms)))
      ≡ with_local s (λ path. with_own_type (wanted_for local path.type_id) (λ wanted. followed_by (matches_in_one r.kind local path target wanted) (λ ms. with_local (local_value local r.kind path) (settled_in_one r.kind ms))))
  by (Ok path) = path_same local r target path
  by (Err e) = refl

searched_one : (kind : RelocationKind) (target : Table) → kind ≢ kinds.TypeIdLocal → searched_tables kind (target ∷ []) ≡ target ∷ []
searched_one kinds.TypeIdLocal target other = absurd (other refl)
searched_one kinds.TypeIdTarget target other = refl
searched_one kinds.FieldByteOffset target other = refl
searched_one kinds.FieldByteSize target other = refl
searched_one kinds.FieldExists target other = refl
searched_one kinds.FieldSigned target other = refl
searched_one kinds.FieldLShift64 target other = refl
searched_one kinds.FieldRShift64 target other = refl
searched_one kinds.TypeExists target other = refl
searched_one kinds.TypeSize target other = refl
searched_one kinds.EnumVariantExists target other = refl
searched_one kinds.EnumVariantValue target other = refl

pub of_one_table : ListsOfOneTable
of_one_table = record { types = types_same; searched = searched_one; outcomes = outcome_same }
