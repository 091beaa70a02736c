-- The matches of one kind of relocation by paths that were found for another kind.
use Rattle.std.proofs.Common.{◌≡◌, ◌≢◌, ℕ, ◌+◌, ◌<◌, ◌≤◌, true, List, [], ◌∷◌, ◌++◌, drop, length, get_or, map, None, Some, Ok, Err, Option, Result, refl, sym, ap, subst, ◌∙◌, arith, add-one, drop-cons}
use Rattle.std.proofs.lemmas.Grind.{common_steps}
use Rattle.std.proofs.lemmas.List.{map-append}
use Rattle.std.proofs.lemmas.List.Elements.{All-nil}
use Rattle.std.proofs.lemmas.Map.Views.{All-values-insert_entry}
use Rattle.std.specs.BTreeMap.{insert_entry}
use Rattle.std.specs.List.{IsAmong}
use Rattle.std.specs.Map.{values_of}
use Rattle.std.specs.Option.{option_map, option_map_or, option_to_list}
use Rattle.std.specs.Prelude.{IfErr, IfOk, slice_get}
use Rattle.std.specs.Result.{IsErrAnd, result_ok}
use Rattle.std.specs.declared.cmp.Ordering.{Ordering}
use Rattle.core_spec.specs.LocalPaths.{local_path, subject_path}
use Rattle.core_spec.specs.Lookups.{and_then}
use Rattle.core_spec.specs.PathValues.{path_value}
use Rattle.core_spec.specs.Subjects.{subject_of}
use Rattle.core_spec.specs.declared.error.AccessError.{AccessError}
use Rattle.core_spec.specs.declared.path.AccessPath.{AccessPath}
use Rattle.core_spec.specs.declared.subject.Subject.{Subject}
use Rattle.core_spec.specs.declared.value.RelocationValue.{RelocationValue}
use Rattle.btf_records.specs.declared.error.BtfError.{BtfError}
use Rattle.btf_tables.specs.Tables.{Table}
use Rattle.ebpf_items.specs.declared.relocation_kind.RelocationKind.{RelocationKind}
use Rattle.ebpf_items.specs.declared.relocation_kind.RelocationKind.TheVariants as kinds
use Rattle.core_match.specs.Matches.{matching_path}
use Rattle.core_match.specs.Candidates.{Wanted, candidates, wanted_for}
use Rattle.core_match.specs.declared.error.CandidateError.{CandidateError}
use Rattle.core_match.specs.declared.kernel_type.KernelType.{KernelType}
use Rattle.core_resolve.specs.FoundPaths.{AreKnown, ArePathsOf, AskForOne, found_paths, is_part, match_from, path_at, paths_of, value_in}
use Rattle.core_resolve.specs.Matches.{followed_by, if_computed, kernel_matches, match_at, match_in, matches_of, of_path, searched_tables, with_candidates, with_kernel, with_own_type}
use Rattle.core_resolve.specs.declared.error.TypeRelocationError.{TypeRelocationError}
use Rattle.core_resolve.specs.declared.error.TypeRelocationError.TheVariants.{OutOfMemory}
use Rattle.core_resolve.specs.declared.matches.Match.{Match}
use Rattle.core_resolve.specs.declared.paths.FoundPath.{FoundPath}
use Rattle.core_resolve.specs.declared.paths.KnownPaths.{KnownPaths}
use Rattle.core_resolve.specs.declared.relocation.TypeRelocation.{TypeRelocation}

-- ---- Kinds of relocations of a part of a type

computed : (kind : RelocationKind) (r : Result RelocationValue AccessError) → is_part (subject_of kind) ≡ true → if_computed kind r ≡ Ok (result_ok r)
computed kinds.TypeSize r part = absurd (cc)
computed kind (Ok value) part = refl
computed kinds.FieldByteOffset (Err e) part = refl
computed kinds.FieldByteSize (Err e) part = refl
computed kinds.FieldExists (Err e) part = refl
computed kinds.FieldSigned (Err e) part = refl
computed kinds.FieldLShift64 (Err e) part = refl
computed kinds.FieldRShift64 (Err e) part = refl
computed kinds.TypeIdLocal (Err e) part = refl
computed kinds.TypeIdTarget (Err e) part = refl
computed kinds.TypeExists (Err e) part = refl
computed kinds.EnumVariantExists (Err e) part = refl
computed kinds.EnumVariantValue (Err e) part = refl

pub all_searched : (kind : RelocationKind) (targets : List Table) → is_part (subject_of kind) ≡ true → searched_tables kind targets ≡ targets
all_searched kinds.TypeIdLocal targets part = absurd (cc)
all_searched kinds.TypeIdTarget targets part = absurd (cc)
all_searched kinds.FieldByteOffset targets part = refl
all_searched kinds.FieldByteSize targets part = refl
all_searched kinds.FieldExists targets part = refl
all_searched kinds.FieldSigned targets part = refl
all_searched kinds.FieldLShift64 targets part = refl
all_searched kinds.FieldRShift64 targets part = refl
all_searched kinds.TypeExists targets part = refl
all_searched kinds.TypeSize targets part = refl
all_searched kinds.EnumVariantExists targets part = refl
all_searched kinds.EnumVariantValue targets part = refl

-- ---- Matches by paths

abbrev as_match : RelocationKind → List Table → ℕ → AccessPath → Match
as_match kind targets table p = match_from kind targets (record { table = table; path = p })

of_path_same : (kind : RelocationKind) (targets : List Table) (target : Table) (table : ℕ) (p : AccessPath) → is_part (subject_of kind) ≡ true → slice_get targets table ≡ Some target → of_path kind target table (Some p) ≡ Ok (Some (as_match kind targets table p))
of_path_same kind targets target table p part known =
    ap (λ (r : Result (Option RelocationValue) AccessError). and_then (and_then r (λ value. Ok (record { table = table; type_id = p.type_id; bit_offset = p.bit_offset; value = value }))) (λ (m : Match). Ok (Some m))) (computed kind (path_value target kind p) part)
    ∙ ap (λ (o : Option Table). Ok (Some (record { table = table; type_id = p.type_id; bit_offset = p.bit_offset; value = value_in kind p o }))) (sym known)

abbrev as_matches : RelocationKind → List Table → Option FoundPath → Result (Option Match) TypeRelocationError
as_matches kind targets found = Ok (option_map (match_from kind targets) found)

in_same : (kind : RelocationKind) (local : Table) (path : AccessPath) (targets : List Table) (target : Table) (place : KernelType) → is_part (subject_of kind) ≡ true → slice_get targets place.table ≡ Some target
    → with_kernel place (match_in kind local path target place) (λ m. Ok m)
    ≡ followed_by (with_kernel place (matching_path (subject_of kind) local path target place.type_id) (λ found. Ok (option_map (λ p. record { table = place.table; path = p }) found))) (as_matches kind targets)
in_same kind local path targets target place part known = by (matching_path (subject_of kind) local path target place.type_id) where
  by : (r : Result (Option AccessPath) AccessError) → with_kernel place (and_then r (of_path kind target place.table)) (λ m. Ok m) ≡ followed_by (with_kernel place r (λ found. Ok (option_map (λ p. record { table = place.table; path = p }) found))) (as_matches kind targets)
  by (Err e) = refl
  by (Ok None) = refl
  by (Ok (Some p)) = ap (λ (r : Result (Option Match) AccessError). with_kernel place r (λ m. Ok m)) (of_path_same kind targets target place.table p part known)

at_same : (kind : RelocationKind) (local : Table) (path : AccessPath) (targets : List Table) (place : KernelType) → is_part (subject_of kind) ≡ true → match_at kind local path targets place ≡ followed_by (path_at (subject_of kind) local path targets place) (as_matches kind targets)
at_same kind local path targets place part = by (slice_get targets place.table) refl where
  by : (o : Option Table) → slice_get targets place.table ≡ o
      → option_map_or (λ target. with_kernel place (match_in kind local path target place) (λ m. Ok m)) o (Ok None)
      ≡ followed_by (option_map_or (λ target. with_kernel place (matching_path (subject_of kind) local path target place.type_id) (λ found. Ok (option_map (λ p. record { table = place.table; path = p }) found))) o (Ok None)) (as_matches kind targets)
  by None known = refl
  by (Some target) known = in_same kind local path targets target place part known

more_same : (kind : RelocationKind) (targets : List Table) (done : List FoundPath) (found : Option FoundPath) → map (match_from kind targets) done ++ option_to_list (option_map (match_from kind targets) found) ≡ map (match_from kind targets) (done ++ option_to_list found)
more_same kind targets done None = sym (map-append (match_from kind targets) done [])
more_same kind targets done (Some f) = sym (map-append (match_from kind targets) done (f ∷ []))

abbrev all_as : RelocationKind → List Table → List FoundPath → Result (List Match) TypeRelocationError
all_as kind targets fs = Ok (map (match_from kind targets) fs)

of_same : (kind : RelocationKind) (local : Table) (path : AccessPath) (targets : List Table) (cs : List KernelType) (done : List FoundPath) → is_part (subject_of kind) ≡ true
    → matches_of kind local path targets (map (match_from kind targets) done) cs ≡ followed_by (paths_of (subject_of kind) local path targets done cs) (all_as kind targets)
unfolding matches_of paths_of
of_same kind local path targets [] done part = refl
of_same kind local path targets (c ∷ cs) done part =
    ap (λ (r : Result (Option Match) TypeRelocationError). followed_by r (λ m. matches_of kind local path targets (map (match_from kind targets) done ++ option_to_list m) cs)) (at_same kind local path targets c part)
    ∙ by (path_at (subject_of kind) local path targets c) (λ found. of_same kind local path targets cs (done ++ option_to_list found) part) where
      by : (r : Result (Option FoundPath) TypeRelocationError)
          → ((found : Option FoundPath) → matches_of kind local path targets (map (match_from kind targets) (done ++ option_to_list found)) cs ≡ followed_by (paths_of (subject_of kind) local path targets (done ++ option_to_list found) cs) (all_as kind targets))
          → followed_by (followed_by r (as_matches kind targets)) (λ m. matches_of kind local path targets (map (match_from kind targets) done ++ option_to_list m) cs)
          ≡ followed_by (followed_by r (λ found. paths_of (subject_of kind) local path targets (done ++ option_to_list found) cs)) (all_as kind targets)
      by (Err e) rest = refl
      by (Ok found) rest = ap (λ (ms : List Match). matches_of kind local path targets ms cs) (more_same kind targets done found) ∙ rest found

-- The matches of a kind are its values at the paths.
pub by_paths : (kind : RelocationKind) (local : Table) (path : AccessPath) (targets : List Table) → is_part (subject_of kind) ≡ true
    → kernel_matches kind local path targets ≡ followed_by (found_paths (subject_of kind) local path targets) (all_as kind targets)
by_paths kind local path targets part =
    ap (λ (tables : List Table). with_own_type (wanted_for local path.type_id) (λ wanted. with_candidates (candidates wanted tables) (matches_of kind local path targets []))) (all_searched kind targets part)
    ∙ by (wanted_for local path.type_id) (λ cs. of_same kind local path targets cs [] part) where
      by : (r : Result Wanted BtfError) → ((cs : List KernelType) → matches_of kind local path targets [] cs ≡ followed_by (paths_of (subject_of kind) local path targets [] cs) (all_as kind targets))
          → with_own_type r (λ wanted. with_candidates (candidates wanted targets) (matches_of kind local path targets []))
          ≡ followed_by (with_own_type r (λ wanted. with_candidates (candidates wanted targets) (paths_of (subject_of kind) local path targets []))) (all_as kind targets)
      by (Err e) same = refl
      by (Ok wanted) same = inside (candidates wanted targets) where
        inside : (r : Result (List KernelType) CandidateError) → with_candidates r (matches_of kind local path targets []) ≡ followed_by (with_candidates r (paths_of (subject_of kind) local path targets [])) (all_as kind targets)
        inside (Err e) = refl
        inside (Ok cs) = same cs

-- ---- Paths, candidate by candidate

nothing_left : (cs : List KernelType) (i : ℕ) → length cs ≤ i → drop i cs ≡ []
nothing_left cs i le = grind (arith, common_steps)

abbrev pub candidate_at : List KernelType → ℕ → KernelType
candidate_at cs i = get_or cs i (record { table = 0; type_id = 0 })

this_candidate : (cs : List KernelType) (i : ℕ) → i < length cs → drop i cs ≡ candidate_at cs i ∷ drop (i + 1) cs
this_candidate cs i lt = rw add-one (drop-cons cs i (record { table = 0; type_id = 0 }) lt)

pub no_path_left : (subject : Subject) (local : Table) (path : AccessPath) (targets : List Table) (done : List FoundPath) (cs : List KernelType) (i : ℕ) → length cs ≤ i → paths_of subject local path targets done (drop i cs) ≡ Ok done
unfolding paths_of
no_path_left subject local path targets done cs i le = rw (nothing_left cs i le) refl

pub next_path : (subject : Subject) (local : Table) (path : AccessPath) (targets : List Table) (done : List FoundPath) (cs : List KernelType) (i : ℕ) (found : Option FoundPath) → i < length cs → path_at subject local path targets (candidate_at cs i) ≡ Ok found
    → paths_of subject local path targets done (drop i cs) ≡ paths_of subject local path targets (done ++ option_to_list found) (drop (i + 1) cs)
unfolding paths_of
next_path subject local path targets done cs i found lt is = rw (this_candidate cs i lt, is) refl

bad_path : (subject : Subject) (local : Table) (path : AccessPath) (targets : List Table) (done : List FoundPath) (cs : List KernelType) (i : ℕ) (e : TypeRelocationError) → i < length cs → path_at subject local path targets (candidate_at cs i) ≡ Err e
    → paths_of subject local path targets done (drop i cs) ≡ Err e
unfolding paths_of
bad_path subject local path targets done cs i e lt is = rw (this_candidate cs i lt, is) refl

pub passed_on : {T : Type 0} (result : Result T TypeRelocationError) (e : TypeRelocationError) (P : TypeRelocationError → Type 0) → IsErrAnd result (λ f. f ≡ e) → P e → IfErr result P
passed_on (Ok x) e P h p = tt
passed_on (Err f) e P h p = subst P (sym h) p

-- An error at a candidate is an error of all candidates.
pub path_refused : {T : Type 0} (subject : Subject) (local : Table) (path : AccessPath) (targets : List Table) (done : List FoundPath) (cs : List KernelType) (i : ℕ) (all : Result (List FoundPath) TypeRelocationError) (result : Result T TypeRelocationError) (e : TypeRelocationError) → i < length cs
    → paths_of subject local path targets done (drop i cs) ≡ all → (e ≢ OutOfMemory → path_at subject local path targets (candidate_at cs i) ≡ Err e) → IsErrAnd result (λ f. f ≡ e) → IfErr result (λ f. f ≢ OutOfMemory → all ≡ Err f)
path_refused subject local path targets done cs i all result e lt left refused is =
    passed_on result e (λ f. f ≢ OutOfMemory → all ≡ Err f) is (λ other. sym left ∙ bad_path subject local path targets done cs i e lt (refused other))

-- ---- Remembered paths

pub no_paths_known : (local : Table) (targets : List Table) → AreKnown local targets []
no_paths_known local targets = record { each = All-nil _ }

abbrev ArePathsBy : Table → List Table → List FoundPath → Subject → ℕ → ℕ → Type 0
ArePathsBy local targets paths subject id access = IfOk (subject_path local subject id access) (λ path. found_paths subject local path targets ≡ Ok paths)

same_part : (local : Table) (targets : List Table) (one other : TypeRelocation) (paths : List FoundPath) → AskForOne one other → ArePathsOf local targets one paths → ArePathsOf local targets other paths
same_part local targets one other paths same are =
    subst (λ (s : Subject). ArePathsBy local targets paths s other.type_id other.access_str_off) same.2
    (subst (λ (access : ℕ). ArePathsBy local targets paths (subject_of one.kind) other.type_id access) same.1
    (subst (λ (id : ℕ). ArePathsBy local targets paths (subject_of one.kind) id one.access_str_off) same.0 are))

pub paths_known : (local : Table) (targets : List Table) (known : List KnownPaths) (k : KnownPaths) (r : TypeRelocation) → AreKnown local targets known → IsAmong known k → AskForOne k.relocation r → ArePathsOf local targets r k.paths.items
paths_known local targets known k r are among same =
    let here : ArePathsOf local targets k.relocation k.paths.items = subst (λ (j : KnownPaths). ArePathsOf local targets j.relocation j.paths.items) (sym among.1.1) (are.each among.0 k among.1.0) in
    same_part local targets k.relocation r k.paths.items same here

pub paths_here : (local : Table) (targets : List Table) (r : TypeRelocation) (path : AccessPath) (paths : List FoundPath) → local_path local r.kind r.type_id r.access_str_off ≡ Ok path → found_paths (subject_of r.kind) local path targets ≡ Ok paths → ArePathsOf local targets r paths
paths_here local targets r path paths is found =
    subst (λ (s : Result AccessPath AccessError). IfOk s (λ p. found_paths (subject_of r.kind) local p targets ≡ Ok paths)) (sym is) found

pub paths_there : (local : Table) (targets : List Table) (r : TypeRelocation) (path : AccessPath) (paths : List FoundPath) → local_path local r.kind r.type_id r.access_str_off ≡ Ok path → ArePathsOf local targets r paths → found_paths (subject_of r.kind) local path targets ≡ Ok paths
paths_there local targets r path paths is are =
    subst (λ (s : Result AccessPath AccessError). IfOk s (λ p. found_paths (subject_of r.kind) local p targets ≡ Ok paths)) is are

pub matches_by : (kind : RelocationKind) (local : Table) (path : AccessPath) (targets : List Table) (paths : List FoundPath) → is_part (subject_of kind) ≡ true → found_paths (subject_of kind) local path targets ≡ Ok paths → kernel_matches kind local path targets ≡ Ok (map (match_from kind targets) paths)
matches_by kind local path targets paths part found =
    by_paths kind local path targets part ∙ ap (λ (r : Result (List FoundPath) TypeRelocationError). followed_by r (all_as kind targets)) found

pub refused_by : (kind : RelocationKind) (local : Table) (path : AccessPath) (targets : List Table) (e : TypeRelocationError) → is_part (subject_of kind) ≡ true → found_paths (subject_of kind) local path targets ≡ Err e → kernel_matches kind local path targets ≡ Err e
refused_by kind local path targets e part found =
    by_paths kind local path targets part ∙ ap (λ (r : Result (List FoundPath) TypeRelocationError). followed_by r (all_as kind targets)) found

pub paths_more : {K : Type 0} (cmp : K → K → Ordering) (entries : List (K × KnownPaths)) (key : K) (k : KnownPaths) (local : Table) (targets : List Table) → AreKnown local targets (values_of entries) → ArePathsOf local targets k.relocation k.paths.items → AreKnown local targets (values_of (insert_entry cmp entries key k))
paths_more cmp entries key k local targets are here = record { each = All-values-insert_entry cmp key k (λ x. ArePathsOf local targets x.relocation x.paths.items) entries are.each here }

pub matches_are : (kind : RelocationKind) (local : Table) (path : AccessPath) (targets searched : List Table) (paths : List FoundPath) (ms : List Match) → is_part (subject_of kind) ≡ true → found_paths (subject_of kind) local path targets ≡ Ok paths → searched ≡ targets → ms ≡ map (match_from kind searched) paths
    → kernel_matches kind local path targets ≡ Ok ms
matches_are kind local path targets searched paths ms part found same are =
    matches_by kind local path targets paths part found ∙ ap (λ (l : List Match). Ok l) (ap (λ (tables : List Table). map (match_from kind tables) paths) (sym same) ∙ sym are)

pub paths_refused : {T : Type 0} (kind : RelocationKind) (local : Table) (path : AccessPath) (targets : List Table) (result : Result T TypeRelocationError) (e : TypeRelocationError) → is_part (subject_of kind) ≡ true → (e ≢ OutOfMemory → found_paths (subject_of kind) local path targets ≡ Err e) → IsErrAnd result (λ f. f ≡ e)
    → IfErr result (λ f. f ≢ OutOfMemory → kernel_matches kind local path targets ≡ Err f)
paths_refused kind local path targets result e part refused is =
    passed_on result e (λ f. f ≢ OutOfMemory → kernel_matches kind local path targets ≡ Err f) is (λ other. refused_by kind local path targets e part (refused other))
