-- Matches and paths among the candidates for a local type.
use Rattle.std.proofs.Common.{◌≡◌, ◌≢◌, List, [], Ok, Err, Result, refl, ap, sym, true, ◌∙◌}
use Rattle.std.specs.Prelude.{IfErr}
use Rattle.std.specs.Result.{IsErrAnd}
use Rattle.core_spec.specs.Subjects.{subject_of}
use Rattle.core_spec.specs.declared.path.AccessPath.{AccessPath}
use Rattle.btf_records.specs.declared.error.BtfError.{BtfError}
use Rattle.btf_tables.specs.Tables.{Table}
use Rattle.ebpf_items.specs.declared.relocation_kind.RelocationKind.{RelocationKind}
use Rattle.core_match.specs.Candidates.{Wanted, candidates, wanted_for}
use Rattle.core_match.specs.declared.error.CandidateError.{CandidateError}
use Rattle.core_match.specs.declared.kernel_type.KernelType.{KernelType}
use Rattle.core_resolve.specs.FoundPaths.{found_paths, is_part, paths_of}
use Rattle.core_resolve.specs.Matches.{candidates_of, followed_by, kernel_matches, matches_of, searched_tables, with_candidates, with_own_type}
use Rattle.core_resolve.specs.declared.error.TypeRelocationError.{TypeRelocationError}
use Rattle.core_resolve.specs.declared.error.TypeRelocationError.TheVariants.{OutOfMemory}
use Rattle.core_resolve.proofs.FoundPaths.{all_searched, passed_on}

-- A computation on the candidates is the same as finding the candidates first and then computing.
found_first : {U : Type 0} (r : Result Wanted BtfError) (targets : List Table) (go : List KernelType → Result U TypeRelocationError)
    → with_own_type r (λ wanted. with_candidates (candidates wanted targets) go)
    ≡ followed_by (with_own_type r (λ wanted. with_candidates (candidates wanted targets) (λ found. Ok found))) go
found_first (Err e) targets go = refl
found_first (Ok wanted) targets go = by (candidates wanted targets) where
  by : (c : Result (List KernelType) CandidateError) → with_candidates c go ≡ followed_by (with_candidates c (λ found. Ok found)) go
  by (Err e) = refl
  by (Ok found) = refl

matches_by : (kind : RelocationKind) (local : Table) (path : AccessPath) (targets : List Table) (found : Result (List KernelType) TypeRelocationError) → candidates_of kind local path.type_id targets ≡ found → kernel_matches kind local path targets ≡ followed_by found (matches_of kind local path targets [])
matches_by kind local path targets found is =
    found_first (wanted_for local path.type_id) (searched_tables kind targets) (matches_of kind local path targets [])
    ∙ ap (λ (r : Result (List KernelType) TypeRelocationError). followed_by r (matches_of kind local path targets [])) is

pub matches_among : (kind : RelocationKind) (local : Table) (path : AccessPath) (targets : List Table) (found : List KernelType) → candidates_of kind local path.type_id targets ≡ Ok found → kernel_matches kind local path targets ≡ matches_of kind local path targets [] found
matches_among kind local path targets found is = matches_by kind local path targets (Ok found) is

pub matches_refused : (kind : RelocationKind) (local : Table) (path : AccessPath) (targets : List Table) (e : TypeRelocationError) → candidates_of kind local path.type_id targets ≡ Err e → kernel_matches kind local path targets ≡ Err e
matches_refused kind local path targets e is = matches_by kind local path targets (Err e) is

paths_by : (kind : RelocationKind) (local : Table) (path : AccessPath) (targets : List Table) (found : Result (List KernelType) TypeRelocationError) → is_part (subject_of kind) ≡ true → candidates_of kind local path.type_id targets ≡ found → found_paths (subject_of kind) local path targets ≡ followed_by found (paths_of (subject_of kind) local path targets [])
paths_by kind local path targets found part is =
    ap (λ (tables : List Table). with_own_type (wanted_for local path.type_id) (λ wanted. with_candidates (candidates wanted tables) (paths_of (subject_of kind) local path targets []))) (sym (all_searched kind targets part))
    ∙ found_first (wanted_for local path.type_id) (searched_tables kind targets) (paths_of (subject_of kind) local path targets [])
    ∙ ap (λ (r : Result (List KernelType) TypeRelocationError). followed_by r (paths_of (subject_of kind) local path targets [])) is

pub paths_among : (kind : RelocationKind) (local : Table) (path : AccessPath) (targets : List Table) (found : List KernelType) → is_part (subject_of kind) ≡ true → candidates_of kind local path.type_id targets ≡ Ok found → found_paths (subject_of kind) local path targets ≡ paths_of (subject_of kind) local path targets [] found
paths_among kind local path targets found part is = paths_by kind local path targets (Ok found) part is

-- An error of the candidates is an error of the paths.
pub paths_refused : {T : Type 0} (kind : RelocationKind) (local : Table) (path : AccessPath) (targets : List Table) (result : Result T TypeRelocationError) (e : TypeRelocationError) → is_part (subject_of kind) ≡ true → (e ≢ OutOfMemory → candidates_of kind local path.type_id targets ≡ Err e) → IsErrAnd result (λ f. f ≡ e)
    → IfErr result (λ f. f ≢ OutOfMemory → found_paths (subject_of kind) local path targets ≡ Err f)
paths_refused kind local path targets result e part refused is =
    passed_on result e (λ f. f ≢ OutOfMemory → found_paths (subject_of kind) local path targets ≡ Err f) is (λ other. paths_by kind local path targets (Err e) part (refused other))
