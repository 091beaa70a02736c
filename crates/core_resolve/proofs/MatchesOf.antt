-- Matches, candidate by candidate.
use Rattle.std.proofs.Common.{◌≡◌, ◌≢◌, ℕ, ◌+◌, ◌<◌, ◌≤◌, List, [], ◌∷◌, ◌++◌, drop, length, get_or, Ok, Err, Option, Result, refl, sym, ◌∙◌, subst, arith, add-one, drop-cons}
use Rattle.std.proofs.lemmas.Grind.{common_steps}
use Rattle.std.specs.Option.{option_to_list}
use Rattle.std.specs.Result.{IfErr, IsErrAnd}
use Rattle.core_spec.specs.declared.path.AccessPath.{AccessPath}
use Rattle.btf_tables.specs.Tables.{Table}
use Rattle.ebpf_items.specs.declared.relocation_kind.RelocationKind.{RelocationKind}
use Rattle.core_match.specs.declared.kernel_type.KernelType.{KernelType}
use Rattle.core_resolve.specs.Matches.{match_at, matches_of}
use Rattle.core_resolve.specs.declared.error.TypeRelocationError.{TypeRelocationError}
use Rattle.core_resolve.specs.declared.error.TypeRelocationError.TheVariants.{OutOfMemory}
use Rattle.core_resolve.specs.declared.matches.Match.{Match}

nothing_left : (cs : List KernelType) (i : ℕ) → length cs ≤ i → drop i cs ≡ []
nothing_left cs i le = grind (arith, common_steps)

abbrev pub candidate_at : List KernelType → ℕ → KernelType
candidate_at cs i = get_or cs i (record { table = 0; type_id = 0 })

this_candidate : (cs : List KernelType) (i : ℕ) → i < length cs → drop i cs ≡ candidate_at cs i ∷ drop (i + 1) cs
this_candidate cs i lt = rw add-one (drop-cons cs i (record { table = 0; type_id = 0 }) lt)

pub none_left : (kind : RelocationKind) (local : Table) (path : AccessPath) (targets : List Table) (done : List Match) (cs : List KernelType) (i : ℕ) → length cs ≤ i → matches_of kind local path targets done (drop i cs) ≡ Ok done
unfolding matches_of
none_left kind local path targets done cs i le = rw (nothing_left cs i le) refl

pub next_candidate : (kind : RelocationKind) (local : Table) (path : AccessPath) (targets : List Table) (done : List Match) (cs : List KernelType) (i : ℕ) (m : Option Match) → i < length cs → match_at kind local path targets (candidate_at cs i) ≡ Ok m
    → matches_of kind local path targets done (drop i cs) ≡ matches_of kind local path targets (done ++ option_to_list m) (drop (i + 1) cs)
unfolding matches_of
next_candidate kind local path targets done cs i m lt is = rw (this_candidate cs i lt, is) refl

bad_candidate : (kind : RelocationKind) (local : Table) (path : AccessPath) (targets : List Table) (done : List Match) (cs : List KernelType) (i : ℕ) (e : TypeRelocationError) → i < length cs → match_at kind local path targets (candidate_at cs i) ≡ Err e
    → matches_of kind local path targets done (drop i cs) ≡ Err e
unfolding matches_of
bad_candidate kind local path targets done cs i e lt is = rw (this_candidate cs i lt, is) refl

passed_on : {T : Type 0} (result : Result T TypeRelocationError) (e : TypeRelocationError) (P : TypeRelocationError → Type 0) → IsErrAnd result (λ f. f ≡ e) → P e → IfErr result P
passed_on (Ok x) e P h p = tt
passed_on (Err f) e P h p = subst P (sym h) p

-- An error at a candidate is an error of all candidates.
pub candidate_refused : {T : Type 0} (kind : RelocationKind) (local : Table) (path : AccessPath) (targets : List Table) (done : List Match) (cs : List KernelType) (i : ℕ) (all : Result (List Match) TypeRelocationError) (result : Result T TypeRelocationError) (e : TypeRelocationError) → i < length cs
    → matches_of kind local path targets done (drop i cs) ≡ all → (e ≢ OutOfMemory → match_at kind local path targets (candidate_at cs i) ≡ Err e) → IsErrAnd result (λ f. f ≡ e) → IfErr result (λ f. f ≢ OutOfMemory → all ≡ Err f)
candidate_refused kind local path targets done cs i all result e lt left refused is =
    passed_on result e (λ f. f ≢ OutOfMemory → all ≡ Err f) is (λ other. sym left ∙ bad_candidate kind local path targets done cs i e lt (refused other))
