-- Paths in the target's types, step by step.
use Rattle.std.proofs.Common.{◌≡◌, ◌≢◌, ℕ, ◌+◌, ◌<◌, ◌≤◌, List, [], ◌∷◌, ◌++◌, drop, length, get_or, None, Some, Ok, Err, Option, Result, refl, sym, ◌∙◌, subst, arith, add-one, drop-cons}
use Rattle.std.proofs.lemmas.Grind.{common_steps}
use Rattle.std.specs.Option.{option_to_list}
use Rattle.std.specs.Result.{IfErr, IsErrAnd}
use Rattle.core_spec.specs.declared.error.AccessError.{AccessError}
use Rattle.core_spec.specs.declared.error.AccessError.TheVariants.{BtfError as TypeError}
use Rattle.core_spec.specs.declared.path.AccessPath.{AccessPath}
use Rattle.core_spec.specs.declared.path.Step.{Step}
use Rattle.core_spec.specs.declared.path.Step.TheVariants.{Element}
use Rattle.btf_records.specs.declared.error.BtfError.TheVariants.{OutOfMemory}
use Rattle.btf_tables.specs.Tables.{Table}
use Rattle.core_match.specs.Matches.{path_found, matched_from}
use Rattle.core_match.specs.Steps.{step_matched}
use Rattle.core_match.specs.declared.step.Progress.{Progress}

nothing_left : (path : List Step) (i : ℕ) → length path ≤ i → drop i path ≡ []
nothing_left path i le = grind (arith, common_steps)

abbrev pub step_at : List Step → ℕ → Step
step_at path i = get_or path i (Element (record { type_id = 0; index = 0 }))

this_step : (path : List Step) (i : ℕ) → i < length path → drop i path ≡ step_at path i ∷ drop (i + 1) path
this_step path i lt = rw add-one (drop-cons path i (Element (record { type_id = 0; index = 0 })) lt)

pub none_left : (local target : Table) (id : ℕ) (steps path : List Step) (from : Progress) (i : ℕ) → length path ≤ i → matched_from local target id steps from (drop i path) ≡ path_found id steps from.bits
unfolding matched_from
none_left local target id steps path from i le = rw (nothing_left path i le) refl

pub no_step : (local target : Table) (id : ℕ) (steps path : List Step) (from : Progress) (i : ℕ) → i < length path → step_matched local (step_at path i) target from ≡ Ok None → matched_from local target id steps from (drop i path) ≡ Ok None
unfolding matched_from
no_step local target id steps path from i lt none = rw (this_step path i lt, none) refl

pub one_step : (local target : Table) (id : ℕ) (steps path : List Step) (from : Progress) (i : ℕ) (n : Progress) → i < length path → step_matched local (step_at path i) target from ≡ Ok (Some n)
    → matched_from local target id steps from (drop i path) ≡ matched_from local target id (steps ++ option_to_list n.last) n (drop (i + 1) path)
unfolding matched_from
one_step local target id steps path from i n lt some = rw (this_step path i lt, some) refl

bad_step : (local target : Table) (id : ℕ) (steps path : List Step) (from : Progress) (i : ℕ) (e : AccessError) → i < length path → step_matched local (step_at path i) target from ≡ Err e → matched_from local target id steps from (drop i path) ≡ Err e
unfolding matched_from
bad_step local target id steps path from i e lt bad = rw (this_step path i lt, bad) refl

passed_on : (result : Result (Option AccessPath) AccessError) (e : AccessError) (P : AccessError → Type 0) → IsErrAnd result (λ f. f ≡ e) → P e → IfErr result P
passed_on (Ok path) e P h p = tt
passed_on (Err f) e P h p = subst P (sym h) p

-- An error of a step is an error of the path.
pub step_refused : (local target : Table) (id : ℕ) (steps path : List Step) (from : Progress) (i : ℕ) (all result : Result (Option AccessPath) AccessError) (e : AccessError) → i < length path → matched_from local target id steps from (drop i path) ≡ all
    → (e ≢ TypeError OutOfMemory → step_matched local (step_at path i) target from ≡ Err e) → IsErrAnd result (λ f. f ≡ e) → IfErr result (λ f. f ≢ TypeError OutOfMemory → all ≡ Err f)
step_refused local target id steps path from i all result e lt left refused is =
    passed_on result e (λ f. f ≢ TypeError OutOfMemory → all ≡ Err f) is (λ other. sym left ∙ bad_step local target id steps path from i e lt (refused other))
