-- Paths to fields, number by number.
use Rattle.std.proofs.Common.{◌≡◌, ℕ, ◌+◌, ◌<◌, ◌≤◌, List, [], ◌++◌, drop, length, Ok, Err, refl, sym, ◌∙◌, ◌≢◌, Result, subst, arith, drop-cons, get_or, add-one}
use Rattle.std.proofs.lemmas.Grind.{common_steps}
use Rattle.std.specs.Option.{option_to_list}
use Rattle.std.specs.Result.{IfErr, IsErrAnd}
use Rattle.core_spec.specs.FieldPaths.{apply_index, finished_path, path_from}
use Rattle.core_spec.specs.declared.error.AccessError.{AccessError}
use Rattle.core_spec.specs.declared.fields.Advance.{Advance}
use Rattle.core_spec.specs.declared.fields.Reached.{Reached}
use Rattle.core_spec.specs.declared.path.Step.{Step}
use Rattle.core_spec.specs.declared.error.AccessError.TheVariants.{BtfError as TypeError}
use Rattle.core_spec.specs.declared.path.AccessPath.{AccessPath}
use Rattle.btf_records.specs.declared.error.BtfError.TheVariants.{OutOfMemory}
use Rattle.btf_tables.specs.Tables.{Table}

nothing_left : (numbers : List ℕ) (i : ℕ) → length numbers ≤ i → drop i numbers ≡ []
nothing_left numbers i le = grind (arith, common_steps)

pub path_done : (table : Table) (asked : ℕ) (steps : List Step) (reached : Reached) (numbers : List ℕ) (i : ℕ) → length numbers ≤ i → path_from table asked steps reached (drop i numbers) ≡ finished_path asked steps reached.bits
unfolding path_from
path_done table asked steps reached numbers i le = rw (nothing_left numbers i le) refl

pub path_more : (table : Table) (asked : ℕ) (steps : List Step) (reached : Reached) (numbers : List ℕ) (i : ℕ) (next : Advance) → i < length numbers → apply_index table reached (get_or numbers i 0) ≡ Ok next
    → path_from table asked steps reached (drop i numbers) ≡ path_from table asked (steps ++ option_to_list next.step) next.reached (drop (i + 1) numbers)
unfolding path_from
path_more table asked steps reached numbers i next lt is = rw (drop-cons numbers i 0, add-one, is) refl

pub path_bad : (table : Table) (asked : ℕ) (steps : List Step) (reached : Reached) (numbers : List ℕ) (i : ℕ) (e : AccessError) → i < length numbers → apply_index table reached (get_or numbers i 0) ≡ Err e → path_from table asked steps reached (drop i numbers) ≡ Err e
unfolding path_from
path_bad table asked steps reached numbers i e lt is = rw (drop-cons numbers i 0, is) refl

passed_on : (result : Result AccessPath AccessError) (e : AccessError) (P : AccessError → Type 0) → IsErrAnd result (λ f. f ≡ e) → P e → IfErr result P
passed_on (Ok path) e P h p = tt
passed_on (Err f) e P h p = subst P (sym h) p

-- An error of a step is an error of the path.
pub step_refused : (table : Table) (asked : ℕ) (steps : List Step) (reached : Reached) (numbers : List ℕ) (i : ℕ) (all result : Result AccessPath AccessError) (e : AccessError) → i < length numbers → path_from table asked steps reached (drop i numbers) ≡ all
    → (e ≢ TypeError OutOfMemory → apply_index table reached (get_or numbers i 0) ≡ Err e) → IsErrAnd result (λ f. f ≡ e) → IfErr result (λ f. f ≢ TypeError OutOfMemory → all ≡ Err f)
step_refused table asked steps reached numbers i all result e lt left refused is =
    passed_on result e (λ f. f ≢ TypeError OutOfMemory → all ≡ Err f) is (λ other. sym left ∙ path_bad table asked steps reached numbers i e lt (refused other))
