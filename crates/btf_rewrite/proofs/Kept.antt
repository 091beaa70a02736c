-- Each record keeps its id.
use Rattle.std.proofs.Common.{◌≡◌, ℕ, zero, suc, ◌+◌, ◌-◌, ◌==◌, false, List, [], ◌∷◌, ◌++◌, Some, refl, ap, sym, ◌∙◌, subst, arith}
use Rattle.std.specs.List.{slice_get}
use Rattle.std.proofs.lemmas.Bool.Decides.{nat_tests}
use Rattle.btf_records.specs.declared.types.BtfType.{BtfType}
use Rattle.btf_records.specs.declared.types.BtfType.TheVariants as types
use Rattle.btf_storage.specs.Ids.{record_of_id}
use Rattle.btf_rewrite.proofs.Left.{left_alone}
use Rattle.btf_rewrite.specs.Ksyms.{Ksyms, StepKeeps, stepped, stepped_from, stepped_types}

at_suc : (ts : List BtfType) (i : ℕ) → record_of_id ts (suc i) ≡ slice_get ts i
at_suc ts i =
    let other : (suc i == 0) ≡ false = grind (arith, nat_tests) in
    let same : suc i - 1 ≡ i = omega arith in
    rw (other, same) refl

stepped_at : (k : Ksyms) (id : ℕ) (ts rest : List BtfType) (i : ℕ) (t : BtfType) → slice_get ts i ≡ Some t → slice_get (stepped_from k id ts ++ rest) i ≡ Some (stepped k (id + i) t)
stepped_at k id [] rest i t h = absurd cc
stepped_at k id (x ∷ ts) rest zero t h =
    let same : x ≡ t = cc in
    let first : id + 0 ≡ id = omega arith in
    rw (same, first) refl
stepped_at k id (x ∷ ts) rest (suc i) t h =
    let next : id + suc i ≡ (id + 1) + i = omega arith in
    rw next (stepped_at k (id + 1) ts rest i t h)

stepped_here : (k : Ksyms) (id : ℕ) (t : BtfType) → record_of_id k.types id ≡ Some t → record_of_id (stepped_types k) id ≡ Some (stepped k id t)
stepped_here k zero t h = let same : types.Unknown ≡ t = cc in rw (sym same) refl
stepped_here k (suc i) t h =
    let at : slice_get k.types i ≡ Some t = sym (at_suc k.types i) ∙ h in
    let id : 1 + i ≡ suc i = omega arith in
    at_suc (stepped_types k) i ∙ (stepped_at k 1 k.types _ i t at ∙ ap (λ n. Some (stepped k n t)) id)

pub step_kept : (k : Ksyms) → StepKeeps k (stepped_types k)
step_kept k = record {
  each = stepped_here k;
  left = λ id t here leaves. stepped_here k id t here ∙ ap Some (left_alone k id t leaves);
}

pub step_keeps : (k : Ksyms) (types : List BtfType) → types ≡ stepped_types k → StepKeeps k types
step_keeps k types same = subst (StepKeeps k) (sym same) (step_kept k)
