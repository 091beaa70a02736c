use Rattle.std.proofs.Common.{◌≡◌, ◌≢◌, ◌⊎◌, ◌++◌, ◌∙◌, ℕ, List, Err, Ok, Result, Some, IfErr, IsErrAnd, ap, drop, inl, inr, length, map, subst, sym, take}
use Rattle.std.proofs.Math.Seq.{take-append_seam}
use Rattle.std.proofs.lemmas.List.{length-map}
use Rattle.std.specs.Option.{option_to_list}
use Rattle.core_relocation.specs.Relocations.{placed}
use Rattle.core_relocation.specs.Walks.{AllTake, HasWriteFault, IsRefusedAmong, MakesAll, RecordFault, after_relocation}
use Rattle.core_relocation.proofs.Making.{one_made, one_refused}
use Rattle.relocation_errors.specs.declared.type_relocations.BtfRelocationCause.{BtfRelocationCause}
use Rattle.relocation_errors.specs.declared.type_relocations.BtfRelocationCause.TheVariants.{OutOfMemory}
use Rattle.object_parts.specs.Content.{FunctionContent}
use Rattle.core_relocation.proofs.lookup.Lookup.relocate_record.Goals as goal

-- A cause that is passed on.
passed_on : {T : Type 0} (result : Result T BtfRelocationCause) (e : BtfRelocationCause) (P : BtfRelocationCause → Type 0) → IsErrAnd result (λ f. f ≡ e) → P e → IfErr result P
passed_on (Ok x) e P h p = tt
passed_on (Err f) e P h p = subst P (sym h) p

-- A list of which all items were lent holds what was written to them.
lent : (count : ℕ) (new rest : List FunctionContent) → length new ≡ count → take count (new ++ rest) ≡ new
lent count new rest is = subst (λ (n : ℕ). take n (new ++ rest) ≡ new) is (take-append_seam new rest)

pub returns-in_err-placed-clause-refused : goal.returns-in_err-placed-clause-refused
returns-in_err-placed-clause-refused c =
    let g = c.args.self.now in
    let section = Some c.args.section_index in
    let r = c.args.relocation in
    passed_on _ c.in_err-placed.field-0.0
    (λ e. e ≢ OutOfMemory → RecordFault g section r e ⊎ HasWriteFault g (option_to_list (placed g section r)) c.args.relocated.now.items e)
    c.from_residual.ensures.1
    (λ other. inl (c.in_err-placed.ensures.refused other))

pub returns-in_err-relocate_among-clause-refused : goal.returns-in_err-relocate_among-clause-refused
returns-in_err-relocate_among-clause-refused c =
    let g = c.args.self.now in
    let section = Some c.args.section_index in
    let r = c.args.relocation in
    let p = c.in_ok-placed.placed in
    let items = c.args.relocated.now.items in
    let e = c.in_err-relocate_among.field-0.0 in
    passed_on _ e
    (λ e. e ≢ OutOfMemory → RecordFault g section r e ⊎ HasWriteFault g (option_to_list (placed g section r)) items e)
    c.from_residual-in_err-relocate_among.ensures.1
    (λ other.
    inr (one_refused g section r p items e c.in_ok-placed.ensures.value
    (subst (λ (l : List FunctionContent). IsRefusedAmong p l e) c.as_mut_slice.ensures.value (c.in_err-relocate_among.ensures.refused other))))

pub returns-clause-made : goal.returns-clause-made
returns-clause-made c =
    let g = c.args.self.now in
    let section = Some c.args.section_index in
    let r = c.args.relocation in
    let p = c.in_ok-placed.placed in
    let items = c.args.relocated.now.items in
    let old = c.as_mut_slice.result.now in
    let new = c.relocate_among.new.functions in
    let written : new ≡ map (after_relocation p) old = c.in_ok-relocate_among.ensures.written in
    let len : length new ≡ c.args.relocated.now.len = ap length written ∙ length-map old (after_relocation p) ∙ c.as_mut_slice.ensures.len in
    let made = one_made g section r p items new c.in_ok-placed.ensures.value (written ∙ ap (map (after_relocation p)) c.as_mut_slice.ensures.value)
    (subst (AllTake p) c.as_mut_slice.ensures.value c.in_ok-relocate_among.ensures.fits) in
    subst (MakesAll g (option_to_list (placed g section r)) items) (sym (lent c.args.relocated.now.len new (drop (length new) items) len)) made
