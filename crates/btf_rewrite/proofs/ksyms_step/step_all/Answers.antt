use Rattle.std.proofs.Common.{◌≡◌, ◌≢◌, ◌+◌, ◌++◌, ◌∷◌, [], sym, ◌∙◌, arith}
use Rattle.std.proofs.lemmas.Option.{slice_get_within}
use Rattle.btf_records.specs.declared.error.BtfError.TheVariants.{InvalidTypeInfo, OutOfMemory}
use Rattle.btf_rewrite.specs.Ksyms.{stepped, stepped_from}
use Rattle.btf_rewrite.proofs.Growth.{passed_on}
use Rattle.btf_rewrite.proofs.Stepping.{all_stepped, one_more_stepped, too_many_stepped}
use Rattle.btf_rewrite.proofs.ksyms_step.step_all.Goals as goal
use Rattle.btf_rewrite.specs.Steps.{ksyms_of}
use Rattle.btf_storage.specs.Growth.{AreFew, AreTooMany}

pub step_next-requires-clause-within : goal.step_next-requires-clause-within
step_next-requires-clause-within c = omega (arith, c.requires.marks, slice_get_within (ksyms_of c.args.k.now).types c.loop-t.index c.in-Some.t (sym c.get.ensures.value ∙ c.in-Some.is))

pub returns-in_err-step_next-clause-refused : goal.returns-in_err-step_next-clause-refused
returns-in_err-step_next-clause-refused c =
    let k = ksyms_of c.args.k.now in
    let here = sym c.get.ensures.value ∙ c.in-Some.is in
    passed_on _ c.in_err-step_next.field-0.0 (λ e. e ≢ OutOfMemory → (e ≡ InvalidTypeInfo) × AreTooMany c.args.records.now.order (stepped_from k 1 k.types)) c.from_residual.ensures.1
    (λ other.
    let refused = c.in_err-step_next.ensures.refused other in
    (refused.0, rw (sym c.loop-t.invariant.1) (too_many_stepped k c.loop-t.records.order c.loop-t.index c.loop-t.records.types c.in-Some.t c.loop-t.invariant.0 here refused.1)))

pub loop-t-smaller : goal.loop-t-smaller
loop-t-smaller c = omega (arith, slice_get_within (ksyms_of c.args.k.now).types c.loop-t.index c.in-Some.t (sym c.get.ensures.value ∙ c.in-Some.is))

pub loop-t-preserved : goal.loop-t-preserved
loop-t-preserved c =
    let k = ksyms_of c.args.k.now in
    let here = sym c.get.ensures.value ∙ c.in-Some.is in
    let ok = c.in_ok-step_next.ensures in
    let few : AreFew c.loop-t.records.order (c.loop-t.records.types ++ stepped k (c.loop-t.index + 1) c.in-Some.t ∷ []) = rw (ok.order, ok.types) at ok.few in (
      rw (ok.order, ok.types) (one_more_stepped k c.loop-t.records.order c.loop-t.index c.loop-t.records.types c.in-Some.t c.loop-t.invariant.0 here few),
      ok.order ∙ c.loop-t.invariant.1,
    )

pub returns-clause-types : goal.returns-clause-types
returns-clause-types c = all_stepped (ksyms_of c.args.k.now) c.loop-t.records.order c.loop-t.index c.loop-t.records.types c.loop-t.invariant.0 (sym c.get.ensures.value ∙ c.in_default.is)
