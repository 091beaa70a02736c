use Rattle.std.proofs.Common.{◌≢◌, ◌++◌, ◌∷◌, [], refl, sym, ◌∙◌, arith}
use Rattle.std.proofs.lemmas.Option.{slice_get_within}
use Rattle.btf_records.specs.declared.error.BtfError.TheVariants.{OutOfMemory}
use Rattle.btf_sanitize.specs.Knowledge.{facts_of}
use Rattle.btf_sanitize.specs.Rewritten.{rewritten}
use Rattle.btf_sanitize.specs.Sanitized.{AnyFault}
use Rattle.btf_sanitize.proofs.Passes.{all_are_added, all_are_faultless, all_are_made, one_more_passed, passed_on, refused_here}
use Rattle.btf_sanitize.proofs.table.rewrite_all.Goals as goal
use Rattle.btf_storage.specs.Growth.{AreFew}

pub returns-in_err-rewrite_next-clause-refused : goal.returns-in_err-rewrite_next-clause-refused
returns-in_err-rewrite_next-clause-refused c =
    let known = facts_of c.args.known.now in
    let here = sym c.get.ensures.value ∙ c.in-Some.is in
    passed_on _ c.in_err-rewrite_next.field-0.0 (λ e. e ≢ OutOfMemory → AnyFault known c.args.records.now.order c.args.additions.now e) c.from_residual.ensures.1
    (λ other. rw (sym c.loop-t.invariant.1) (refused_here known c.loop-t.records c.args.additions.now c.loop-t.additions c.loop-t.index c.in-Some.t c.in_err-rewrite_next.field-0.0 c.loop-t.invariant.0 here (c.in_err-rewrite_next.ensures.refused other)))

pub loop-t-smaller : goal.loop-t-smaller
loop-t-smaller c = omega (arith, slice_get_within (facts_of c.args.known.now).types c.loop-t.index c.in-Some.t (sym c.get.ensures.value ∙ c.in-Some.is))

pub loop-t-preserved : goal.loop-t-preserved
loop-t-preserved c =
    let known = facts_of c.args.known.now in
    let here = sym c.get.ensures.value ∙ c.in-Some.is in
    let ok = c.in_ok-rewrite_next.ensures in
    let few : AreFew c.loop-t.records.order (c.loop-t.records.types ++ rewritten known c.loop-t.additions c.in-Some.t ∷ []) = rw (ok.order, ok.types) at ok.few in (
      rw (ok.order, ok.types) (one_more_passed known c.loop-t.records.order c.args.additions.now c.loop-t.additions c.loop-t.index c.loop-t.records.types c.in-Some.t (rewritten known c.loop-t.additions c.in-Some.t) c.rewrite_next.new.additions c.loop-t.invariant.0 here refl ok.added ok.accepted few),
      ok.order ∙ c.loop-t.invariant.1,
    )

pub returns-clause-types : goal.returns-clause-types
returns-clause-types c = all_are_made (facts_of c.args.known.now) c.loop-t.records.order c.args.additions.now c.loop-t.additions c.loop-t.index c.loop-t.records.types c.loop-t.invariant.0 (sym c.get.ensures.value ∙ c.in_default.is)

pub returns-clause-added : goal.returns-clause-added
returns-clause-added c = all_are_added (facts_of c.args.known.now) c.loop-t.records.order c.args.additions.now c.loop-t.additions c.loop-t.index c.loop-t.records.types c.loop-t.invariant.0 (sym c.get.ensures.value ∙ c.in_default.is)

pub returns-clause-accepted : goal.returns-clause-accepted
returns-clause-accepted c = all_are_faultless (facts_of c.args.known.now) c.loop-t.records.order c.args.additions.now c.loop-t.additions c.loop-t.index c.loop-t.records.types c.loop-t.invariant.0 (sym c.get.ensures.value ∙ c.in_default.is)
