use Rattle.std.proofs.Common.{◌∙◌, sym, subst}
use Rattle.std.specs.List.{All}
use Rattle.std.proofs.lemmas.List.Elements.{All-more}
use Rattle.std.proofs.lemmas.Option.{get_or_from_slice_get, slice_get_within}
use Rattle.plan_text.proofs.Texts.{take-all}
use Rattle.plan_text.specs.Content.{FitsSource}
use Rattle.plan_text.proofs.limits.sources_fit.Goals as goal

pub loop-info-preserved : goal.loop-info-preserved
loop-info-preserved c =
    let info = c.in-Some.info in
    let is = sym c.get.ensures.value ∙ c.in-Some.is in
    All-more FitsSource c.args.records.now c.loop-info.index info (slice_get_within c.args.records.now c.loop-info.index info is) c.loop-info.invariant
    (subst FitsSource (sym (get_or_from_slice_get c.args.records.now c.loop-info.index info info is)) c.source_fits.ensures)

pub returns : goal.returns
returns c = subst (All FitsSource) (take-all c.args.records.now c.loop-info.index (sym c.get.ensures.value ∙ c.in_default.is)) c.loop-info.invariant
