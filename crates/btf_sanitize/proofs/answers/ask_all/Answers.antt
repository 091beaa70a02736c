use Rattle.std.proofs.Common.{arith, sym, ◌∙◌}
use Rattle.std.proofs.lemmas.Option.{slice_get_within}
use Rattle.btf_sanitize.proofs.Asked.{distinct_none, given_none, given_then}
use Rattle.btf_sanitize.proofs.Questions.{all_asked, none_asked, one_more_asked}
use Rattle.btf_sanitize.proofs.answers.ask_all.Goals as goal

pub loop-t-init : goal.loop-t-init
loop-t-init g c = rw c.new-answers.ensures (c.requires, distinct_none, given_none _ _ _, none_asked _)

pub loop-t-smaller : goal.loop-t-smaller
loop-t-smaller g c = omega (arith, slice_get_within c.args.types.now.types c.loop-t.index c.in-Some.t (sym c.get.ensures.value ∙ c.in-Some.is))

pub loop-t-preserved : goal.loop-t-preserved
loop-t-preserved g c = (
  c.ask_for.ensures.callable,
  c.ask_for.ensures.distinct,
  given_then _ _ _ _ _ _ _ c.loop-t.invariant.2 c.ask_for.ensures.given,
  one_more_asked _ _ _ _ _ _ _ _ _ c.loop-t.invariant.3 (sym c.get.ensures.value ∙ c.in-Some.is) c.ask_for.ensures.given c.ask_for.ensures.asked,
)

pub returns-clause-questions : goal.returns-clause-questions
returns-clause-questions g c = all_asked _ _ _ _ c.loop-t.invariant.3 (sym c.get.ensures.value ∙ c.in_default.is)
