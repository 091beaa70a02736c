use Rattle.std.proofs.Common.{lit<, sym, ◌∙◌}
use Rattle.btf_sanitize.proofs.Asked.{distinct_new, noted_known, noted_new, room_for_one, settled_known, settled_new}
use Rattle.btf_sanitize.proofs.answers.ask.Goals as goal

pub returns-in-Some-clause-noted : goal.returns-in-Some-clause-noted
returns-in-Some-clause-noted g c = noted_known _ _ c.in-Some.answer (sym c.answer_to.ensures ∙ c.in-Some.is)

pub returns-in-Some-clause-settled : goal.returns-in-Some-clause-settled
returns-in-Some-clause-settled g c = settled_known _ _ _ (sym c.answer_to.ensures ∙ c.in-Some.is)

pub push-requires : goal.push-requires
push-requires g c = (lit< tt, room_for_one _ _ c.requires.distinct (sym c.answer_to.ensures ∙ c.in_default.is))

pub returns-clause-distinct : goal.returns-clause-distinct
returns-clause-distinct g c = rw c.push.ensures.items (distinct_new _ _ _ c.requires.distinct (sym c.answer_to.ensures ∙ c.in_default.is))

pub returns-clause-noted : goal.returns-clause-noted
returns-clause-noted g c = rw c.push.ensures.items (noted_new _ _ _ (sym c.answer_to.ensures ∙ c.in_default.is))

pub returns-clause-settled : goal.returns-clause-settled
returns-clause-settled g c = rw c.push.ensures.items (settled_new _ _ _ (sym c.answer_to.ensures ∙ c.in_default.is))
