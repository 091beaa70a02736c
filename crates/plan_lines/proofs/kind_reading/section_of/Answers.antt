use Rattle.std.proofs.Common.{rules}
use Rattle.plan_lines.proofs.KindLaws.{first_left, none_left, others_left}
use Rattle.plan_lines.proofs.kind_reading.section_of.Goals as goal

pub loop-section-init : goal.loop-section-init
loop-section-init c = search rules

pub returns-then-are_same : goal.returns-then-are_same
returns-then-are_same c = first_left c.args.numbers _ _ c.in-Some.section _ c.in-Some.ensures.steps (search rules) c.loop-section.invariant

pub loop-section-preserved : goal.loop-section-preserved
loop-section-preserved c = others_left c.args.numbers _ _ c.in-Some.section _ c.in-Some.ensures.steps (search rules) c.loop-section.invariant

pub returns : goal.returns
returns c = λ _. none_left c.args.numbers _ _ c.in-None.ensures.steps.0 c.loop-section.invariant
