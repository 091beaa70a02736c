use Rattle.std.proofs.Common.{sym, ◌∙◌, subst}
use Rattle.plan_text.proofs.ReadingLaws.{not_as}
use Rattle.plan_text.specs.Content.{PlanContent}
use Rattle.plan_text.specs.PlanGrammar.{IsTextOf}
use Rattle.plan_text.proofs.reading.read_plan.Goals as goal

pub into_plan-requires : goal.into_plan-requires
into_plan-requires c = c.in-Ok.ensures.read.sound

pub returns-in-Ok-clause-found : goal.returns-in-Ok-clause-found
returns-in-Ok-clause-found c = subst (λ (q : PlanContent). IsTextOf q c.args.bytes.now) (sym c.into_plan.ensures) c.in-Ok.ensures.read.text

pub returns-in-Ok-clause-only : goal.returns-in-Ok-clause-only
returns-in-Ok-clause-only c = λ q h. c.into_plan.ensures ∙ c.in-Ok.ensures.read.only q h

pub returns-clause-only : goal.returns-clause-only
returns-clause-only c = λ q h. not_as c.args.bytes.now c.in-Err.error q c.in-Err.ensures.refused h
