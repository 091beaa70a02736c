use Rattle.std.proofs.Common.{◌≡◌, refl, rules}
use Rattle.std.proofs.lemmas.Result.{err_from_is_err_and}
use Rattle.run_settings.specs.Features.{grants}
use Rattle.load_plan.proofs.Known.{planned, refused}
use Rattle.load_plan.proofs.running.run.Goals as goal

pub returns-in-Ok-clause-written : goal.returns-in-Ok-clause-written
returns-in-Ok-clause-written g c = let said = c.in_ok-plan.ensures.planned in (
  said.0,
  said.1,
  record {
    plan = c.in_ok-plan.plan;
    planned =
        rw (← c.settings.view_is)
        (planned _ (grants c.settings.inside.features) (λ s. s.0 ≡ c.settings.inside.features) (λ s t f b keeps called. search rules) _ refl _ c.settings.inside.probe (λ answer says. search rules) _ _ said.2);
    holds = c.in-Ok.ensures.ok;
  },
)

pub returns-in_err-plan-clause-refused : goal.returns-in_err-plan-clause-refused
returns-in_err-plan-clause-refused g c =
    let p = err_from_is_err_and c.from_residual.result c.from_residual.ensures.1 in
    rw (p.1, p.2, ← c.settings.view_is) (λ other. let said = c.in_err-plan.ensures.refused other in (said.0, said.1, refused _ (grants c.settings.inside.features) (λ s. s.0 ≡ c.settings.inside.features) (λ s t f b keeps called. search rules) _ refl _ _ said.2))

pub returns-clause-part : goal.returns-clause-part
returns-clause-part g c = λ e. let said = c.in_ok-plan.ensures.planned in (
  said.0,
  said.1,
  record {
    plan = c.in_ok-plan.plan;
    planned =
        rw (← c.settings.view_is)
        (planned _ (grants c.settings.inside.features) (λ s. s.0 ≡ c.settings.inside.features) (λ s t f b keeps called. search rules) _ refl _ c.settings.inside.probe (λ answer says. search rules) _ _ said.2);
    holds = c.in-Err.ensures.part;
  },
)
