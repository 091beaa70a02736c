use Rattle.std.proofs.Common.{List, [], map, ◌∙◌, ap}
use Rattle.load_plan.specs.Plans.{plan_of}
use Rattle.load_plan.specs.PlanMaps.{plan_map}
use Rattle.plan_text.specs.Content.{MapContent}
use Rattle.load_plan.proofs.Planned.{distinct_made, planned_made}
use Rattle.load_plan.proofs.planning.plan_object.Goals as goal

pub plan_of-requires-clause-answers : goal.plan_of-requires-clause-answers
plan_of-requires-clause-answers g c = distinct_made (c.in_ok-answers.ensures.made.2 [])

pub returns-clause-planned : goal.returns-clause-planned
returns-clause-planned g c =
    let made = c.in_ok-answers.ensures.made in (
      made.0,
      made.1,
      λ file. planned_made (made.2 file)
          c.pass_laws.ensures
          c.in_ok-plan_of.field-0
          (c.in_ok-plan_of.ensures.value ∙ ap (λ (ms : List MapContent). plan_of c.in_ok-answers.answers.items ms c.make.new.object) (c.in_ok-maps.ensures.value ∙ ap (map (plan_map c.args.settings.now)) c.maps.ensures))
          c.in_ok-plan_of.ensures.holds,
    )
