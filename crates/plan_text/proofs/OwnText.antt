-- The text of a plan.
use Rattle.std.proofs.Common.{refl}
use Rattle.plan_lines.specs.LineReads.{LinesAreToldApart, LinesAreUnbroken}
use Rattle.plan_lines.specs.declared.line.TextVersion.TheVariants.{Second}
use Rattle.plan_text.proofs.ReadingLaws.{same_plan}
use Rattle.plan_text.specs.Content.{IsPlan, PlanContent}
use Rattle.plan_text.specs.PlanGrammar.{IsTextOf, text_of}
use Rattle.plan_text.specs.Reading.{IsReadPlan}

own_text : (q : PlanContent) → IsPlan q → IsTextOf q (text_of q)
own_text q h = (Second, record { sound = h.sound; fits = h.fits; tables = tt; spelled = refl })

pub read_back : LinesAreUnbroken → LinesAreToldApart → (q : PlanContent) → IsPlan q → IsReadPlan (text_of q) q
read_back law apart q h = record {
  sound = h;
  text = own_text q h;
  only = λ other k. same_plan law apart (text_of q) q other (own_text q h) k;
}
