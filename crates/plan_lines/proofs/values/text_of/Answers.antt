use Rattle.plan_lines.proofs.Utf8.{text_in-none, text_in-some}
use Rattle.plan_lines.proofs.values.text_of.Goals as goal

pub returns-in-Ok : goal.returns-in-Ok
returns-in-Ok c = text_in-some c.in-Ok.text c.args.bytes c.in-Ok.ensures.ok

pub returns-in-Err : goal.returns-in-Err
returns-in-Err c = λ _. text_in-none c.args.bytes.items (λ h. let k = c.in-Err.ensures.succeeds h in absurd cc)
