use Rattle.std.proofs.Common.{ap, sym, ◌∙◌}
use Rattle.morvezin.proofs.Faults.{refused_for, says_more}
use Rattle.morvezin.proofs.preparing.planned_text.Goals as goal

pub returns-clause-refused : goal.returns-clause-refused
returns-clause-refused c =
    says_more
    (refused_for _ _ _ _ _ c.args.settings.now _ _ _ (ap (λ b. b.now) c.new-reader.ensures.inner) (sym c.failed.ensures ∙ c.if-failed.false) c.in-Err-Refused.field-0-is c.in-Err-Refused.ensures.refused)
    (λ no. absurd no) (λ no. absurd no) _ c.refused.ensures
