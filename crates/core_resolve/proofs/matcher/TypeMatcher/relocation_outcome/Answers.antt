use Rattle.std.proofs.Common.{sym, subst, ◌∙◌}
use Rattle.core_resolve.specs.KnownOutcomes.{IsOutcome}
use Rattle.core_resolve.specs.RelocationOutcomes.{Matched}
use Rattle.core_resolve.proofs.KnownOutcomes.{one_more}
use Rattle.core_resolve.proofs.OutcomeTables.{table_of}
use Rattle.core_resolve.proofs.matcher.TypeMatcher.relocation_outcome.Goals as goal

pub invariant_of-self-2 : goal.invariant_of-self-2
invariant_of-self-2 c =
    let here = subst (λ (m : Matched). IsOutcome m.local m.targets c.args.relocation c.in_ok-outcome.outcome) (sym (c.self.view_is ∙ c.in_ok-outcome.ensures.same)) c.in_ok-outcome.ensures.value in
    let known = one_more _ c.self.inside.known.entries _ (record { relocation = c.args.relocation; outcome = c.in_ok-outcome.outcome }) c.self.inside.local.now c.self.inside.targets.now c.self.invariant.1 here in
    (c.self.invariant.0, rw c.in_ok-insert.ensures.entries known, c.self.invariant.2)

pub returns-in-Some-clause-table : goal.returns-in-Some-clause-table
returns-in-Some-clause-table c = table_of c.args.self.now.local c.args.self.now.targets c.args.relocation c.in-Some.outcome c.in-Some.ensures
