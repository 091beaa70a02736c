use Rattle.std.proofs.Common.{List, Result, subst, sym}
use Rattle.std.specs.Prelude.{IfOk}
use Rattle.core_resolve.specs.RelocationOutcomes.{IsTableOf, first_table}
use Rattle.core_resolve.specs.declared.error.TypeRelocationError.{TypeRelocationError}
use Rattle.core_resolve.specs.declared.matches.Match.{Match}
use Rattle.core_resolve.specs.declared.relocation.RelocationOutcome.{RelocationOutcome}
use Rattle.core_resolve.proofs.OutcomeTables.{first_of, outcome_of_matches_is_of}
use Rattle.core_resolve.proofs.matcher.TypeMatcher.found_outcome.Goals as goal

pub returns-clause-table : goal.returns-clause-table
returns-clause-table c =
    let targets = c.args.self.now.targets in
    let kind = c.args.relocation.kind in
    let first = first_of kind c.args.self.now.local c.in_ok-path.path targets c.in_ok-matches.matches.items c.in_ok-matches.ensures.value in
    let here = subst (λ (ms : List Match). IsTableOf targets (first_table ms)) (sym c.as_slice.ensures.value) first in
    subst (λ (r : Result RelocationOutcome TypeRelocationError). IfOk r (λ o. IsTableOf targets o.table)) (sym c.outcome_of_matches.ensures) (outcome_of_matches_is_of targets kind c.as_slice.result.now c.in_ok-value.value here)
