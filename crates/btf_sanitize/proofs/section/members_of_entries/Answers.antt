use Rattle.std.proofs.Common.{arith}
use Rattle.btf_sanitize.proofs.Elements.{all_hold, all_made, one_more}
use Rattle.btf_sanitize.proofs.Faultless.{none_of_any}
use Rattle.btf_sanitize.proofs.section.members_of_entries.Goals as goal

pub loop-entry-preserved : goal.loop-entry-preserved
loop-entry-preserved c = rw c.in_ok-push.ensures.items (one_more _ _ _ _ _ _ _ c.loop-entry.invariant c.loop-entry-test.true c.in_ok-member_of_entry.ensures.value c.in_ok-member_of_entry.ensures.accepted)

pub returns-clause-value : goal.returns-clause-value
returns-clause-value c = all_made _ _ _ _ _ c.loop-entry.invariant (omega (arith, c.loop-entry-test.false, c.loop-entry.auto.entry-index-end))

pub returns-clause-accepted : goal.returns-clause-accepted
returns-clause-accepted c = none_of_any _ _ (all_hold _ _ _ _ _ c.loop-entry.invariant (omega (arith, c.loop-entry-test.false, c.loop-entry.auto.entry-index-end)))
