use Rattle.std.proofs.Common.{◌≡◌, ◌≤◌, ◌-◌, vec_len}
use Rattle.plan_registers.specs.Work.{no_facts}
use Rattle.plan_registers.proofs.work.unreached.Given as goal

abbrev pub invariant-loop-facts : goal.invariant-loop-facts
invariant-loop-facts l = (l.facts.items ≡ no_facts (vec_len l.facts)) × (vec_len l.facts ≤ l.len)

abbrev pub decreases-loop-facts : goal.decreases-loop-facts
decreases-loop-facts l = l.len - vec_len l.facts
