use Rattle.std.proofs.Common.{◌≡◌, drop}
use Rattle.load_plan.specs.RewrittenFunctions.{is_denied}
use Rattle.load_plan.proofs.denied.is_denied.Given as goal

abbrev pub invariant-loop-answer : goal.invariant-loop-answer
invariant-loop-answer l = is_denied (drop l.answer-index l.answers.items) ≡ is_denied l.answers.items
