use Rattle.std.proofs.Common.{◌≡◌, drop}
use Rattle.btf_sanitize.specs.Answers.{answer_to}
use Rattle.btf_sanitize.proofs.answers.answer_to.Given as goal

abbrev pub invariant-loop-answer : goal.invariant-loop-answer
invariant-loop-answer l = answer_to (drop l.answer-index l.answers.items) l.feature ≡ answer_to l.answers.items l.feature
