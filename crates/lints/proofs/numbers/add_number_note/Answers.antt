use Rattle.std.proofs.Common.{arith, rules}
use Rattle.std.proofs.lemmas.Grind.{common_steps}
use Rattle.lints.proofs.Firsts.{noted_again, noted_first}
use Rattle.lints.proofs.numbers.add_number_note.Goals as goal

pub returns-in_ok-push-in-Some : goal.returns-in_ok-push-in-Some
returns-in_ok-push-in-Some c =
    noted_again _ c.args.number c.args.name c.in-Some.first _ _ (search rules) (grind (arith, common_steps))

pub returns-in_ok-insert-in-None : goal.returns-in_ok-insert-in-None
returns-in_ok-insert-in-None c =
    noted_first _ _ c.args.number c.args.name _ (search rules) (λ q. search rules)
