use Rattle.std.proofs.Common.{None, Some, sym, arith, rules}
use Rattle.command_line.proofs.Splits.{split_at_last}
use Rattle.command_line.proofs.setting_words.name_and_rest.Goals as goal

pub returns-in-Some-clause-ok : goal.returns-in-Some-clause-ok
returns-in-Some-clause-ok c =
    sym (split_at_last 61 c.args.word.now (Some c.in-Some.parts) c.in-Some.ensures.cases (omega arith))

pub returns-in_ok-from_str-in-None-clause-refused : goal.returns-in_ok-from_str-in-None-clause-refused
returns-in_ok-from_str-in-None-clause-refused c =
    λ _. (search rules, sym (split_at_last 61 c.args.word.now None c.in-None.ensures.cases (omega arith)))
