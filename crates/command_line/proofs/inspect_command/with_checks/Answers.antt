use Rattle.command_line.proofs.Commands.{two_more}
use Rattle.command_line.proofs.inspect_command.with_checks.Goals as goal

pub returns-clause-shape : goal.returns-clause-shape
returns-clause-shape c =
    two_more _ _ _ _ _ _ _
    c.in_ok-command.ensures.shape c.in_ok-command-2.ensures.shape
    c.values-optional.ensures.rule c.flag-strict.ensures.rule
