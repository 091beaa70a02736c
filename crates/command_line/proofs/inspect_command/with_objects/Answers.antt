use Rattle.command_line.proofs.Commands.{three_more}
use Rattle.command_line.proofs.inspect_command.with_objects.Goals as goal

pub returns-clause-shape : goal.returns-clause-shape
returns-clause-shape c =
    three_more _ _ _ _ _ _ _ _ _ _
    c.in_ok-command.ensures.shape c.in_ok-command-2.ensures.shape c.in_ok-command-3.ensures.shape
    c.values-object.ensures.rule c.flag-failures.ensures.rule c.value-extract.ensures.rule
