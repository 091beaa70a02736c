use Rattle.std.proofs.Common.{rules}
use Rattle.command_line.proofs.Commands as commands
use Rattle.command_line.proofs.common_options.with_object.Goals as goal

pub returns-clause-object : goal.returns-clause-object
returns-clause-object c =
    commands.with_object c.after_help.result c.in_ok-command.command c.action-object.result (search rules) (search rules) (search rules) (search rules)
    (search rules) (search rules) (search rules) (search rules) c.in_ok-command.ensures
