use Rattle.command_line.proofs.Commands as commands
use Rattle.command_line.proofs.options.with_option.Goals as goal

pub returns-clause-object : goal.returns-clause-object
returns-clause-object c =
    commands.with_option c.args.command c.in_ok-command.command c.args.option c.requires.object c.requires.option
    c.in_ok-command.ensures

pub returns-clause-shape : goal.returns-clause-shape
returns-clause-shape c = c.in_ok-command.ensures.shape c.requires.option.1
