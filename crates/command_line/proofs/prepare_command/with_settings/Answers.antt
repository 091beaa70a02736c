use Rattle.std.proofs.Common.{rules}
use Rattle.command_line.proofs.Commands.{six_more}
use Rattle.command_line.proofs.prepare_command.with_settings.Goals as goal

pub returns-clause-shape : goal.returns-clause-shape
returns-clause-shape c = record {
  is = six_more _ _ _ _ _ _ _ _ _ _ _ _ _ _ _ _ _ _ _
      c.in_ok-command.ensures.shape c.in_ok-command-2.ensures.shape c.in_ok-command-3.ensures.shape c.in_ok-command-4.ensures.shape c.in_ok-command-5.ensures.shape c.in_ok-command-6.ensures.shape
      (search rules) (search rules) (search rules) (search rules) (search rules) (search rules);
}
