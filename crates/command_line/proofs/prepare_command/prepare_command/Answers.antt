use Rattle.std.proofs.Common.{subst}
use Rattle.clap.specs.Simple.{app_of}
use Rattle.command_line.specs.Commands.{HasKernelFiles}
use Rattle.command_line.proofs.prepare_command.prepare_command.Goals as goal

pub returns-clause-program : goal.returns-clause-program
returns-clause-program c =
    let files = app_of c.in_ok-command-2.command in
    record {
      files = files;
      of_files = subst (λ app. HasKernelFiles app files) c.in_ok-command.ensures.shape c.in_ok-command-2.ensures.shape;
      lacks = app_of c.in_ok-command-3.command;
      of_lacks = c.in_ok-command-3.ensures.shape;
      of_settings = c.in_ok-command-4.ensures.shape;
    }
