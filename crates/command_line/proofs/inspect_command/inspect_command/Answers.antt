use Rattle.std.proofs.Common.{◌∙◌, ap, subst}
use Rattle.clap.specs.Simple.{app_of}
use Rattle.command_line.specs.Commands.{HasKernelFiles}
use Rattle.command_line.specs.InspectCommand.{listing_rules, object_rules}
use Rattle.command_line.specs.Options.{with_rules}
use Rattle.command_line.proofs.inspect_command.inspect_command.Goals as goal

pub returns-clause-program : goal.returns-clause-program
returns-clause-program c = record {
  files = app_of c.in_ok-command-2.command;
  of_files = subst (λ app. HasKernelFiles app (app_of c.in_ok-command-2.command)) c.in_ok-command.ensures.shape c.in_ok-command-2.ensures.shape;
  reports = app_of c.in_ok-command-3.command;
  of_reports = c.in_ok-command-3.ensures.shape;
  of_listings = c.in_ok-command-6.ensures.shape
      ∙ ap (λ app. with_rules app listing_rules)
      (c.in_ok-command-5.ensures.shape ∙ ap (λ app. with_rules app object_rules) c.in_ok-command-4.ensures.shape);
}
