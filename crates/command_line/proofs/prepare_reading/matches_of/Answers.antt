use Rattle.std.proofs.Common.{◌≢◌, map}
use Rattle.std.specs.String.{string_bytes}
use Rattle.clap.specs.Values.{kind_of}
use Rattle.clap.specs.declared.error.kind.ErrorKind.TheVariants.{OutOfMemory}
use Rattle.command_line.specs.PrepareLine.{IsRefusedPrepareLine}
use Rattle.command_line.proofs.Passed.{passed_on}
use Rattle.command_line.proofs.prepare_reading.matches_of.Goals as goal

pub returns-clause-found : goal.returns-clause-found
returns-clause-found c = record {
  command = c.in_ok-command.command;
  program = c.in_ok-command.ensures.program;
  takes = c.in_ok-command.ensures.object;
  found = c.in_ok-matches.ensures.found;
}

pub returns-in_err-matches-clause-refused : goal.returns-in_err-matches-clause-refused
returns-in_err-matches-clause-refused c =
    passed_on _ c.in_err-matches.field-0.0 (λ error. kind_of error ≢ OutOfMemory → IsRefusedPrepareLine (map string_bytes c.args.words.now)) c.from_residual-in_err-matches.ensures.1
    (λ other. record {
      command = c.in_ok-command.command;
      program = c.in_ok-command.ensures.program;
      refused = c.in_err-matches.ensures.refused other;
    })
