use Rattle.std.proofs.Common.{◌≡◌, ◌≢◌, false, map}
use Rattle.std.proofs.lemmas.Bool.{false_from_ne_true}
use Rattle.std.specs.String.{string_bytes}
use Rattle.clap.specs.Simple.{app_of}
use Rattle.clap.specs.Takes.{takes}
use Rattle.clap.specs.Values.{kind_of}
use Rattle.clap.specs.declared.error.kind.ErrorKind.TheVariants.{OutOfMemory}
use Rattle.command_line.proofs.Passed.{passed_on}
use Rattle.command_line.proofs.found.matches_in.Goals as goal

pub returns-clause-found : goal.returns-clause-found
returns-clause-found c = record {
  parsed = c.in_ok-matches.ensures.parsed;
  found = c.in_ok-matches.ensures.matches;
}

pub returns-in_err-matches-clause-refused : goal.returns-in_err-matches-clause-refused
returns-in_err-matches-clause-refused c =
    passed_on _ c.in_err-matches.field-0.0 (λ error. kind_of error ≢ OutOfMemory → takes (app_of c.args.command) (map string_bytes c.args.words.now) ≡ false) c.from_residual.ensures.1
    (λ other. false_from_ne_true _ (λ taken. other (c.in_err-matches.ensures.passes taken)))
