use Rattle.std.proofs.Common.{rules, ◌≡◌, ◌∙◌, Option, Some, ap, codes}
use Rattle.clap.specs.Walk.{Rule, rule_of}
use Rattle.clap.specs.declared.builder.value_parser.ValueParser.{ValueParser}
use Rattle.command_line.specs.Options.{repeated}
use Rattle.command_line.proofs.Commands.{two_more}
use Rattle.command_line.proofs.prepare_command.with_lacks.Goals as goal

pub returns-clause-shape : goal.returns-clause-shape
returns-clause-shape c =
    let feature = c.value_parser-denied.ensures.given in
    let denied : rule_of c.value_parser-denied.result ≡ record (repeated (codes "deny")) { parser = Some feature.0 } =
    ap rule_of c.value_parser-denied.ensures.others
    ∙ (ap (λ (r : Rule). record r { parser = c.value_parser-denied.result.value_parser }) c.values.ensures.rule
    ∙ ap (λ (p : Option ValueParser). record (repeated (codes "deny")) { parser = p }) feature.1) in
    record {
      feature = feature.0;
      features = record { list = _; is = feature.2; named = c.feature_names.ensures };
      is = two_more _ _ _ _ _ _ _ c.in_ok-command.ensures.shape c.in_ok-command-2.ensures.shape denied (search rules);
    }
