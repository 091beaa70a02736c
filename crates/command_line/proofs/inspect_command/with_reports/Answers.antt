use Rattle.std.proofs.Common.{rules, ◌≡◌, ◌∙◌, Option, Some, ap, codes}
use Rattle.clap.specs.Walk.{Rule, rule_of}
use Rattle.clap.specs.declared.builder.value_parser.ValueParser.{ValueParser}
use Rattle.command_line.specs.Options.{valued}
use Rattle.command_line.proofs.Commands.{three_more}
use Rattle.command_line.proofs.inspect_command.with_reports.Goals as goal

pub returns-clause-shape : goal.returns-clause-shape
returns-clause-shape c =
    let format = c.value_parser-format.ensures.given in
    let formatted : rule_of c.value_parser-format.result ≡ record (valued (codes "format")) { parser = Some format.0 } =
    ap rule_of c.value_parser-format.ensures.others
    ∙ (ap (λ (r : Rule). record r { parser = c.value_parser-format.result.value_parser }) c.value.ensures.rule
    ∙ ap (λ (p : Option ValueParser). record (valued (codes "format")) { parser = p }) format.1) in
    record {
      format = format.0;
      formats = record { list = _; is = format.2; named = search rules };
      is = three_more _ _ _ _ _ _ _ _ _ _
          c.in_ok-command.ensures.shape c.in_ok-command-2.ensures.shape c.in_ok-command-3.ensures.shape
          (search rules) (search rules) formatted;
    }
