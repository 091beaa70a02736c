use Rattle.std.proofs.Common.{rules, ◌≡◌, ◌∷◌, ◌∙◌, [], Option, Some, ap, codes}
use Rattle.clap.specs.Walk.{Rule, rule_of}
use Rattle.clap.specs.declared.builder.value_parser.ValueParser.{ValueParser}
use Rattle.command_line.specs.Options.{valued}
use Rattle.command_line.proofs.Commands.{three_more}
use Rattle.command_line.proofs.common_options.with_kernel_files.Goals as goal

pub returns-clause-shape : goal.returns-clause-shape
returns-clause-shape c =
    let order = c.value_parser.ensures.given in
    let parsed : rule_of c.value_parser.result ≡ record (valued (codes "types-order")) { parser = Some order.0 } =
    ap rule_of c.value_parser.ensures.others
    ∙ (ap (λ (r : Rule). record r { parser = c.value_parser.result.value_parser }) c.value.ensures.rule
    ∙ ap (λ (p : Option ValueParser). record (valued (codes "types-order")) { parser = p }) order.1) in
    let ordered : rule_of c.default_value-order.result ≡ record (valued (codes "types-order")) { parser = Some order.0; defaults = codes "little" ∷ [] } =
    ap rule_of c.default_value-order.ensures ∙ ap (λ (r : Rule). record r { defaults = codes "little" ∷ [] }) parsed in
    record {
      order = order.0;
      orders = record { list = _; is = order.2; named = search rules };
      is = three_more _ _ _ _ _ _ _ _ _ _
          c.in_ok-command.ensures.shape c.in_ok-command-2.ensures.shape c.in_ok-command-3.ensures.shape
          (search rules) ordered (search rules);
    }
