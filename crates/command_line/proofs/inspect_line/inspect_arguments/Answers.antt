use Rattle.std.proofs.Common.{◌∙◌, ap}
use Rattle.command_line.specs.Found.{order_named}
use Rattle.command_line.specs.InspectLine.{format_named}
use Rattle.command_line.proofs.Commands.{object_is_there}
use Rattle.command_line.proofs.inspect_line.inspect_arguments.Goals as goal

pub object_of-requires : goal.object_of-requires
object_of-requires c =
    let match = c.in_ok-matches.ensures.found in
    object_is_there match.command c.in_ok-matches.matches match.takes match.found.parsed

pub returns-clause-line : goal.returns-clause-line
returns-clause-line c = record {
  matches = c.in_ok-matches.matches;
  match = c.in_ok-matches.ensures.found;
  object = c.object_of.ensures;
  types = c.in_ok-values_of.ensures;
  optional = c.in_ok-values_of-2.ensures;
  more_objects = c.in_ok-values_of-3.ensures;
  types_order = c.order_of.ensures ∙ ap order_named c.get_str.ensures;
  symbols = c.get_str-2.ensures;
  check = record { none = c.get_flag-2.ensures.none; set = c.get_flag-2.ensures.value; unset = c.get_flag-2.ensures.other };
  summary = c.get_flag.result;
  is_summary = record { none = c.get_flag.ensures.none; set = c.get_flag.ensures.value; unset = c.get_flag.ensures.other };
  format = c.format_of.ensures ∙ ap (format_named c.get_flag.result) c.get_str-3.ensures;
  strict = record { none = c.get_flag-3.ensures.none; set = c.get_flag-3.ensures.value; unset = c.get_flag-3.ensures.other };
  failures = record { none = c.get_flag-4.ensures.none; set = c.get_flag-4.ensures.value; unset = c.get_flag-4.ensures.other };
  code = record { none = c.get_flag-5.ensures.none; set = c.get_flag-5.ensures.value; unset = c.get_flag-5.ensures.other };
  extract = c.get_str-4.ensures;
  program = c.get_str-5.ensures;
  plan = record { none = c.get_flag-6.ensures.none; set = c.get_flag-6.ensures.value; unset = c.get_flag-6.ensures.other };
}
