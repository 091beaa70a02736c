use Rattle.std.proofs.Common.{◌≡◌, ◌∙◌, ap, is_some, map, subst, sym, true}
use Rattle.std.specs.List.{All}
use Rattle.run_settings.specs.Features.{feature_named}
use Rattle.command_line.specs.Found.{order_named}
use Rattle.command_line.proofs.Commands.{object_is_there}
use Rattle.command_line.proofs.Features.{all_before, denied_are_features, map_after}
use Rattle.command_line.proofs.prepare_reading.arguments.Goals as goal

pub object_of-requires : goal.object_of-requires
object_of-requires c =
    let match = c.in_ok-matches.ensures.found in
    object_is_there match.command c.in_ok-matches.matches match.takes match.found.parsed

pub features_of-requires : goal.features_of-requires
features_of-requires c =
    let match = c.in_ok-matches.ensures.found in
    let all = all_before (λ name. is_some (feature_named name) ≡ true) (λ name. name.now) c.in_ok-denied.denied.items _ c.in_ok-denied.ensures (denied_are_features match.command c.in_ok-matches.matches match.program match.takes match.found.parsed) in
    subst (All (λ name. is_some (feature_named name.now) ≡ true)) (sym c.deref.ensures.value) all

pub returns-clause-line : goal.returns-clause-line
returns-clause-line c = record {
  matches = c.in_ok-matches.matches;
  match = c.in_ok-matches.ensures.found;
  object = c.object_of.ensures;
  types = c.in_ok-values_of.ensures;
  types_order = c.order_of.ensures ∙ ap order_named c.get_str.ensures;
  symbols = c.get_str-2.ensures;
  settings = c.get_str-3.ensures;
  rewrite_first = record { none = c.get_flag.ensures.none; set = c.get_flag.ensures.value; unset = c.get_flag.ensures.other };
  notes = record { none = c.get_flag-2.ensures.none; set = c.get_flag-2.ensures.value; unset = c.get_flag-2.ensures.other };
  number_maps = record { none = c.get_flag-3.ensures.none; set = c.get_flag-3.ensures.value; unset = c.get_flag-3.ensures.other };
  older_helpers = record { none = c.get_flag-4.ensures.none; set = c.get_flag-4.ensures.value; unset = c.get_flag-4.ensures.other };
  maps = c.in_ok-values_of-2.ensures;
  globals = c.in_ok-values_of-3.ensures;
  denied = c.in_ok-features_of.ensures ∙ (ap (map (λ name. feature_named name.now)) c.deref.ensures.value ∙ (sym (map_after (λ name. name.now) feature_named _) ∙ ap (map feature_named) c.in_ok-denied.ensures));
}
