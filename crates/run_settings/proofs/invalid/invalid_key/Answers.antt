use Rattle.std.specs.String.{string_bytes}
use Rattle.toml.specs.View.{table_view}
use Rattle.run_settings.specs.Documents.{nothing_set}
use Rattle.run_settings.proofs.Validity.{found_is}
use Rattle.run_settings.proofs.invalid.invalid_key.Goals as goal

pub returns-clause-none : goal.returns-clause-none
returns-clause-none c = found_is string_bytes c.in_ok-found.found nothing_set (table_view c.args.table.now) c.in_ok-found.ensures
