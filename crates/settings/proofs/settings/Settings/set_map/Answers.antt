use Rattle.std.proofs.Common.{ap, ◌<◌, ◌^◌}
use Rattle.settings.specs.Content.{SettingsContent}
use Rattle.settings.proofs.ByBytes.{by_bytes-insert}
use Rattle.std.proofs.lemmas.Map.Views.{All-values-insert_entry}
use Rattle.std.specs.String.{string_cmp}
use Rattle.settings.proofs.settings.Settings.set_map.Goals as goal

pub returns-clause-ok : goal.returns-clause-ok
returns-clause-ok c = rw (← c.self.view_is, ← c.in_ok-name.ensures.ok, c.in_ok-insert.ensures.entries) (ap (λ m. let s : SettingsContent = record { maps = m; globals = c.self.inside.globals } in s) (by_bytes-insert c.self.inside.maps.entries c.in_ok-name.name c.args.number))

pub invariant_of-self-2 : goal.invariant_of-self-2
invariant_of-self-2 c = rw c.in_ok-insert.ensures.entries (All-values-insert_entry string_cmp c.in_ok-name.name c.args.number (λ n. n < 2 ^ 31) c.self.inside.maps.entries c.self.invariant c.requires)
