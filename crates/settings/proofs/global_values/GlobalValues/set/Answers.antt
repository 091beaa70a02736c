use Rattle.settings.proofs.ValuesByBytes.{by_bytes-insert}
use Rattle.settings.proofs.global_values.GlobalValues.set.Goals as goal

pub returns-clause-ok : goal.returns-clause-ok
returns-clause-ok c = rw (← c.self.view_is, ← c.in_ok-name.ensures.ok, ← c.in_ok-bytes.ensures.items, c.in_ok-insert.ensures.entries) (by_bytes-insert c.self.inside.values.entries c.in_ok-name.name (record { bytes = c.in_ok-bytes.bytes.items; must_exist = c.args.must_exist }))
