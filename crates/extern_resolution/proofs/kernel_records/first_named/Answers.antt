use Rattle.std.proofs.Common.{sym, ◌∙◌}
use Rattle.extern_resolution.proofs.FirstNamed.{first_named}
use Rattle.extern_resolution.proofs.kernel_records.first_named.Goals as goal

pub returns-then-is_readable : goal.returns-then-is_readable
returns-then-is_readable c = first_named c.args.kernel.now c.args.kind c.args.name.now c.args.ids.now c.in_ok-id.id c.requires c.in_ok-id.ensures (sym c.is_readable.ensures ∙ c.if-is_readable.true)
