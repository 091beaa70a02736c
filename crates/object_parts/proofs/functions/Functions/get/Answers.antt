use Rattle.object_parts.proofs.Keyed.{keyed_get}
use Rattle.object_parts.proofs.functions.Functions.get.Goals as goal

pub returns-clause-keyed : goal.returns-clause-keyed
returns-clause-keyed c = keyed_get c.self.inside.entries.entries c.args.key c.get.result c.self.invariant c.get.ensures.value
