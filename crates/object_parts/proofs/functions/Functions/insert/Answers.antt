use Rattle.std.proofs.Common.{refl}
use Rattle.object_parts.proofs.Keyed.{keyed_after, replaced}
use Rattle.object_parts.proofs.functions.Functions.insert.Goals as goal

pub invariant_of-self-2 : goal.invariant_of-self-2
invariant_of-self-2 c =
    keyed_after c.insert.result c.self.inside.entries.entries c.insert.new.self.entries c.args.function
    (rw c.key.ensures at c.insert.ensures.entries) c.insert.ensures.err c.self.invariant

pub returns-clause-ok : goal.returns-clause-ok
returns-clause-ok c = rw (← c.self.view_is, c.in_ok-insert.ensures.entries, c.key.ensures) refl

pub returns-clause-replaced : goal.returns-clause-replaced
returns-clause-replaced c =
    rw (← c.self.view_is)
    (replaced c.self.inside.entries.entries c.insert.new.self.entries c.key.result c.args.function c.in_ok-insert.field-0 c.key.ensures c.in_ok-insert.ensures.old c.in_ok-insert.ensures.keys_stay c.in_ok-insert.ensures.updates.0)
