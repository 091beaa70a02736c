use Rattle.std.proofs.Common.{sym, ◌∙◌, ◌/◌}
use Rattle.slot_relocation.proofs.Fitting.{fits}
use Rattle.slot_relocation.proofs.by_symbol.BySymbolRuleRelocViewFault.outcome.Goals as goal

pub returns-in-Some-clause-within : goal.returns-in-Some-clause-within
returns-in-Some-clause-within g c =
    fits c.args.slots.now (c.args.distance / 8) c.in-Some.slot c.get-in-Some.result c.outcome_of.result (sym c.get.ensures ∙ c.in-Some.is) c.get-in-Some.ensures c.outcome_of.ensures.within
