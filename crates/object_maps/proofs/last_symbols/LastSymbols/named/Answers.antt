use Rattle.std.proofs.Common.{ap, ◌∙◌}
use Rattle.std.specs.Option.{option_map}
use Rattle.object_maps.proofs.LastNamed.{found_named}
use Rattle.object_maps.proofs.last_symbols.LastSymbols.named.Goals as goal

pub returns-clause-named : goal.returns-clause-named
returns-clause-named c =
    found_named c.args.name.now c.self.inside.symbols.now c.copied.result
    (ap (option_map (λ s. s.now)) (c.copied.ensures ∙ c.get.ensures.value) ∙ c.self.invariant.at c.args.name.now)
