use Rattle.slot_relocation.specs.BySymbol.{symbol_rule}
use Rattle.slot_relocation.proofs.Walk.{error_by}
use Rattle.slot_relocation.proofs.errors.relocate_by_symbol.Goals as goal

pub returns-clause-fault : goal.returns-clause-fault
returns-clause-fault g c =
    λ no. error_by (symbol_rule c.args.file.now (g.S.SymbolRule.does c.args.rule)) c.args.file.now c.args.functions.now c.in-Err.stop _ _ c.in-Err.ensures.fault (c.error_for.ensures no)

pub returns-in-Ok-clause-sound : goal.returns-in-Ok-clause-sound
returns-in-Ok-clause-sound g c = record { none = c.in-Ok.ensures.sound.none }
