use Rattle.std.proofs.Common.{ap, ◌∙◌}
use Rattle.std.proofs.lemmas.Result.{err_from_is_err_and}
use Rattle.elf64.specs.Symbols.{Symbol}
use Rattle.object_maps.proofs.Entered.{entry_entered}
use Rattle.object_maps.proofs.Sayings.{struct_said}
use Rattle.object_maps.proofs.maps.Maps.read_entry.Goals as goal

pub returns-in_err-definition-clause-refused : goal.returns-in_err-definition-clause-refused
returns-in_err-definition-clause-refused c =
    let p = err_from_is_err_and c.from_residual-in_err-definition.result c.from_residual-in_err-definition.ensures.1 in
    rw (p.1, p.2)
    (struct_said c.args.definitions.now c.args.symbols.now c.args.entry c.in_ok-variable.variable.name.now c.in_ok-variable.variable.struct_id _
    (rw c.table.ensures at c.in_ok-variable.ensures) c.in_err-definition.ensures.refused)

pub returns-clause-value : goal.returns-clause-value
returns-clause-value c =
    entry_entered c.args.self.now c.insert.new.self c.args.definitions.now c.args.section.now c.args.symbols.now c.args.entry c.in_ok-variable.variable.name.now c.name.result.now c.in_ok-variable.variable.struct_id c.index.result c.index-2.result c.in-Some.symbol.now c.in_ok-definition.definition _
    (rw c.table.ensures at c.in_ok-variable.ensures) c.in_ok-definition.ensures.value c.in-Some.ensures.value c.in-Some.ensures.named c.name.ensures c.new-map.ensures c.index.ensures
    (c.index-2.ensures ∙ ap (λ (s : Symbol). s.index) c.view.ensures)
    c.in_ok-insert.ensures.ok
