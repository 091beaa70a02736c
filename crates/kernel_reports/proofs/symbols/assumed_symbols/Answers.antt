use Rattle.std.proofs.Common.{◌≡◌, ◌∷◌, [], rules}
use Rattle.object_externs.specs.Names.{by_bytes}
use Rattle.kernel_reports.proofs.Writing.{all_written, none_written, one_more}
use Rattle.kernel_reports.proofs.symbols.assumed_symbols.Goals as goal

pub loop-name-init : goal.loop-name-init
loop-name-init c = none_written c.args.externs.now.by_name _ _ (search rules) (search rules)

pub loop-name-preserved : goal.loop-name-preserved
loop-name-preserved c =
    let next : by_bytes c.loop-name.name-iterator ≡ (c.in-Some.name.now.now, c.in-Some.desc.now) ∷ by_bytes c.next.new.self = search rules in
    one_more c.args.externs.now.by_name _ _ (c.in-Some.name.now.now, c.in-Some.desc.now) _ _ next c.loop-name.invariant c.in_ok-add_extern.ensures.line c.in_ok-add_extern.ensures.plain

pub returns : goal.returns
returns c =
    let none : by_bytes c.loop-name.name-iterator ≡ [] = search rules in
    all_written c.args.externs.now.by_name _ _ none c.loop-name.invariant
