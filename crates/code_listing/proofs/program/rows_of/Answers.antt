use Rattle.std.proofs.Common.{rules, arith, ◌≡◌, []}
use Rattle.std.proofs.lemmas.Grind.{common_steps}
use Rattle.std.specs.Vec.Iter.{into_iter_items}
use Rattle.code_listing.proofs.Rows.{no_row, none_left, one_row}
use Rattle.code_listing.proofs.program.rows_of.Goals as goal

pub loop-listed-init : goal.loop-listed-init
loop-listed-init c =
    let same : into_iter_items c.into_iter-listed-iterator.result ≡ c.args.list.items = search rules in
    no_row c.new-rows.result.items (into_iter_items c.into_iter-listed-iterator.result) c.args.list.items c.new-rows.ensures.items same

pub loop-listed-preserved : goal.loop-listed-preserved
loop-listed-preserved c =
    one_row c.loop-listed.rows.items c.push.new.self.items c.in_ok-row.row c.in-Some.listed (into_iter_items c.loop-listed.listed-iterator) (into_iter_items c.next.new.self) _
    c.in-Some.ensures.steps.0 c.loop-listed.invariant c.in_ok-row.ensures c.in_ok-push.ensures.items

pub returns : goal.returns
returns c =
    let none : into_iter_items c.loop-listed.listed-iterator ≡ [] = grind (arith, common_steps) in
    none_left c.loop-listed.rows.items (into_iter_items c.loop-listed.listed-iterator) _ none c.loop-listed.invariant
