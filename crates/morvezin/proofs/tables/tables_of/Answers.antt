use Rattle.morvezin.proofs.OneMore.{next}
use Rattle.morvezin.proofs.tables.tables_of.Goals as goal

pub loop-given-preserved : goal.loop-given-preserved
loop-given-preserved c =
    next c.args.types.now c.loop-given.given-index _ c.loop-given.tables.items c.add.new.tables.items _ c.loop-given-test.true c.in_ok-add.ensures.added c.loop-given.invariant c.in_ok-table.ensures.table
