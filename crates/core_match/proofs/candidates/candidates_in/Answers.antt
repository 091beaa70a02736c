use Rattle.std.proofs.Common.{length}
use Rattle.core_match.specs.Candidates.{is_candidate, is_unreadable_at, types_at, unreadable}
use Rattle.core_match.proofs.FoundCandidates.{filter_table, find_table, table_refused}
use Rattle.core_match.proofs.candidates.candidates_in.Goals as goal

pub returns-in_err-add_from-clause-refused : goal.returns-in_err-add_from-clause-refused
returns-in_err-add_from-clause-refused c =
    table_refused (is_unreadable_at c.args.wanted.now c.args.targets.now) (unreadable c.args.targets.now) (types_at c.args.targets.now) (length c.args.targets.now) c.loop-table.table _ _ _ c.in_err-add_from.field-0.0 c.loop-table-test.true c.loop-table.invariant.1 c.in_err-add_from.ensures.refused c.from_residual.ensures.1

pub loop-table-preserved : goal.loop-table-preserved
loop-table-preserved c =
    (filter_table (is_candidate c.args.wanted.now c.args.targets.now) (types_at c.args.targets.now) (length c.args.targets.now) c.loop-table.table c.loop-table.found.items c.add_from.new.found.items _ c.loop-table-test.true c.loop-table.invariant.0 c.in_ok-add_from.ensures.value, find_table (is_unreadable_at c.args.wanted.now c.args.targets.now) (types_at c.args.targets.now) (length c.args.targets.now) c.loop-table.table _ c.loop-table-test.true c.loop-table.invariant.1 c.in_ok-add_from.ensures.readable)
