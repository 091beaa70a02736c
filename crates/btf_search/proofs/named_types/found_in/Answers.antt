use Rattle.std.proofs.Common.{◌+◌}
use Rattle.btf_search.proofs.Walks.{found_on}
use Rattle.btf_search.proofs.named_types.found_in.Goals as goal

pub loop-id-preserved : goal.loop-id-preserved
loop-id-preserved c = found_on c.args.search.now c.args.table.now (c.len-count.result + 1) c.loop-id.id c.loop-id.found c.add_wanted.new.found _ c.loop-id-test.true c.loop-id.invariant c.in_ok-add_wanted.ensures
