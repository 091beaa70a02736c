use Rattle.btf_ext.proofs.Items.{known_where_found}
use Rattle.btf_ext.proofs.relocations.SecInfo.get.Goals as goal

pub returns-clause-known : goal.returns-clause-known
returns-clause-known c = known_where_found c.self.inside.records c.args.index c.record_at.result c.self.invariant.1 c.record_at.ensures.value c.record_at.ensures.within
