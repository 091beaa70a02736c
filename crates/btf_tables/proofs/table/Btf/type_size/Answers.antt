use Rattle.btf_tables.proofs.Held.{sizes_are_held}
use Rattle.btf_tables.proofs.Rests.{sized_rests}
use Rattle.btf_tables.proofs.table.Btf.type_size.Goals as goal

pub returns-clause-rests : goal.returns-clause-rests
returns-clause-rests c = sized_rests c.args.self.now c.args.type_id

pub returns-clause-held : goal.returns-clause-held
returns-clause-held c = sizes_are_held
