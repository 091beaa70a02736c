use Rattle.btf_tables.proofs.NamedAlike.{found_alike}
use Rattle.btf_tables.proofs.table.Btf.id_by_type_name_kind.Goals as goal

pub returns-in-Some-clause-rests : goal.returns-in-Some-clause-rests
returns-in-Some-clause-rests c = found_alike c.args.self.now c.args.name.now c.args.kind c.in-Some.id (rw c.in-Some.is at c.in_ok-id.ensures.found)
