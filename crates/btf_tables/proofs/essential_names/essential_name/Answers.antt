use Rattle.btf_tables.proofs.Flavours.{name_cut, name_whole}
use Rattle.btf_tables.proofs.essential_names.essential_name.Goals as goal

pub returns-in-Some : goal.returns-in-Some
returns-in-Some c =
    let split = c.in-Some.ensures.cases in
    name_cut c.args.name.now _ split.0 split.1 split.2 split.3

pub returns-in-None : goal.returns-in-None
returns-in-None c = name_whole c.args.name.now c.in-None.ensures.cases
