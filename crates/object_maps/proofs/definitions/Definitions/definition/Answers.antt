use Rattle.object_maps.specs.Definitions.{errors}
use Rattle.object_maps.proofs.definitions.Definitions.definition.Goals as goal

pub returns-in-Err-clause-refused : goal.returns-in-Err-clause-refused
returns-in-Err-clause-refused c = c.named_error.ensures (errors c.args.self.now c.args.struct_id) c.in-Err.ensures.refused
