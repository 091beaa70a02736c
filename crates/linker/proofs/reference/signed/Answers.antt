use Rattle.std.proofs.Common.{arith}
use Rattle.std.specs.Int.{w128}
use Rattle.std.proofs.lemmas.Int.{to_z_pos}
use Rattle.linker.proofs.reference.signed.Goals as goal

pub returns : goal.returns
returns c = to_z_pos w128 c.args.place (omega (arith, c.requires))
