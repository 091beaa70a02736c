use Rattle.linker.proofs.Keys.{way_start, way_pop, way_push, way_end}
use Rattle.linker.proofs.layout.walk_laws.Goals as goal

pub returns : goal.returns
returns c = record { start = way_start; pop = way_pop; push = way_push; end = way_end }
