use Rattle.linker.proofs.Renamed.{renamed_program}
use Rattle.linker.proofs.layout.renamed_visits_same.Goals as goal

pub returns : goal.returns
returns c = record { each = renamed_program }
