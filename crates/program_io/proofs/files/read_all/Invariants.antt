use Rattle.std.proofs.Common.{◌≡◌, length}
use Rattle.program_io.proofs.files.read_all.Given as goal

abbrev pub invariant-loop-name : goal.invariant-loop-name
invariant-loop-name l = length l.files.items ≡ l.name-index
