use Rattle.std.proofs.Common.{◌≡◌, [], drop}
use Rattle.core_resolve.specs.FoundPaths.{paths_of}
use Rattle.core_resolve.proofs.paths.paths_of.Given as goal

abbrev pub invariant-loop-candidate : goal.invariant-loop-candidate
invariant-loop-candidate l = paths_of l.subject l.local l.path l.targets l.paths.items (drop l.candidate-index l.candidates) ≡ paths_of l.subject l.local l.path l.targets [] l.candidates
