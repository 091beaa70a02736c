use Rattle.std.proofs.Common.{◌≡◌, [], drop}
use Rattle.core_resolve.specs.Matches.{matches_of}
use Rattle.core_resolve.proofs.matches.matches_of.Given as goal

abbrev pub invariant-loop-candidate : goal.invariant-loop-candidate
invariant-loop-candidate l = matches_of l.kind l.local l.path l.targets l.matches.items (drop l.candidate-index l.candidates) ≡ matches_of l.kind l.local l.path l.targets [] l.candidates
