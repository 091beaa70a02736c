use Rattle.std.proofs.Common.{◌≡◌, map, take}
use Rattle.core_resolve.specs.FoundPaths.{match_from}
use Rattle.core_resolve.proofs.paths.matches_from.Given as goal

abbrev pub invariant-loop-found : goal.invariant-loop-found
invariant-loop-found l = l.matches.items ≡ map (match_from l.kind l.targets) (take l.found-index l.paths)
