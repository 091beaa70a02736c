use Rattle.std.proofs.Common.{◌≡◌, ◌++◌, List, vec_len}
use Rattle.object_parts.specs.Content.{FunctionContent}
use Rattle.object_parts.specs.Installed.{Installed}
use Rattle.object_parts.proofs.functions.Functions.install.Given as goal

abbrev pub invariant-loop-function : goal.invariant-loop-function
invariant-loop-function l = (done : List FunctionContent) × ((l.rest.items ++ done ≡ l.fn.list.items) × Installed l.fn.self l.self done)

abbrev pub decreases-loop-function : goal.decreases-loop-function
decreases-loop-function l = vec_len l.rest
