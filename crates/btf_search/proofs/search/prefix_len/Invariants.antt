use Rattle.std.proofs.Common.{◌≤◌, length, take}
use Rattle.std.specs.List.{All}
use Rattle.btf_search.proofs.search.prefix_len.Given as goal

abbrev pub invariant-loop-name : goal.invariant-loop-name
invariant-loop-name l = (l.len ≤ 8) × All (λ name. l.len ≤ length name.now) (take l.name-index l.names)
