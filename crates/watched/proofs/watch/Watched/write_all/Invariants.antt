use Rattle.std.proofs.Common.{◌≡◌, ◌≤◌, false, length}
use Rattle.watched.specs.Watched.{watched_inner, has_failed, calls_left, AppendsAllBut}
use Rattle.watched.proofs.watch.Watched.write_all.Given as goal

abbrev pub invariant-loop-rest : goal.invariant-loop-rest
invariant-loop-rest g l = (has_failed l.self ≡ false) × (calls_left l.self ≤ calls_left l.fn.self) × AppendsAllBut (g.W.Write.contents (watched_inner l.fn.self)) (g.W.Write.contents (watched_inner l.self)) l.buf l.rest

abbrev pub decreases-loop-rest : goal.decreases-loop-rest
decreases-loop-rest g l = length l.rest
