use Rattle.std.proofs.Common.{rules, arith}
use Rattle.watched.specs.Watched.{AppendsAllBut-none, AppendsAllBut-more}
use Rattle.watched.proofs.watch.Watched.write_all.Goals as goal

pub returns-then-self-clause-part : goal.returns-then-self-clause-part
returns-then-self-clause-part g c = (_, AppendsAllBut-none _ _)

pub loop-rest-preserved : goal.loop-rest-preserved
loop-rest-preserved g c = (search rules, omega arith, AppendsAllBut-more _ _ _ _ _ _ c.loop-rest.invariant.2 c.in_ok-count.ensures.bytes)
