use Rattle.std.proofs.Common.{subst, arith}
use Rattle.std.proofs.Math.Seq.{take-length}
use Rattle.plan_lines.specs.WordReading.{Lacks}
use Rattle.plan_lines.proofs.Cut.{lacks_before, split_at}
use Rattle.plan_lines.proofs.words.cut_at.Goals as goal

pub returns-in-Some : goal.returns-in-Some
returns-in-Some c =
    let found = c.in-Some.ensures in
    (split_at c.args.byte c.args.bytes.now c.in-Some.len found.0.high found.1, lacks_before c.args.byte c.args.bytes.now c.in-Some.len (λ k below. found.0.before k (omega arith) below))

pub returns-in-None : goal.returns-in-None
returns-in-None c =
    subst (Lacks c.args.byte) (take-length c.args.bytes.now) (lacks_before c.args.byte c.args.bytes.now _ (λ k below. c.in-None.ensures k (omega arith) below))
