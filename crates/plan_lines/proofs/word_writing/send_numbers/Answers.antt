use Rattle.std.proofs.Common.{◌<◌, length, arith}
use Rattle.watched.specs.Watched.{Sends-then}
use Rattle.plan_lines.proofs.Written.{numbers-more}
use Rattle.plan_lines.proofs.word_writing.send_numbers.Goals as goal

pub loop-number-preserved : goal.loop-number-preserved
loop-number-preserved g c =
    let within : c.loop-number.number-index < length c.args.numbers.now = omega arith in
    rw (numbers-more c.args.numbers.now c.loop-number.number-index within) (Sends-then _ _ _ _ _ _ c.loop-number.invariant c.send_number.ensures)
