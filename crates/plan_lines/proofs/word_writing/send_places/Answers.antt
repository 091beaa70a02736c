use Rattle.std.proofs.Common.{◌<◌, length, arith}
use Rattle.watched.specs.Watched.{Sends-then}
use Rattle.plan_lines.proofs.Written.{numbers-more}
use Rattle.plan_lines.proofs.word_writing.send_places.Goals as goal

pub loop-place-preserved : goal.loop-place-preserved
loop-place-preserved g c =
    let within : c.loop-place.place-index < length c.args.places.now = omega arith in
    rw (numbers-more c.args.places.now c.loop-place.place-index within, ← c.from-number.ensures) (Sends-then _ _ _ _ _ _ c.loop-place.invariant c.send_number.ensures)
