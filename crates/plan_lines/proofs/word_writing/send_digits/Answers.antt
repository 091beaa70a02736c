use Rattle.std.proofs.Common.{◌<◌, length, arith}
use Rattle.watched.specs.Watched.{Sends-none, Sends-then}
use Rattle.plan_lines.proofs.Written.{encode_lower-nil, encode_lower-more}
use Rattle.plan_lines.proofs.word_writing.send_digits.Goals as goal

pub loop-byte-init : goal.loop-byte-init
loop-byte-init g c = rw encode_lower-nil (Sends-none _ _)

pub loop-byte-preserved : goal.loop-byte-preserved
loop-byte-preserved g c =
    let within : c.loop-byte.byte-index < length c.args.bytes.now = omega arith in
    rw (encode_lower-more c.args.bytes.now c.loop-byte.byte-index within) (Sends-then _ _ _ _ _ _ c.loop-byte.invariant c.send_byte.ensures)
