use Rattle.std.proofs.Common.{sym, arith}
use Rattle.std.proofs.lemmas.Result.{err_from_is_err_and}
use Rattle.linker.proofs.Emit.{copy_more, sound_more}
use Rattle.linker.proofs.source.Source.write_copy.Goals as goal

pub returns-in_err-key-clause-fault : goal.returns-in_err-key-clause-fault
returns-in_err-key-clause-fault c =
    let p = err_from_is_err_and c.from_residual.result c.from_residual.ensures.1 in
    rw (p.1, p.2) (λ no. (c.loop-index.index, c.slot_at-slot.result, sym c.slot_at-slot.ensures, c.in_err-key.ensures.fault no))

pub loop-index-preserved : goal.loop-index-preserved
loop-index-preserved c = record {
  written = copy_more c.args.self.now c.args.function.now c.args.starts.now c.len-begin.result c.loop-index.index c.args.function.now.instructions c.slot_at-slot.result c.place.result c.in_ok-key.key c.loop-index.slots.items c.push.new.self.items _ c.slot_at-slot.ensures c.in_ok-key.ensures.found c.place.ensures c.in_ok-push.ensures.items c.loop-index.invariant.written;
  placed = omega (arith, c.in_ok-push.ensures.len, c.loop-index.invariant.placed);
  sound = sound_more c.args.self.now c.args.function.now c.loop-index.index c.args.function.now.instructions c.slot_at-slot.result _ c.slot_at-slot.ensures c.in_ok-key.ensures.sound c.loop-index.invariant.sound;
}
