use Rattle.std.proofs.Common.{arith}
use Rattle.btf_encoding.proofs.Written.{fits_too, one_word}
use Rattle.btf_encoding.proofs.writing.push_words.Goals as goal

pub loop-word-preserved : goal.loop-word-preserved
loop-word-preserved c = record {
  written = one_word c.args.order c.args.words.now c.loop-word.word-index _ c.args.out.now.items c.loop-word.out.items c.push_word.new.out.items c.loop-word-test.true c.loop-word.invariant.written c.in_ok-push_word.ensures.ok;
  fits = fits_too c.args.words.now c.loop-word.word-index 0 c.loop-word-test.true (omega (arith, c.type_inv.words c.loop-word.word-index)) c.loop-word.invariant.fits;
}
