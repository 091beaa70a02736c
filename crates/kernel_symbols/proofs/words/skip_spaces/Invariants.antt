use Rattle.std.proofs.Common.{◌≡◌, length}
use Rattle.kernel_symbols.specs.Words.{words_of}
use Rattle.kernel_symbols.proofs.words.skip_spaces.Given as goal

abbrev pub invariant-loop-len : goal.invariant-loop-len
invariant-loop-len l = words_of l.rest ≡ words_of l.bytes

abbrev pub decreases-loop-len : goal.decreases-loop-len
decreases-loop-len l = length l.rest
