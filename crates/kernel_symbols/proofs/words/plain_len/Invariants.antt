use Rattle.std.proofs.Common.{◌≤◌, ◌-◌, length}
use Rattle.kernel_symbols.specs.Words.{ArePlain}
use Rattle.kernel_symbols.proofs.words.plain_len.Given as goal

abbrev pub invariant-loop-len : goal.invariant-loop-len
invariant-loop-len l = (l.len ≤ length l.bytes) × ArePlain l.bytes 0 l.len

abbrev pub decreases-loop-len : goal.decreases-loop-len
decreases-loop-len l = length l.bytes - l.len
