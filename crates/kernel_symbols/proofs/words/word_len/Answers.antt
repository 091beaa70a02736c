use Rattle.kernel_symbols.proofs.WordLemmas.{front_plain}
use Rattle.kernel_symbols.proofs.words.word_len.Goals as goal

pub loop-len-init : goal.loop-len-init
loop-len-init c = (c.plain_len-len.ensures.within, front_plain _ _ c.plain_len-len.ensures.plain)
