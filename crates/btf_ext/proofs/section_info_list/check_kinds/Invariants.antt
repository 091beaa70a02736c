use Rattle.std.proofs.Common.{ℕ, ◌*◌, ◌<◌, drop}
use Rattle.btf_records.specs.Words.{word_at}
use Rattle.btf_ext.proofs.section_info_list.check_kinds.Given as goal

abbrev pub invariant-loop-index : goal.invariant-loop-index
invariant-loop-index l = (k : ℕ) → k < l.index → word_at l.order (drop (l.size * k) (drop 8 l.section_info)) 12 < 12
