use Rattle.std.proofs.Common.{◌≡◌, ◌++◌, ◌<◌, ◌^◌, take}
use Rattle.std.specs.Prelude.{All}
use Rattle.btf_records.specs.Words.{words_bytes}
use Rattle.btf_encoding.proofs.writing.push_words.Given as goal

abbrev pub invariant-loop-word : goal.invariant-loop-word
invariant-loop-word l = record {
  written : l.out.items ≡ l.fn.out.items ++ words_bytes l.order (take l.word-index l.words);
  fits : All (λ w. w < 2 ^ 32) (take l.word-index l.words);
}
