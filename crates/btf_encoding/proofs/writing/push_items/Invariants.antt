use Rattle.std.proofs.Common.{◌≡◌, ◌++◌, ◌<◌, ◌^◌, take}
use Rattle.std.specs.Prelude.{All}
use Rattle.std.specs.List.{flat_map}
use Rattle.btf_records.specs.Words.{words_bytes}
use Rattle.btf_encoding.proofs.writing.push_items.Given as goal

abbrev pub invariant-loop-item : goal.invariant-loop-item
invariant-loop-item g l = record {
  written : l.out.items ≡ l.fn.out.items ++ words_bytes l.order (flat_map g.T.Item.words (take l.item-index l.items));
  fits : All (λ w. w < 2 ^ 32) (flat_map g.T.Item.words (take l.item-index l.items));
}
