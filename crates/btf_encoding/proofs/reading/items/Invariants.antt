use Rattle.std.proofs.Common.{◌≡◌, ◌*◌, ◌<◌, length, drop}
use Rattle.btf_encoding.specs.Items.{items_in}
use Rattle.btf_encoding.proofs.reading.items.Given as goal

abbrev pub invariant-loop : goal.invariant-loop
invariant-loop g l = record {
  read : l.items ≡ items_in (g.T.Item.item_in l.order) g.T.Item.SIZE l.counter (drop 12 l.fn.bytes);
  left : l.rest ≡ drop (g.T.Item.SIZE * l.counter) (drop 12 l.fn.bytes);
  counted : length l.items ≡ l.counter;
  bounded : l.count < 65536;
}
