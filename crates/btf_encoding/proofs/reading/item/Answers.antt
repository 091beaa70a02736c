use Rattle.std.proofs.Common.{◌≤◌, ◌<◌, sym, length, drop}
use Rattle.std.proofs.lemmas.Option.{slice_get_past}
use Rattle.btf_encoding.specs.Items.{items_in}
use Rattle.btf_encoding.specs.Records.{count_at}
use Rattle.btf_encoding.proofs.InBytes.{get-items_in, length-items_in}
use Rattle.btf_encoding.proofs.reading.item.Goals as goal

pub returns-then-index-count : goal.returns-then-index-count
returns-then-index-count g c =
    let within : c.args.index < count_at c.args.order c.args.bytes.now = rw (← c.word.ensures) c.if-index-count.true in
    rw (c.read.ensures, c.after.ensures.value, c.SIZE.ensures, c.after-list.ensures.value)
    (sym (get-items_in (g.T.Item.item_in c.args.order) g.T.Item.SIZE (count_at c.args.order c.args.bytes.now) c.args.index (drop 12 c.args.bytes.now) within))

pub returns-else-index-count : goal.returns-else-index-count
returns-else-index-count g c =
    let past : length (items_in (g.T.Item.item_in c.args.order) g.T.Item.SIZE (count_at c.args.order c.args.bytes.now) (drop 12 c.args.bytes.now)) ≤ c.args.index = rw (length-items_in, ← c.word.ensures) c.if-index-count.false in
    sym (slice_get_past _ c.args.index past)
