use Rattle.std.proofs.Common.{sym}
use Rattle.btf_ext.proofs.Items.{item_at, no_item_at}
use Rattle.btf_ext.proofs.sec_info.record_at.Goals as goal

pub returns-then-index-section_info-clause-value : goal.returns-then-index-section_info-clause-value
returns-then-index-section_info-clause-value g c =
    let s = c.args.section_info.now in
    rw (c.read.ensures, c.after.ensures.value) (sym (item_at (g.R.Record.record_in s.order) s.size s.count c.args.index s.bytes.now c.if-index-section_info.true))

pub returns-else-index-section_info-clause-value : goal.returns-else-index-section_info-clause-value
returns-else-index-section_info-clause-value g c =
    let s = c.args.section_info.now in
    sym (no_item_at (g.R.Record.record_in s.order) s.size s.count c.args.index s.bytes.now c.if-index-section_info.false)
