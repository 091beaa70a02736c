use Rattle.std.proofs.Common.{sym, add-one}
use Rattle.object_parse.proofs.Records.{number_all, number_more}
use Rattle.object_parse.proofs.section_records.slots_of_lines.Goals as goal

pub loop-record-preserved : goal.loop-record-preserved
loop-record-preserved c = rw (c.in_ok-push.ensures.items, c.new.ensures, add-one) (number_more (λ r. r.insn_off) c.args.records.now c.loop-record.places.items _ c.loop-record.index c.in-Some.record (sym c.in-Some.ensures.value) c.loop-record.invariant)

pub returns : goal.returns
returns c = c.in_ok-order_by_slot.ensures _ (number_all (λ r. r.insn_off) c.args.records.now c.loop-record.places.items _ c.loop-record.index (sym c.in_default.ensures.value) c.loop-record.invariant)
