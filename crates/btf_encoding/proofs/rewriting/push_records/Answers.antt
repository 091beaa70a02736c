use Rattle.btf_encoding.proofs.Rewritten.{and_then, records_left, same_front}
use Rattle.btf_encoding.proofs.rewriting.push_records.Goals as goal

pub push_first-requires : goal.push_first-requires
push_first-requires c = records_left c.args.order c.loop-rest.rest.now c.split_kept.result.1.now _ _ c.loop-rest.invariant.are c.split_kept.ensures.written

pub loop-rest-preserved : goal.loop-rest-preserved
loop-rest-preserved c =
    let order = c.args.order in
    let bytes = c.args.bytes.now in
    let i = c.loop-rest.invariant in
    let kept = same_front order c.loop-rest.rest.now c.split_kept.result.1.now c.loop-rest.out.items c.split_kept.result.0.now c.extend_from_slice.new.self.items c.split_kept.ensures.written c.in_ok-extend_from_slice.ensures.items in
    let both = and_then order c.loop-rest.rest.now c.split_kept.result.1.now c.in_ok-rest.rest.now c.loop-rest.out.items c.extend_from_slice.new.self.items c.push_first.new.out.items kept c.in_ok-rest.ensures.written in
    record {
      written = and_then order bytes c.loop-rest.rest.now c.in_ok-rest.rest.now c.args.out.now.items c.loop-rest.out.items c.push_first.new.out.items i.written both;
      are = records_left order c.loop-rest.rest.now c.in_ok-rest.rest.now _ _ i.are both;
    }
