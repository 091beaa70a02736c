use Rattle.btf_storage.proofs.Reading.{one_more_place}
use Rattle.btf_storage.proofs.records.places_of.Goals as goal

pub loop-rest-preserved : goal.loop-rest-preserved
loop-rest-preserved c =
    rw (c.in_ok-push.ensures.items, c.after-rest.ensures.value, c.in_ok-len.ensures.value) (one_more_place c.args.order c.args.bytes.now c.loop-rest.places.items c.loop-rest.rest.now c.loop-rest.invariant c.in_ok-len.ensures.found c.in_ok-len.ensures.alone)
