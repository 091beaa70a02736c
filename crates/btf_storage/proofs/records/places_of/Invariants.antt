use Rattle.std.proofs.Common.{length}
use Rattle.btf_storage.proofs.Reading.{ArePlaces}
use Rattle.btf_storage.proofs.records.places_of.Given as goal

abbrev pub invariant-loop-rest : goal.invariant-loop-rest
invariant-loop-rest l = ArePlaces l.order l.bytes l.places.items l.rest

abbrev pub decreases-loop-rest : goal.decreases-loop-rest
decreases-loop-rest l = length l.rest
