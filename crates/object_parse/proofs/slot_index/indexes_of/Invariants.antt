use Rattle.std.proofs.Common.{◌≡◌, map, take}
use Rattle.object_parse.proofs.slot_index.indexes_of.Given as goal

abbrev pub invariant-loop-place : goal.invariant-loop-place
invariant-loop-place l = l.indexes.items ≡ map (λ p. p.index) (take l.place-index l.places)
