use Rattle.std.proofs.Common.{◌≡◌, drop, find}
use Rattle.extern_resolution.specs.Records.{may_be_first}
use Rattle.extern_resolution.proofs.kernel_records.first_of.Given as goal

abbrev pub invariant-loop-id : goal.invariant-loop-id
invariant-loop-id l = find (may_be_first l.kernel l.name) (drop l.id-index l.ids) ≡ find (may_be_first l.kernel l.name) l.ids
