use Rattle.std.proofs.Common.{◌≡◌, ◌-◌}
use Rattle.btf_tables.specs.ResolvedTypes.{max_depth}
use Rattle.btf_tables.specs.TypeSizes.{size_at_end}
use Rattle.btf_tables.proofs.table.Btf.walk_size.Given as goal

abbrev pub invariant-loop : goal.invariant-loop
invariant-loop l = size_at_end (max_depth - l.counter) l.self l.type_id l.count l.id ≡ size_at_end max_depth l.self l.type_id 1 l.type_id
