use Rattle.std.proofs.Common.{◌≡◌, ◌-◌}
use Rattle.btf_tables.specs.ResolvedTypes.{chain_end, max_depth}
use Rattle.btf_tables.proofs.table.Btf.chain_end.Given as goal

abbrev pub invariant-loop : goal.invariant-loop
invariant-loop l = chain_end (max_depth - l.counter) l.self l.asked l.end ≡ chain_end max_depth l.self l.asked l.id
