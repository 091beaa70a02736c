use Rattle.std.proofs.Common.{◌≡◌, ◌-◌}
use Rattle.btf_compatibility.specs.FieldCompatibility.{fields_compared}
use Rattle.btf_tables.specs.ResolvedTypes.{max_depth}
use Rattle.btf_compatibility.proofs.fields.compare_fields.Given as goal

abbrev pub invariant-loop : goal.invariant-loop
invariant-loop l = fields_compared (max_depth - l.counter) l.local l.target l.fn.local_id (l.local_part, l.target_part) ≡ fields_compared max_depth l.local l.target l.fn.local_id (l.fn.local_id, l.fn.target_id)
