use Rattle.std.proofs.Common.{map, arith}
use Rattle.btf_records.specs.Fields.{kind_of_type}
use Rattle.btf_records.specs.Kinds.{number_of}
use Rattle.report_needs.specs.Kinds.{kinds_in}
use Rattle.report_needs.proofs.KindsOf.{all_kinds_left, one_more}
use Rattle.report_needs.proofs.kinds.kinds_in.Goals as goal

pub loop-number-preserved : goal.loop-number-preserved
loop-number-preserved c =
    let records = map (λ t. number_of (kind_of_type t)) c.args.table.now.types in
    one_more records c.loop-number.number c.loop-number.kinds.items c.add_kind.new.kinds.items (kinds_in c.args.table.now) c.loop-number-test.true c.in_ok-add_kind.ensures c.loop-number.invariant

pub returns : goal.returns
returns c = all_kinds_left (map (λ t. number_of (kind_of_type t)) c.args.table.now.types) c.loop-number.number c.loop-number.kinds.items (kinds_in c.args.table.now) (omega (arith, c.loop-number-test.false, c.loop-number.auto.number-end)) c.loop-number.invariant
