use Rattle.std.proofs.Common.{◌≡◌, ◌<◌, Err, Some, sym, ◌∙◌, arith}
use Rattle.std.proofs.lemmas.Grind.{common_steps}
use Rattle.btf_compatibility.specs.TypeCompatibility.{record_at}
use Rattle.btf_tables.specs.ResolvedTypes.{max_depth}
use Rattle.btf_compatibility.proofs.FieldRounds.{elements_of, round_done, round_more}
use Rattle.btf_records.specs.declared.error.BtfError.TheVariants.{UnexpectedBtfType}
use Rattle.btf_compatibility.proofs.fields.compare_fields.Goals as goal

pub returns-in_default : goal.returns-in_default
returns-in_default c =
    let a = c.args in
    let within : c.loop.counter < max_depth = omega arith in
    round_done a.local.now a.target.now a.local_id c.loop.local_part c.loop.target_part max_depth c.loop.counter _ _ (λ p. Err (UnexpectedBtfType c.in_ok-left.left)) c.record_at-a.result c.record_at-b.result _ within c.in_ok-left.ensures c.in_ok-right.ensures c.record_at-a.ensures c.record_at-b.ensures c.in_default.ensures c.field_verdict.ensures
    ∙ c.loop.invariant

pub loop-preserved : goal.loop-preserved
loop-preserved c =
    let a = c.args in
    let within : c.loop.counter < max_depth = omega arith in
    let some : elements_of (record_at a.local.now c.in_ok-left.left) (record_at a.target.now c.in_ok-right.right) ≡ Some (c.in-Some.local_element, c.in-Some.target_element) = grind (arith, common_steps) in
    sym (round_more a.local.now a.target.now a.local_id c.loop.local_part c.loop.target_part max_depth c.loop.counter _ _ _ _ within c.in_ok-left.ensures c.in_ok-right.ensures some) ∙ c.loop.invariant
