use Rattle.std.proofs.Common.{ℕ, ap, ◌∙◌}
use Rattle.std.specs.BTreeSet.{contains}
use Rattle.std.specs.Ordering.{nat_cmp}
use Rattle.std.specs.Prelude.{◌||◌}
use Rattle.report_needs.specs.Enums.{has_number, widened}
use Rattle.report_needs.proofs.Added.{one_added}
use Rattle.report_needs.proofs.numbers.add_32.Goals as goal

pub loop-index-preserved : goal.loop-index-preserved
loop-index-preserved c =
    let v = c.in-Some.variant in
    let value = c.widened-value.ensures ∙ ap (λ is_signed. widened is_signed v.value) c.flag-is_signed.ensures in
    one_added _ _ c.loop-index.index v _ c.loop-index.numbers c.add_number.new.numbers c.in-Some.ensures c.loop-index.invariant (λ number.
    c.in_ok-add_number.ensures.each number ∙ ap (λ (n : ℕ). contains nat_cmp c.loop-index.numbers number || has_number c.args.kernel.now v.name_offset n number) value)
