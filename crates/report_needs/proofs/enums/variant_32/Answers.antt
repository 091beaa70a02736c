use Rattle.std.proofs.Common.{ap, ◌∙◌}
use Rattle.std.specs.Option.{option_map}
use Rattle.report_needs.specs.Enums.{widened}
use Rattle.report_needs.proofs.Variants.{found_here, found_later, tested}
use Rattle.report_needs.proofs.enums.variant_32.Goals as goal

pub returns-then-has_number : goal.returns-then-has_number
returns-then-has_number c =
    let value = c.widened-value.ensures ∙ ap (λ is_signed. widened is_signed c.in_ok-variant.variant.value) c.flag-is_signed.ensures in
    let is = tested c.args.kernel.now c.in_ok-variant.variant.name_offset _ _ c.args.number _ value c.if-has_number.ensures in
    ap (option_map (λ v. v.name_offset)) (found_here _ _ c.loop-index.index c.in_ok-variant.variant c.loop-index.invariant c.in_ok-variant.ensures is)

pub loop-index-preserved : goal.loop-index-preserved
loop-index-preserved c =
    let value = c.widened-value.ensures ∙ ap (λ is_signed. widened is_signed c.in_ok-variant.variant.value) c.flag-is_signed.ensures in
    let is = tested c.args.kernel.now c.in_ok-variant.variant.name_offset _ _ c.args.number _ value c.if-has_number.ensures in
    found_later _ _ c.loop-index.index c.in_ok-variant.variant c.loop-index.invariant c.in_ok-variant.ensures is
