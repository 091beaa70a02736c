use Rattle.std.proofs.Common.{rules, ◌≡◌, ◌+◌, ◌∙◌, Some, ap, arith, length, slice_get}
use Rattle.instruction_text.specs.Texts.{taken}
use Rattle.code_listing.specs.Listing.{Shown, shown, shown_at}
use Rattle.code_listing.proofs.Listings.{count_of_left, one_listed}
use Rattle.code_listing.proofs.listed.all_listed.Goals as goal

pub loop-first-preserved : goal.loop-first-preserved
loop-first-preserved c =
    let listed = c.in_ok-listed.listed in
    let begins : slice_get c.loop-first.left.now 0 ≡ Some c.in-Some.first = search rules in
    let is : shown listed ≡ shown_at c.loop-first.slot c.in-Some.first (slice_get c.loop-first.left.now 1) =
    c.in_ok-listed.ensures ∙ ap (shown_at c.loop-first.slot c.in-Some.first) c.slot_at-in-Some.ensures in
    let same : listed.instruction ≡ taken c.in-Some.first (slice_get c.loop-first.left.now 1) = ap (λ (s : Shown). s.instruction) is in
    let counted = c.slot_count-slot.ensures.value in
    let leaves = c.slots_after-left.ensures in
    let number : c.slot_count-slot.result + length c.slots_after-left.result.now ≡ length c.loop-first.left.now =
    count_of_left _ listed.instruction c.in-Some.first c.loop-first.left.now _ begins same counted leaves in (
      one_listed _ _ listed _ _ c.in-Some.first c.loop-first.left.now _ _ c.loop-first.invariant.0 begins is counted leaves c.in_ok-push.ensures.items,
      omega (arith, number, c.loop-first.invariant.1),
    )
