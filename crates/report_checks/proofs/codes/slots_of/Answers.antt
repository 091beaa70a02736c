use Rattle.std.proofs.Common.{◌≡◌, ◌∙◌, filter_map, rules, slice_get, sym}
use Rattle.report_checks.specs.Codes.{global_slot}
use Rattle.report_checks.proofs.Chosen.{chosen, left_out}
use Rattle.report_checks.proofs.Lasts.{none_missing}
use Rattle.report_checks.proofs.codes.slots_of.Goals as goal
use Rattle.report_checks.proofs.codes.slots_of.Goals.{in-Some+in-Some-global_slot+in_ok-push, in-Some+in_default-global_slot, in_default}

pub loop-index-preserved : goal.loop-index-preserved
loop-index-preserved c =
    let f = global_slot c.args.types.now in
    let xs = c.args.functions.now in
    let i = c.loop-index.index in
    let all = filter_map f xs in
    let got : c.get.result ≡ slice_get xs i = c.get.ensures.value in
    elim c.match-get.branch [
      | in-Some+in-Some-global_slot+in_ok-push w ↦ rw w.slots-is (chosen f xs i w.in-Some.function w.in-Some-global_slot.slot c.loop-index.slots.items _ all c.loop-index.invariant (sym w.in-Some.is ∙ got) (search rules) (search rules))
      | in-Some+in_default-global_slot w ↦ rw w.slots-is (left_out f xs i w.in-Some.function c.loop-index.slots.items all c.loop-index.invariant (sym w.in-Some.is ∙ got) (search rules))
      | in_default w ↦ absurd (none_missing xs i (search rules) (sym got ∙ w.in_default.is))
    ]
