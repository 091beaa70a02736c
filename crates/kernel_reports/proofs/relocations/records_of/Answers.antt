use Rattle.std.proofs.Common.{◌<◌, ◌++◌, ◌∷◌, [], length, sym, ap, ◌∙◌, subst}
use Rattle.kernel_reports.proofs.Taken.{none_missing, taken}
use Rattle.kernel_reports.proofs.relocations.records_of.Goals as goal
use Rattle.kernel_reports.proofs.relocations.records_of.Goals.{in-Some+in_ok-push, in_default}

pub loop-number-preserved : goal.loop-number-preserved
loop-number-preserved c =
    let xs = c.args.section_info.now.records in
    let i = c.loop-number.number in
    let lt : i < length xs = subst (λ n. i < n) c.num_info-number-end.ensures c.loop-number-test.true in
    elim c.match-get.branch [
      | in-Some+in_ok-push w ↦ rw w.records-is (w.in_ok-push.ensures.items ∙ ap (λ l. l ++ (w.in-Some.asked ∷ [])) c.loop-number.invariant ∙ sym (taken xs i w.in-Some.asked lt (sym c.get.ensures.value ∙ w.in-Some.is)))
      | in_default w ↦ absurd (none_missing xs i (record { insn_off = 0; type_id = 0; access_str_off = 0; kind = 0 }) lt (sym c.get.ensures.value ∙ w.in_default.is))
    ]
