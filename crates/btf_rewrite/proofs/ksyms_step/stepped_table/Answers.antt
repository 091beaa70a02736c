use Rattle.std.proofs.Common.{◌≡◌, Any, ap, ◌∙◌, subst}
use Rattle.btf_storage.specs.Layout.{RecordList}
use Rattle.btf_records.specs.declared.error.BtfError.{BtfError}
use Rattle.btf_rewrite.specs.Ksyms.{EntryFault, IsOverfull, SubjectFault, section_entries}
use Rattle.btf_rewrite.proofs.Growth.{none_of_either}
use Rattle.btf_rewrite.proofs.ksyms_step.stepped_table.Goals as goal
use Rattle.btf_storage.specs.Faultless.{IsFaultless}
use Rattle.btf_rewrite.specs.Steps.{ksyms_of}

pub returns-clause-accepted : goal.returns-clause-accepted
returns-clause-accepted c =
    let k = ksyms_of c.args.k.now in
    let order = c.args.k.now.types.now.order in
    let listed : c.as_slice.result.now ≡ section_entries k = c.as_slice.ensures.value ∙ c.in_ok-entries.ensures.value in
    let same : c.step_all.new.records.order ≡ order = c.in_ok-step_all.ensures.order ∙ (ap (λ (r : RecordList). r.order) c.new-records.ensures ∙ c.order.ensures) in
    let entries : IsFaultless (λ e. Any (λ entry. EntryFault k entry e) (section_entries k)) = subst (λ es. IsFaultless (λ (e : BtfError). Any (λ entry. EntryFault k entry e) es)) listed c.in_ok-step.ensures.accepted in
    let room : IsFaultless (IsOverfull order k) = subst (λ o. IsFaultless (IsOverfull o k)) same c.in_ok-table.ensures.accepted in
    none_of_either (SubjectFault k) _ c.in_ok-entries.ensures.accepted (none_of_either (λ e. Any (λ entry. EntryFault k entry e) (section_entries k)) (IsOverfull order k) entries room)
