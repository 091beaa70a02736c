use Rattle.std.proofs.Common.{ap, sym, ◌∙◌}
use Rattle.std.specs.Result.{result_ok}
use Rattle.btf_sanitize.specs.Facts.{number_named}
use Rattle.btf_rewrite.specs.Carrying.{stays_in}
use Rattle.btf_rewrite.specs.Sanitizing.{facts_in, stepped}
use Rattle.test_calls.proofs.Sizes.{same_size}
use Rattle.test_calls.proofs.carried.size_after.Goals as goal

pub returns : goal.returns
returns g c = λ reached left here.
    let a = c.args in
    let done = c.in_ok-answers in
    let known = facts_in done.answers.items (number_named a.sizes.now.entries) (number_named a.offsets.now.entries) (stepped a.ksyms a.table.now) in
    let same = same_size (stays_in a.ksyms a.table.now known) a.table.now _ a.type_id c.type_size.ensures.rests c.type_size.ensures.held done.ensures.carries reached left here in
    c.ok-after.ensures.value ∙ (ap result_ok (c.type_size-2.ensures.value ∙ (same ∙ sym c.type_size.ensures.value)) ∙ sym c.ok-before.ensures.value)
