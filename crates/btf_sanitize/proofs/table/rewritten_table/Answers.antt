use Rattle.std.proofs.Common.{◌≡◌, ◌≢◌, ◌+◌, ◌<◌, ◌^◌, ap, refl, ◌∙◌, length}
use Rattle.btf_records.specs.declared.error.BtfError.TheVariants.{OutOfMemory}
use Rattle.btf_storage.specs.Layout.{RecordList}
use Rattle.btf_sanitize.specs.Knowledge.{facts_of}
use Rattle.btf_sanitize.specs.Sanitized.{AnyFault, SanitizingFault, all_added, at_first, sanitized_types}
use Rattle.btf_sanitize.proofs.OwnTexts.{refused_own}
use Rattle.btf_sanitize.proofs.Passes.{faultless_all, passed_on, refused_all}
use Rattle.btf_sanitize.proofs.table.rewritten_table.Goals as goal
use Rattle.btf_storage.specs.Growth.{AreFew}

pub returns-then-not-own_texts_fit-clause-refused : goal.returns-then-not-own_texts_fit-clause-refused
returns-then-not-own_texts_fit-clause-refused c other = refused_own c.args.known.now.types.now.order (facts_of c.args.known.now) (c.if-not-own_texts_fit.ensures.unfit refl)

pub returns-in_err-rewrite_all-clause-refused : goal.returns-in_err-rewrite_all-clause-refused
returns-in_err-rewrite_all-clause-refused c =
    let known = facts_of c.args.known.now in
    let order = c.args.known.now.types.now.order in
    let start : c.new-additions.result ≡ at_first known = rw (c.len.ensures, c.len-2.ensures.value) at c.new-additions.ensures in
    let same : c.new-records.result.order ≡ order = ap (λ (r : RecordList). r.order) c.new-records.ensures ∙ c.order.ensures in
    passed_on _ c.in_err-rewrite_all.field-0.0 (λ e. e ≢ OutOfMemory → SanitizingFault order known e) c.from_residual.ensures.1
    (λ other.
    let fault : AnyFault known order (at_first known) c.in_err-rewrite_all.field-0.0 = rw (start, same) at (c.in_err-rewrite_all.ensures.refused other) in
    refused_all order known c.in_err-rewrite_all.field-0.0 fault)

pub returns-clause-accepted : goal.returns-clause-accepted
returns-clause-accepted c =
    let known = facts_of c.args.known.now in
    let order = c.args.known.now.types.now.order in
    let start : c.new-additions.result ≡ at_first known = rw (c.len.ensures, c.len-2.ensures.value) at c.new-additions.ensures in
    let same : c.new-records.result.order ≡ order = ap (λ (r : RecordList). r.order) c.new-records.ensures ∙ c.order.ensures in
    let few : AreFew order (sanitized_types known) = rw (c.in_ok-push_all.ensures.order, c.in_ok-push_all.ensures.types, c.in_ok-rewrite_all.ensures.order, c.in_ok-rewrite_all.ensures.types, c.into_parts-texts.ensures.types, c.in_ok-rewrite_all.ensures.added, start, same) at c.in_ok-push_all.ensures.few in
    let short : (all_added known).string_len + length (all_added known).texts < 2 ^ 32 = rw (c.in_ok-rewrite_all.ensures.added, start) at c.into_parts-texts.ensures.few_bytes in
    faultless_all order known c.in_ok-rewrite_all.ensures.accepted few short
