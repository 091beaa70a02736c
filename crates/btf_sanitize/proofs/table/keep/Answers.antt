use Rattle.std.proofs.Common.{◌≢◌}
use Rattle.btf_records.specs.declared.error.BtfError.TheVariants.{OutOfMemory}
use Rattle.btf_sanitize.specs.Knowledge.{facts_of}
use Rattle.btf_sanitize.specs.Sanitized.{NextFault}
use Rattle.btf_sanitize.proofs.Passes.{passed_on}
use Rattle.btf_sanitize.proofs.Stays.{refused_copy, stays_alone}
use Rattle.btf_sanitize.proofs.table.keep.Goals as goal

pub returns-in_err-push_copy-clause-refused : goal.returns-in_err-push_copy-clause-refused
returns-in_err-push_copy-clause-refused c =
    let known = facts_of c.args.known.now in
    passed_on _ c.in_err-push_copy.field-0.0 (λ e. e ≢ OutOfMemory → NextFault known c.args.records.now c.args.additions.now c.args.t.now e) c.from_residual.ensures.1
    (λ other. refused_copy known c.args.records.now c.args.additions.now c.args.t.now c.in_err-push_copy.field-0.0 ((stays_alone known c.args.t.now c.requires).same c.args.additions.now) (c.in_err-push_copy.ensures.refused other))
