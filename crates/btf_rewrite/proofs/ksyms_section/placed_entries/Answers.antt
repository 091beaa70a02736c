use Rattle.std.proofs.Common.{◌≢◌, Any, arith}
use Rattle.btf_records.specs.declared.error.BtfError.TheVariants.{OutOfMemory}
use Rattle.btf_rewrite.specs.Ksyms.{EntryFault}
use Rattle.btf_rewrite.proofs.Elements.{any_at, none_of_all}
use Rattle.btf_rewrite.proofs.Growth.{passed_on}
use Rattle.btf_rewrite.proofs.PlacedEntries.{all_placed, all_variables, one_more_placed}
use Rattle.btf_rewrite.proofs.ksyms_section.placed_entries.Goals as goal
use Rattle.btf_rewrite.specs.Steps.{ksyms_of}

pub loop-index-preserved : goal.loop-index-preserved
loop-index-preserved c = rw c.in_ok-push.ensures.items (one_more_placed (ksyms_of c.args.k.now) c.args.entries.now c.loop-index.index c.loop-index.placed.items _ c.in_ok-next.next.0 c.loop-index.has_variables c.in_ok-next.next.1 c.loop-index.invariant c.loop-index-test.true c.in_ok-next.ensures.value c.in_ok-next.ensures.variable c.in_ok-next.ensures.accepted)

pub returns-in_err-next-clause-refused : goal.returns-in_err-next-clause-refused
returns-in_err-next-clause-refused c =
    let k = ksyms_of c.args.k.now in
    passed_on _ c.in_err-next.field-0.0 (λ e. e ≢ OutOfMemory → Any (λ entry. EntryFault k entry e) c.args.entries.now) c.from_residual-in_err-next.ensures.1
    (λ other. any_at (λ entry. EntryFault k entry c.in_err-next.field-0.0) c.args.entries.now c.loop-index.index _ c.loop-index-test.true c.in_err-next.ensures.refused)

pub returns-clause-value : goal.returns-clause-value
returns-clause-value c = all_placed (ksyms_of c.args.k.now) c.args.entries.now c.loop-index.index c.loop-index.placed.items c.loop-index.has_variables c.loop-index.invariant (omega (arith, c.loop-index-test.false, c.loop-index.auto.index-end))

pub returns-clause-variables : goal.returns-clause-variables
returns-clause-variables c = all_variables (ksyms_of c.args.k.now) c.args.entries.now c.loop-index.index c.loop-index.placed.items c.loop-index.has_variables c.loop-index.invariant (omega (arith, c.loop-index-test.false, c.loop-index.auto.index-end))

pub returns-clause-accepted : goal.returns-clause-accepted
returns-clause-accepted c = none_of_all (EntryFault (ksyms_of c.args.k.now)) c.args.entries.now c.loop-index.index c.loop-index.invariant.right (omega (arith, c.loop-index-test.false, c.loop-index.auto.index-end))
