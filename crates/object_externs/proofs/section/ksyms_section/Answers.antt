use Rattle.std.proofs.Common.{sym, ◌∙◌, arith, ap, length, subst}
use Rattle.btf_records.specs.Fields.{name_offset_of}
use Rattle.object_externs.specs.Faults.{SectionFault}
use Rattle.object_externs.proofs.Faultless.{passed_on}
use Rattle.object_externs.proofs.Search.{no_ksyms_here, readable_here, unreadable_here}
use Rattle.object_externs.proofs.section.ksyms_section.Goals as goal

pub returns-in_err-is_ksyms-clause-refused : goal.returns-in_err-is_ksyms-clause-refused
returns-in_err-is_ksyms-clause-refused c = passed_on _ c.in_err-is_ksyms.field-0.0 (SectionFault c.args.table.now) c.from_residual.ensures.1 (subst (SectionFault c.args.table.now) (sym c.in_err-is_ksyms.ensures.refused.0) (unreadable_here c.args.table.now.strings c.in-Some.t c.next.new.self _ _ c.in-Some.ensures.steps (c.loop-t.invariant.readable (name_offset_of c.in-Some.t)) c.in_err-is_ksyms.ensures.refused.1))

pub loop-t-preserved : goal.loop-t-preserved
loop-t-preserved c =
    let other = sym c.in_ok-is_ksyms.ensures.value ∙ c.if-branch.false in
    record {
      found = no_ksyms_here _ c.loop-t.id c.in-Some.t c.next.new.self _ _ c.in-Some.ensures.steps c.loop-t.invariant.found other;
      readable = λ offset. readable_here _ offset c.in-Some.t c.next.new.self _ _ c.in-Some.ensures.steps (c.loop-t.invariant.readable offset) other (c.in_ok-is_ksyms.ensures.accepted offset);
      counted = omega (arith, c.loop-t.invariant.counted, ap length c.in-Some.ensures.steps);
    }
