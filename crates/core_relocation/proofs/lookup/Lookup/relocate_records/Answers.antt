use Rattle.std.proofs.Common.{◌⊎◌, Some, arith, refl, sym, subst, ◌∙◌}
use Rattle.core_relocation.specs.Faults.{RecordsFault}
use Rattle.core_relocation.specs.Relocations.{placed_among}
use Rattle.core_relocation.specs.Walks.{HasWriteFault}
use Rattle.core_relocation.proofs.Making.{all_records, record_next, record_refused}
use Rattle.relocation_errors.specs.declared.type_relocations.BtfRelocationCause.{BtfRelocationCause}
use Rattle.core_relocation.proofs.lookup.Lookup.relocate_records.Goals as goal

pub returns-in-Err-clause-refused : goal.returns-in-Err-clause-refused
returns-in-Err-clause-refused c = λ other.
    let g = c.args.self.now in
    let section = Some c.args.section_index in
    let same = c.error_at.ensures other in
    subst (λ (z : BtfRelocationCause). RecordsFault g section c.args.records.now z ⊎ HasWriteFault g (placed_among g section c.args.records.now) c.args.relocated.now.items z) (sym same)
    (record_refused g section c.args.records.now c.args.relocated.now.items c.loop-number.number c.loop-number.relocated.items _ _ c.in-Err.cause
    c.loop-number-test.true refl c.loop-number.invariant.1 (c.in-Err.ensures.refused (λ e. other (same ∙ e))))

pub loop-number-preserved : goal.loop-number-preserved
loop-number-preserved c = (
  c.in-Ok.ensures.same ∙ c.loop-number.invariant.0,
  record_next c.args.self.now (Some c.args.section_index) c.args.records.now c.args.relocated.now.items c.loop-number.number c.loop-number.relocated.items c.relocate_record.new.relocated.items _ _
      c.loop-number-test.true refl c.loop-number.invariant.1 c.in-Ok.ensures.made c.in-Ok.ensures.accepted,
)

pub returns-clause-made : goal.returns-clause-made
returns-clause-made c =
    all_records c.args.self.now (Some c.args.section_index) c.args.records.now c.args.relocated.now.items c.loop-number.number c.loop-number.relocated.items
    (omega (arith, c.loop-number-test.false, c.loop-number.auto.number-end)) c.loop-number.invariant.1
