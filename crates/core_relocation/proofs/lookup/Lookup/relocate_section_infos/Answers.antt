use Rattle.std.proofs.Common.{arith, ◌∙◌}
use Rattle.std.proofs.lemmas.Result.{err_from_is_err_and}
use Rattle.core_relocation.proofs.Making.{all_section_infos, section_info_next, section_info_refused}
use Rattle.core_relocation.proofs.lookup.Lookup.relocate_section_infos.Goals as goal

pub returns-in_err-relocate_section_info-clause-refused : goal.returns-in_err-relocate_section_info-clause-refused
returns-in_err-relocate_section_info-clause-refused c =
    let p = err_from_is_err_and c.from_residual.result c.from_residual.ensures.1 in
    rw (p.1, p.2)
    (λ other. section_info_refused c.args.self.now c.args.section_infos.now c.args.relocated.now.items c.loop-section_info.section_info-index c.loop-section_info.relocated.items _ _ _
    c.loop-section_info-test.true c.section_info-item.is c.loop-section_info.invariant.1 (c.in_err-relocate_section_info.ensures.refused other))

pub loop-section_info-preserved : goal.loop-section_info-preserved
loop-section_info-preserved c = (
  c.in_ok-relocate_section_info.ensures.same ∙ c.loop-section_info.invariant.0,
  section_info_next c.args.self.now c.args.section_infos.now c.args.relocated.now.items c.loop-section_info.section_info-index c.loop-section_info.relocated.items c.relocate_section_info.new.relocated.items _ _
      c.loop-section_info-test.true c.section_info-item.is c.loop-section_info.invariant.1 c.in_ok-relocate_section_info.ensures.made c.in_ok-relocate_section_info.ensures.accepted,
)

pub returns-clause-made : goal.returns-clause-made
returns-clause-made c =
    all_section_infos c.args.self.now c.args.section_infos.now c.args.relocated.now.items c.loop-section_info.section_info-index c.loop-section_info.relocated.items
    (omega (arith, c.loop-section_info-test.false, c.loop-section_info.auto.section_info-index-end)) c.loop-section_info.invariant.1
