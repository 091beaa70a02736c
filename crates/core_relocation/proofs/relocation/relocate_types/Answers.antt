use Rattle.std.proofs.Common.{subst, ◌∙◌}
use Rattle.core_relocation.specs.Laws.{IsAnswer}
use Rattle.core_relocation.specs.Relocations.{SectionInfos, types_given}
use Rattle.core_relocation.proofs.Rests.{is_answer}
use Rattle.core_relocation.proofs.relocation.relocate_types.Goals as goal

pub returns-clause-rests : goal.returns-clause-rests
returns-clause-rests c =
    let g = types_given c.args.file.now c.args.functions.now c.args.local.now c.args.targets.now in
    let r = c.relocate_section_infos.result in
    let new = c.relocate_section_infos.new.functions in
    let ensured = c.relocate_section_infos.ensures in
    c.relocations_rest.ensures.answered g c.args.extension.now.relocations new r
    (subst (λ (infos : SectionInfos). IsAnswer infos new r g) (c.as_slice.ensures.value ∙ c.in_ok-section_infos.ensures)
    (is_answer g c.as_slice.result.now new r ensured.relocated ensured.sound ensured.fault))
