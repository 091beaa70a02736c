use Rattle.std.proofs.Common.{arith, subst}
use Rattle.std.proofs.lemmas.List.{take_all}
use Rattle.std.specs.Option.{option_map}
use Rattle.object_file.specs.Named.{last_section}
use Rattle.object_file.proofs.Last.{section_more}
use Rattle.object_file.proofs.Numbers.{HasNumbers, one_entered}
use Rattle.object_file.proofs.section_maps.sizes.Goals as goal

pub loop-section-preserved : goal.loop-section-preserved
loop-section-preserved c =
    record { at = λ q. section_more (λ s. s.size) c.args.sections.now c.loop-section.section-index c.section-item.result c.name.result.now q c.size.result _ _ c.loop-section-test.true c.section-item.is c.name.ensures c.size.ensures (c.loop-section.invariant.at q) (one_entered _ _ c.name.result.now q c.size.result (c.in_ok-insert.ensures.updates.0 (record c.name.result { now = q }))) }

pub returns : goal.returns
returns c =
    record { at = (subst (λ xs. HasNumbers (λ q. option_map (λ s. s.size) (last_section xs q)) c.loop-section.sizes.entries) (take_all c.loop-section.section-index c.args.sections.now (omega arith)) c.loop-section.invariant).at }
