use Rattle.std.proofs.Common.{ap, ◌∙◌, subst, true, ◌≡◌}
use Rattle.std.specs.Prelude.{IfErr, IfOk, OnOk}
use Rattle.slot_relocation.specs.Walks.{IsRefusal, is_sound}
use Rattle.slot_relocation.specs.Writes.{after_all}
use Rattle.slot_relocation.proofs.OffsetRanges.{inside_is}
use Rattle.slot_relocation.proofs.by_symbol.slots_after.Goals as goal

pub returns-clause-value : goal.returns-clause-value
returns-clause-value g c =
    let f = c.args.function.now in
    let all = inside_is c.args.file.now f _ _ _ c.relocations_in-relocations.result c.relocations_in-relocations.ensures (ap (λ x. x.section_index) c.function.view_is) (ap (λ x. x.section_offset) c.function.view_is) (c.in-Ok.ensures.1 ∙ c.end.ensures.value) in
    subst (λ rs. IfOk c.relocate_each.result (λ s. s ≡ after_all (g.R.Rule.rule c.args.rule.now) f rs)) all c.relocate_each.ensures.value

pub returns-clause-sound : goal.returns-clause-sound
returns-clause-sound g c =
    let f = c.args.function.now in
    let all = inside_is c.args.file.now f _ _ _ c.relocations_in-relocations.result c.relocations_in-relocations.ensures (ap (λ x. x.section_index) c.function.view_is) (ap (λ x. x.section_offset) c.function.view_is) (c.in-Ok.ensures.1 ∙ c.end.ensures.value) in
    subst (λ rs. OnOk c.relocate_each.result (is_sound (g.R.Rule.rule c.args.rule.now) rs f ≡ true)) all c.relocate_each.ensures.sound

pub returns-clause-refused : goal.returns-clause-refused
returns-clause-refused g c =
    let f = c.args.function.now in
    let all = inside_is c.args.file.now f _ _ _ c.relocations_in-relocations.result c.relocations_in-relocations.ensures (ap (λ x. x.section_index) c.function.view_is) (ap (λ x. x.section_offset) c.function.view_is) (c.in-Ok.ensures.1 ∙ c.end.ensures.value) in
    subst (λ rs. IfErr c.relocate_each.result (IsRefusal (g.R.Rule.rule c.args.rule.now) rs f)) all c.relocate_each.ensures.refused
