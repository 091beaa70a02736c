use Rattle.std.proofs.Common.{◌≡◌, ◌++◌, ◌∷◌, [], true, sym, ap, ◌∙◌, subst, append_assoc}
use Rattle.std.specs.Prelude.{filter}
use Rattle.std.proofs.lemmas.Result.{err_from_is_err_and}
use Rattle.object_file.specs.Relocations.{relocations_by_offset}
use Rattle.object_parts.specs.Geometry.{is_inside}
use Rattle.slot_relocation.specs.Writes.{after_all}
use Rattle.slot_relocation.specs.Walks.{are_sound}
use Rattle.slot_relocation.proofs.Rising.{Placed}
use Rattle.slot_relocation.proofs.Walk.{after_more, kept_more, left_out, refused_inside, sound_more}
use Rattle.slot_relocation.proofs.by_symbol.slots_to_last.Goals as goal

pub loop-offset-preserved-in-Continue-branch-2 : goal.loop-offset-preserved-in-Continue-branch-2
loop-offset-preserved-in-Continue-branch-2 g c =
    let done = c.loop-offset.invariant.0 in
    let r : Placed = (c.in-Some.offset.now, c.in-Some.relocation.now) in
    let rule = g.R.Rule.rule c.args.rule.now in
    let f = c.args.function.now in
    let p = λ (r : Placed). is_inside f r.0 in
    let more = sym (kept_more p done r (sym c.is_inside.ensures ∙ c.if-is_inside.true)) in (
      done ++ (r ∷ []),
      (
        append_assoc done (r ∷ []) c.next.new.self ∙ ap (λ l. done ++ l) (sym c.in-Some.ensures.steps) ∙ c.loop-offset.invariant.1.0,
        after_more rule f (filter p done) r _ _ c.loop-offset.invariant.1.1 c.in_ok-relocate_at.ensures.ok ∙ ap (after_all rule f) more,
        subst (λ l. are_sound rule f f.instructions l ≡ true) more (sound_more rule f (filter p done) r _ c.loop-offset.invariant.1.1 c.loop-offset.invariant.1.2 c.in_ok-relocate_at.ensures.sound),
      ),
    )

pub loop-offset-preserved : goal.loop-offset-preserved
loop-offset-preserved g c =
    let done = c.loop-offset.invariant.0 in
    let r : Placed = (c.in-Some.offset.now, c.in-Some.relocation.now) in
    let rule = g.R.Rule.rule c.args.rule.now in
    let f = c.args.function.now in
    let p = λ (r : Placed). is_inside f r.0 in
    let same = sym (left_out p done r (sym c.is_inside.ensures ∙ c.if-is_inside.false)) in (
      done ++ (r ∷ []),
      (
        append_assoc done (r ∷ []) c.next.new.self ∙ ap (λ l. done ++ l) (sym c.in-Some.ensures.steps) ∙ c.loop-offset.invariant.1.0,
        c.loop-offset.invariant.1.1 ∙ ap (after_all rule f) same,
        subst (λ l. are_sound rule f f.instructions l ≡ true) same c.loop-offset.invariant.1.2,
      ),
    )

pub returns-in_err-relocate_at-clause-refused : goal.returns-in_err-relocate_at-clause-refused
returns-in_err-relocate_at-clause-refused g c =
    let done = c.loop-offset.invariant.0 in
    let r : Placed = (c.in-Some.offset.now, c.in-Some.relocation.now) in
    let split = ap (λ l. done ++ l) (sym c.in-Some.ensures.steps) ∙ c.loop-offset.invariant.1.0 in
    let q = err_from_is_err_and c.from_residual-in_err-relocate_at.result c.from_residual-in_err-relocate_at.ensures.1 in
    rw (q.1, q.2) (refused_inside (g.R.Rule.rule c.args.rule.now) (relocations_by_offset c.args.file.now c.args.function.now.section_index) c.args.function.now done r c.next.new.self c.loop-offset.slots _ split (sym c.is_inside.ensures ∙ c.if-is_inside.true) c.loop-offset.invariant.1.1 c.in_err-relocate_at.ensures.refused)
