use Rattle.std.proofs.Common.{◌++◌, ◌∷◌, [], ℕ, refl, sym, ap, ◌∙◌, append_assoc}
use Rattle.std.proofs.lemmas.Result.{err_from_is_err_and}
use Rattle.slot_relocation.proofs.Walk.{after_more, refused_at, sound_more}
use Rattle.slot_relocation.proofs.rule.relocate_each.Goals as goal

pub loop-offset-init : goal.loop-offset-init
loop-offset-init g c =
    ([], (c.into_iter-offset-iterator.ensures.into_iter_gives, c.in_ok-slots.ensures ∙ ap (λ f. f.instructions) c.function.view_is, refl))

pub loop-offset-preserved : goal.loop-offset-preserved
loop-offset-preserved g c =
    let done = c.loop-offset.invariant.0 in
    let r : ℕ × g.row.A.Denot = (c.in-Some.offset.now, c.in-Some.relocation.now) in
    let rule = g.R.Rule.rule c.args.rule.now in
    (done ++ (r ∷ []), (append_assoc done (r ∷ []) c.next.new.self ∙ ap (λ l. done ++ l) (sym c.in-Some.ensures.steps) ∙ c.loop-offset.invariant.1.0, after_more rule c.args.function.now done r _ _ c.loop-offset.invariant.1.1 c.in_ok-relocate_at.ensures.ok, sound_more rule c.args.function.now done r _ c.loop-offset.invariant.1.1 c.loop-offset.invariant.1.2 c.in_ok-relocate_at.ensures.sound))

pub returns-in_err-relocate_at-clause-refused : goal.returns-in_err-relocate_at-clause-refused
returns-in_err-relocate_at-clause-refused g c =
    let done = c.loop-offset.invariant.0 in
    let r : ℕ × g.row.A.Denot = (c.in-Some.offset.now, c.in-Some.relocation.now) in
    let split = ap (λ l. done ++ l) (sym c.in-Some.ensures.steps) ∙ c.loop-offset.invariant.1.0 in
    let q = err_from_is_err_and c.from_residual-in_err-relocate_at.result c.from_residual-in_err-relocate_at.ensures.1 in
    rw (q.1, q.2) (refused_at (g.R.Rule.rule c.args.rule.now) c.args.relocations c.args.function.now done r c.next.new.self c.loop-offset.slots _ split c.loop-offset.invariant.1.1 c.in_err-relocate_at.ensures.refused)
