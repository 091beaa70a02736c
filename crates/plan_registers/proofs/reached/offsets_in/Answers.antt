use Rattle.std.proofs.Common.{◌≡◌, ◌+◌, ◌++◌, ℕ, Option, List, ap, arith, drop, subst, sym, ◌∙◌, [], ◌∷◌}
use Rattle.plan_registers.specs.Reach.{offsets_in}
use Rattle.plan_registers.proofs.Answering.{offsets_more}
use Rattle.plan_registers.proofs.reached.offsets_in.Goals as goal

pub loop-position-preserved : goal.loop-position-preserved
loop-position-preserved c =
    let slots = c.args.slots.now in
    let facts = c.args.facts.now in
    let done = c.loop-position.offsets.items in
    let i = c.loop-position.position in
    let more = c.in_ok-push.ensures.items ∙ ap (λ (o : Option ℕ). done ++ o ∷ []) c.offset_at.ensures in
    subst (λ (items : List (Option ℕ)). items ++ offsets_in (drop (i + 1) slots) (drop (i + 1) facts) ≡ offsets_in slots facts) (sym more)
    (offsets_more slots facts done (offsets_in slots facts) i _ _ c.loop-position-test.true (omega (arith, c.loop-position-test.true, c.requires)) c.loop-position.invariant)
