use Rattle.std.proofs.Common.{◌≡◌, ◌≢◌, refl, sym, ap, ◌∙◌}
use Rattle.std.specs.Prelude.{slice_get}
use Rattle.std.proofs.lemmas.Result.{on_ok_weaker}
use Rattle.plan_values.specs.Knowledge.{meet}
use Rattle.plan_registers.specs.Reach.{Facts, flat_option}
use Rattle.plan_registers.specs.Work.{state_of}
use Rattle.plan_registers.proofs.Joining.{join_first, join_same, join_again}
use Rattle.plan_values.proofs.Within.{is_same_true, is_same_false}
use Rattle.plan_registers.proofs.work.join.Goals as goal

pub returns-in-None : goal.returns-in-None
returns-in-None c =
    let fact_is = ap (λ (fs : Facts). flat_option (slice_get fs c.args.slot)) (sym c.deref.ensures.value) in
    on_ok_weaker c.raise.result
    (λ r. join_first (state_of c.args.work.now) (state_of c.raise.new.work) c.args.slot c.args.known c.args.known c.requires (fact_is ∙ (sym c.fact_of.ensures ∙ c.in-None.is)) c.raise.ensures.size refl r)
    c.raise.ensures.raised

pub returns-then-is_same : goal.returns-then-is_same
returns-then-is_same c =
    let fact_is = ap (λ (fs : Facts). flat_option (slice_get fs c.args.slot)) (sym c.deref.ensures.value) in
    let same : meet c.in-Some.there c.args.known ≡ c.in-Some.there = sym c.meet-met.ensures.value ∙ is_same_true _ _ (sym c.is_same.ensures ∙ c.if-is_same.true) in
    join_same (state_of c.args.work.now) c.args.slot c.args.known c.in-Some.there (fact_is ∙ (sym c.fact_of.ensures ∙ c.in-Some.is)) (c.meet-met.ensures.left ∙ sym c.meet-met.ensures.right) same

pub returns-else-is_same : goal.returns-else-is_same
returns-else-is_same c =
    let fact_is = ap (λ (fs : Facts). flat_option (slice_get fs c.args.slot)) (sym c.deref.ensures.value) in
    let differ : meet c.in-Some.there c.args.known ≢ c.in-Some.there =
    λ e. is_same_false _ _ (sym c.is_same.ensures ∙ c.if-is_same.false) (c.meet-met.ensures.value ∙ e) in
    on_ok_weaker c.raise-in-Some.result
    (λ r. join_again (state_of c.args.work.now) (state_of c.raise-in-Some.new.work) c.args.slot c.args.known c.in-Some.there c.meet-met.result (fact_is ∙ (sym c.fact_of.ensures ∙ c.in-Some.is)) (c.meet-met.ensures.left ∙ sym c.meet-met.ensures.right) differ c.meet-met.ensures.value r)
    c.raise-in-Some.ensures.raised
