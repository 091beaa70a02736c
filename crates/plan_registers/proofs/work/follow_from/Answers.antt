use Rattle.std.proofs.Common.{sym, ap, ◌∙◌}
use Rattle.std.specs.Prelude.{slice_get}
use Rattle.std.proofs.lemmas.Result.{on_ok_weaker}
use Rattle.plan_registers.specs.Reach.{Facts, callee_result, flat_option}
use Rattle.plan_registers.specs.Work.{state_of}
use Rattle.plan_registers.proofs.Following.{join_no_slot, join_no_fact, join_from}
use Rattle.plan_registers.proofs.work.follow_from.Goals as goal

pub returns-in_default : goal.returns-in_default
returns-in_default c = join_no_slot (state_of c.args.work.now) c.args.program.now c.args.position (slice_get c.args.program.now.slots c.args.position) (slice_get c.args.work.now.facts.items c.args.position) c.args.work.now.facts.items (sym c.slot.ensures ∙ c.in_default.is)

pub returns-in_default-fact_of : goal.returns-in_default-fact_of
returns-in_default-fact_of c =
    let known_is = ap (λ (fs : Facts). flat_option (slice_get fs c.args.position)) (sym c.deref.ensures.value) in
    join_no_fact (state_of c.args.work.now) c.args.program.now c.args.position (slice_get c.args.program.now.slots c.args.position) (slice_get c.args.work.now.facts.items c.args.position) c.args.work.now.facts.items (known_is ∙ (sym c.fact_of.ensures ∙ c.in_default-fact_of.is))

pub returns : goal.returns
returns c =
    let known_is = ap (λ (fs : Facts). flat_option (slice_get fs c.args.position)) (sym c.deref.ensures.value) in
    let given_is = c.callee_result-given.ensures ∙ ap (λ (fs : Facts). callee_result c.args.program.now fs c.in-Some.slot c.args.position) c.deref-2.ensures.value in
    on_ok_weaker c.follow.result
    (λ j. join_from (state_of c.args.work.now) (state_of c.follow.new.work) c.args.program.now c.args.position c.in-Some.slot c.slot_after-next.result c.in-Some-fact_of.known c.callee_result-given.result (slice_get c.args.program.now.slots c.args.position) (slice_get c.args.work.now.facts.items c.args.position) c.args.work.now.facts.items
    (sym c.slot.ensures ∙ c.in-Some.is) (known_is ∙ (sym c.fact_of.ensures ∙ c.in-Some-fact_of.is)) c.slot_after-next.ensures given_is j)
    c.follow.ensures
