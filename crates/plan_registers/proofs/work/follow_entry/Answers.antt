use Rattle.std.proofs.Common.{arith, sym, ◌∙◌}
use Rattle.std.proofs.lemmas.Int.{ints}
use Rattle.std.proofs.lemmas.Result.{on_ok_weaker}
use Rattle.plan_registers.specs.Work.{state_of}
use Rattle.plan_registers.proofs.Following.{join_call, join_callback, join_no_entry}
use Rattle.plan_registers.proofs.work.follow_entry.Goals as goal

pub returns-then-is_pseudo_call : goal.returns-then-is_pseudo_call
returns-then-is_pseudo_call c =
    on_ok_weaker c.join_slot.result
    (λ j. join_call (state_of c.args.work.now) (state_of c.join_slot.new.work) c.args.program.now c.args.slot c.args.position c.args.known.now c.entered_known-entered.result _ (sym c.is_pseudo_call.ensures ∙ c.if-is_pseudo_call.true) (omega (arith, ints, c.target-to.ensures)) c.entered_known-entered.ensures j)
    c.join_slot.ensures

pub returns-then-is_callback : goal.returns-then-is_callback
returns-then-is_callback c =
    on_ok_weaker c.join_slot-then-is_callback.result
    (λ j. join_callback (state_of c.args.work.now) (state_of c.join_slot-then-is_callback.new.work) c.args.program.now c.args.slot c.args.position c.args.known.now c.any_entry.result _ (sym c.is_pseudo_call.ensures ∙ c.if-is_pseudo_call.false) (sym c.is_callback.ensures ∙ c.if-is_callback.true) (omega (arith, ints, c.target-to.ensures)) c.any_entry.ensures j)
    c.join_slot-then-is_callback.ensures

pub returns : goal.returns
returns c = join_no_entry (state_of c.args.work.now) c.args.program.now c.args.slot c.args.position c.args.known.now (sym c.is_pseudo_call.ensures ∙ c.if-is_pseudo_call.false) (sym c.is_callback.ensures ∙ c.if-is_callback.false)
