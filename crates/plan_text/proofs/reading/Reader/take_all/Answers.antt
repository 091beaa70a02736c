use Rattle.std.proofs.Common.{◌≡◌, ◌+◌, ◌∷◌, false, true, length, arith, ap, sym, ◌∙◌, subst, length-append}
use Rattle.std.specs.Prelude.{◌==◌}
use Rattle.plan_text.proofs.ReadingLaws.{IsReading, bad_end, bad_line, is_read, reading_next, reading_start}
use Rattle.plan_text.proofs.Unbroken.{empty_is}
use Rattle.plan_text.specs.Machine.{StateContent, state_view}
use Rattle.plan_text.proofs.reading.Reader.take_all.Goals as goal

pub loop-line-init : goal.loop-line-init
loop-line-init c =
    (omega arith, subst (λ (s : StateContent). IsReading c.args.bytes.now c.args.bytes.now 0 s) (sym c.requires.fresh) (reading_start c.args.bytes.now))

pub take-requires : goal.take-requires
take-requires c = c.loop-line.invariant.1.good.plan.sound.features

pub returns-then-not-branch-clause-refused : goal.returns-then-not-branch-clause-refused
returns-then-not-branch-clause-refused c =
    bad_line c.lines_are_unbroken.ensures c.args.bytes.now c.loop-line.rest.now c.in-Some.line.now c.in-Some.others.now c.loop-line.lines (state_view c.loop-line.self)
    c.loop-line.invariant.1 c.in-Some.ensures.0 c.in-Some.ensures.1 (rw c.if-not-branch.true at c.in_ok-take.ensures)

pub loop-line-preserved : goal.loop-line-preserved
loop-line-preserved c =
    let cut : length c.loop-line.rest.now ≡ length c.in-Some.line.now + (1 + length c.in-Some.others.now) = ap length c.in-Some.ensures.0 ∙ (length-append c.in-Some.line.now (10 ∷ c.in-Some.others.now) ∙ omega arith) in (
      omega arith,
      reading_next c.lines_are_unbroken.ensures c.args.bytes.now c.loop-line.rest.now c.in-Some.line.now c.in-Some.others.now c.loop-line.lines (state_view c.loop-line.self) (state_view c.take.new.self)
          c.loop-line.invariant.1 c.in-Some.ensures.0 c.in-Some.ensures.1 (rw c.if-not-branch.false at c.in_ok-take.ensures),
    )

pub returns-then-not-is_empty-clause-refused : goal.returns-then-not-is_empty-clause-refused
returns-then-not-is_empty-clause-refused c =
    bad_end c.args.bytes.now c.loop-line.rest.now c.loop-line.lines (state_view c.loop-line.self) c.loop-line.invariant.1 c.in_default.ensures
    (λ e a. let t : c.is_empty.result ≡ true = c.is_empty.ensures ∙ ap (λ xs. length xs == 0) e in let f : c.is_empty.result ≡ false = c.if-not-is_empty.true in absurd cc)

pub returns-then-not-is_finished-clause-refused : goal.returns-then-not-is_finished-clause-refused
returns-then-not-is_finished-clause-refused c =
    bad_end c.args.bytes.now c.loop-line.rest.now c.loop-line.lines (state_view c.loop-line.self) c.loop-line.invariant.1 c.in_default.ensures
    (λ e a. let t : c.is_finished.result ≡ true = c.is_finished.ensures.1 a in let f : c.is_finished.result ≡ false = c.if-not-is_finished.true in absurd cc)

pub returns-clause-read : goal.returns-clause-read
returns-clause-read c =
    is_read c.args.bytes.now c.loop-line.rest.now c.loop-line.lines (state_view c.loop-line.self) c.loop-line.invariant.1 c.in_default.ensures
    (empty_is c.loop-line.rest.now (sym c.is_empty.ensures ∙ c.if-not-is_empty.false)) (c.is_finished.ensures.0 c.if-not-is_finished.false)
