use Rattle.std.proofs.Common.{inl, inr}
use Rattle.std.proofs.lemmas.Result.{err_from_is_err_and}
use Rattle.load_plan.proofs.Chain.{through_err, through_ok}
use Rattle.watched.specs.Watched.{watched_inner}
use Rattle.load_plan.proofs.Exchange.{pass-refusal}
use Rattle.load_plan.proofs.Texts.{some_given, some_text, through_text}
use Rattle.load_plan.proofs.planning.prepare.Goals as goal

pub returns-in_err-parsed-clause-refused : goal.returns-in_err-parsed-clause-refused
returns-in_err-parsed-clause-refused g c =
    let p = err_from_is_err_and c.from_residual.result c.from_residual.ensures.1 in
    rw (p.1, p.2) (λ other. (some_text (g.R.Read.remaining (watched_inner c.args.symbols.now)), some_given (g.R.Read.remaining (watched_inner c.args.symbols.now)), inl (c.in_err-parsed.ensures.refused other)))

pub returns-clause-planned : goal.returns-clause-planned
returns-clause-planned g c =
    through_ok c.plan_object.result
    (λ plan said. through_text _ (λ text planned. record { object = c.in_ok-parsed.parsed; whole = c.in_ok-parsed.ensures.parsed; planned = planned c.args.object.now }) said)
    c.plan_object.ensures.planned

pub returns-clause-refused : goal.returns-clause-refused
returns-clause-refused g c =
    through_err c.plan_object.result
    (λ e said other. through_text _ (λ text refused. inr (pass-refusal c.relocations_rest.ensures _ c.in_ok-parsed.parsed e c.in_ok-parsed.ensures.parsed (refused c.args.object.now))) (said other))
    c.plan_object.ensures.refused

pub returns-clause-unread : goal.returns-clause-unread
returns-clause-unread g c = λ none. c.plan_object.ensures.unread (none c.in_ok-parsed.parsed c.in_ok-parsed.ensures.parsed)
