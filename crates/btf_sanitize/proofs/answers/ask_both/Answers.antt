use Rattle.btf_sanitize.proofs.Asked.{given_then}
use Rattle.btf_sanitize.proofs.answers.ask_both.Goals as goal

pub returns-then-more-clause-given : goal.returns-then-more-clause-given
returns-then-more-clause-given g c = given_then _ _ _ _ _ _ _ c.ask.ensures.given c.ask-granted.ensures.given
