use Rattle.std.proofs.Common.{sym, ◌∙◌}
use Rattle.btf_sanitize.specs.Knowledge.{facts_of}
use Rattle.btf_sanitize.proofs.Faultless.{none_of_denied, none_of_granted}
use Rattle.btf_sanitize.proofs.section.rewritten_section.Goals as goal

pub returns-then-grants-clause-accepted : goal.returns-then-grants-clause-accepted
returns-then-grants-clause-accepted c = none_of_granted (facts_of c.args.known.now) c.args.t (sym c.grants.ensures ∙ c.if-grants.true) c.in_ok-name.ensures.accepted c.in_ok-section.ensures.accepted

pub returns-clause-accepted : goal.returns-clause-accepted
returns-clause-accepted c = none_of_denied (facts_of c.args.known.now) c.args.t (sym c.grants.ensures ∙ c.if-grants.false) c.in_ok-name.ensures.accepted c.in_ok-section-2.ensures.accepted
