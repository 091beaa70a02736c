use Rattle.std.proofs.Common.{Any, subst}
use Rattle.btf_sanitize.specs.Faults.{PlaceFault}
use Rattle.btf_sanitize.specs.Knowledge.{facts_of}
use Rattle.btf_sanitize.proofs.Faultless.{none_of_unsized, none_under}
use Rattle.btf_sanitize.proofs.section.sized.Goals as goal
use Rattle.btf_storage.specs.Faultless.{IsFaultless}

pub returns-clause-accepted : goal.returns-clause-accepted
returns-clause-accepted c = none_under _ _ (none_of_unsized (facts_of c.args.known.now) c.args.t c.args.name.now c.requires c.in_ok-size.ensures.accepted (subst (λ es. IsFaultless (λ e. Any (λ entry. PlaceFault (facts_of c.args.known.now) entry e) es)) c.as_slice.ensures.value c.in_ok-entries.ensures.accepted))
