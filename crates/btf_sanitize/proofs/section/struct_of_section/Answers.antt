use Rattle.std.proofs.Common.{Any, subst}
use Rattle.btf_sanitize.specs.Faults.{MemberFault}
use Rattle.btf_sanitize.specs.Knowledge.{facts_of}
use Rattle.btf_sanitize.proofs.section.struct_of_section.Goals as goal
use Rattle.btf_storage.specs.Faultless.{IsFaultless}

pub returns-clause-accepted : goal.returns-clause-accepted
returns-clause-accepted c = subst (λ es. IsFaultless (λ e. Any (λ entry. MemberFault (facts_of c.args.known.now) entry e) es)) c.as_slice.ensures.value c.in_ok-members.ensures.accepted
