use Rattle.btf_sanitize.proofs.Elements.{AreMade}
use Rattle.btf_sanitize.specs.Faults.{MemberFault}
use Rattle.btf_sanitize.specs.Knowledge.{facts_of}
use Rattle.btf_sanitize.specs.Rewritten.{member_of_entry}
use Rattle.btf_sanitize.proofs.section.members_of_entries.Given as goal
use Rattle.btf_storage.specs.Faultless.{IsFaultless}

abbrev pub invariant-loop-entry : goal.invariant-loop-entry
invariant-loop-entry l = AreMade (member_of_entry (facts_of l.known)) (λ entry. IsFaultless (MemberFault (facts_of l.known) entry)) l.entries l.entry-index l.members.items
