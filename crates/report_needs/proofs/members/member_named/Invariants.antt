use Rattle.std.proofs.Common.{◌≡◌, drop, find}
use Rattle.btf_records.specs.Fields.{members_of}
use Rattle.report_needs.specs.Members.{is_member}
use Rattle.report_needs.proofs.members.member_named.Given as goal

abbrev pub invariant-loop-index : goal.invariant-loop-index
invariant-loop-index l = find (is_member l.kernel l.name) (drop l.index (members_of l.t)) ≡ find (is_member l.kernel l.name) (members_of l.t)
