use Rattle.std.proofs.Common.{◌≡◌, ◌-◌, ◌≤◌, [], length, take, drop}
use Rattle.btf_encoding.specs.Rewriting.{AreRecords, AreWrittenUpTo}
use Rattle.btf_encoding.proofs.rewriting.split_kept.Given as goal

abbrev pub invariant-loop-order : goal.invariant-loop-order
invariant-loop-order l = record {
  kept : AreWrittenUpTo l.order l.bytes l.rest [] (take (length l.bytes - length l.rest) l.bytes);
  left : l.rest ≡ drop (length l.bytes - length l.rest) l.bytes;
  within : length l.rest ≤ length l.bytes;
  are : AreRecords l.order l.rest;
}

abbrev pub decreases-loop-order : goal.decreases-loop-order
decreases-loop-order l = length l.rest
