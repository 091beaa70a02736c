use Rattle.std.proofs.Common.{length}
use Rattle.btf_encoding.specs.Rewriting.{AreRecords, AreWrittenUpTo}
use Rattle.btf_encoding.proofs.rewriting.push_records.Given as goal

abbrev pub invariant-loop-rest : goal.invariant-loop-rest
invariant-loop-rest l = record {
  written : AreWrittenUpTo l.order l.bytes l.rest l.fn.out.items l.out.items;
  are : AreRecords l.order l.rest;
}

abbrev pub decreases-loop-rest : goal.decreases-loop-rest
decreases-loop-rest l = length l.rest
