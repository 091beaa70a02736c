use Rattle.std.proofs.Common.{sym, ◌∙◌}
use Rattle.btf_ext.specs.Records.{line_words}
use Rattle.btf_ext.proofs.Written.{all_written, one_more_written}
use Rattle.btf_ext.proofs.sec_info.LineSecInfo.line_info_bytes.Goals as goal

pub loop-record-preserved : goal.loop-record-preserved
loop-record-preserved c =
    rw c.in_ok-write.ensures (one_more_written line_words c.args.self.now c.loop-record.index c.loop-record.out.items c.in-Some.record c.loop-record.invariant (sym c.get.ensures.value ∙ c.in-Some.is))

pub returns : goal.returns
returns c = all_written line_words c.args.self.now c.loop-record.index c.loop-record.out.items c.loop-record.invariant (sym c.get.ensures.value ∙ c.in_default.is)
