use Rattle.std.proofs.Common.{◌-◌, length}
use Rattle.btf_ext.specs.Records.{func_words}
use Rattle.btf_ext.proofs.Written.{AreWritten}
use Rattle.btf_ext.proofs.sec_info.FuncSecInfo.func_info_bytes.Given as goal

abbrev pub invariant-loop-record : goal.invariant-loop-record
invariant-loop-record l = AreWritten func_words l.self l.index l.out.items

abbrev pub decreases-loop-record : goal.decreases-loop-record
decreases-loop-record l = length l.self - l.index
