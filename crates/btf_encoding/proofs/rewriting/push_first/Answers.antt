use Rattle.std.proofs.Common.{rules}
use Rattle.btf_encoding.proofs.ManyTypes.{first_record}
use Rattle.btf_encoding.proofs.rewriting.push_first.Goals as goal

pub read_type-requires : goal.read_type-requires
read_type-requires c = first_record c.args.order c.args.bytes.now c.requires (search rules)

pub len_of-requires : goal.len_of-requires
len_of-requires c = first_record c.args.order c.args.bytes.now c.requires (search rules)
