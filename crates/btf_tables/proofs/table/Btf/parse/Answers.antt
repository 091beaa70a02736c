use Rattle.std.proofs.Common.{refl, ◌∙◌, arith}
use Rattle.btf_tables.proofs.Sections.{holds_table}
use Rattle.btf_tables.proofs.table.Btf.parse.Goals as goal

pub returns-clause-holds : goal.returns-clause-holds
returns-clause-holds c =
    holds_table c.args.order c.args.bytes.now _ (record {
      head = omega arith;
      strings_within = c.in-Some.ensures.0;
      types_within = c.in-Some-region.ensures.0;
      same_order = c.in_ok-read.ensures.order;
      magic = c.half_word.ensures;
      version = refl;
      flags = refl;
      strings = c.borrowed.ensures ∙ c.in-Some.ensures.1;
      types = rw c.in-Some-region.ensures.1 at c.in_ok-read.ensures.spelled;
    })
