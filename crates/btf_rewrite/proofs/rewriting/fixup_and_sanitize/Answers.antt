use Rattle.btf_sanitize.specs.Facts.{number_named}
use Rattle.btf_rewrite.proofs.Carried.{rewriting_carries}
use Rattle.btf_rewrite.proofs.rewriting.fixup_and_sanitize.Goals as goal

pub returns-clause-carries : goal.returns-clause-carries
returns-clause-carries g c =
    let done = c.in_ok-rewritten in
    rewriting_carries c.args.ksyms done.rewritten.answers.items (number_named c.args.sizes.now.entries) (number_named c.args.offsets.now.entries) c.args.table.now done.rewritten.table done.ensures.step done.ensures.keeps done.ensures.texts
