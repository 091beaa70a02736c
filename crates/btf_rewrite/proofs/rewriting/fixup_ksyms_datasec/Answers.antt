use Rattle.btf_rewrite.proofs.Carried.{step_carries}
use Rattle.btf_rewrite.proofs.rewriting.fixup_ksyms_datasec.Goals as goal

pub returns-clause-carries : goal.returns-clause-carries
returns-clause-carries c = step_carries c.args.section c.args.placeholder c.args.table.now c.in_ok-stepped.stepped c.in_ok-stepped.ensures.keeps c.in_ok-stepped.ensures.texts
