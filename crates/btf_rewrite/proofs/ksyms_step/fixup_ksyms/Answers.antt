use Rattle.btf_rewrite.proofs.Kept.{step_keeps}
use Rattle.btf_rewrite.proofs.ksyms_step.fixup_ksyms.Goals as goal
use Rattle.btf_rewrite.specs.Steps.{ksyms_of}

pub returns-clause-keeps : goal.returns-clause-keeps
returns-clause-keeps c = step_keeps (ksyms_of c.args.k.now) c.in_ok-table.table.records.types c.in_ok-table.ensures.types
