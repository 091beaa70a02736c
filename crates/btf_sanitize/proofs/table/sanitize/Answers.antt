use Rattle.btf_sanitize.specs.Knowledge.{facts_of}
use Rattle.btf_sanitize.proofs.Kept.{keeps}
use Rattle.btf_sanitize.proofs.table.sanitize.Goals as goal

pub returns-clause-keeps : goal.returns-clause-keeps
returns-clause-keeps c = keeps (facts_of c.args.known.now) c.in_ok-table.table.records.types c.in_ok-table.ensures.types
