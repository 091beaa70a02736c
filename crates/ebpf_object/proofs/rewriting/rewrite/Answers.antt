use Rattle.std.proofs.Common.{sym, subst}
use Rattle.btf_sanitize.specs.Answers.{Answers}
use Rattle.ebpf_object.proofs.RefusedTables.{none_answered}
use Rattle.ebpf_object.specs.Rewriting.{AreAnswered}
use Rattle.ebpf_object.proofs.rewriting.rewrite.Goals as goal

pub returns-in_default-clause-answered : goal.returns-in_default-clause-answered
returns-in_default-clause-answered g c =
    subst (λ (answers : Answers). AreAnswered g.F.FnMut c.args.predicate answers) (sym c.new.ensures) (none_answered g.F.FnMut c.args.predicate)
