use Rattle.std.proofs.Common.{arith}
use Rattle.std.specs.Prelude.{nat_lt}
use Rattle.std.proofs.lemmas.Bool.Decides.{nat_tests}
use Rattle.linker.proofs.Gets.{any_here, any_more, any_none}
use Rattle.linker.proofs.records.goes_back.Goals as goal

pub returns-then-line-first : goal.returns-then-line-first
returns-then-line-first c = any_here (λ r. nat_lt r.insn_off c.in-Some.first.insn_off) c.args.lines.now c.loop-line.index c.in-Some-get.line _ c.in-Some-get.ensures.value (grind (arith, nat_tests)) c.loop-line.invariant

pub loop-line-preserved : goal.loop-line-preserved
loop-line-preserved c = any_more (λ r. nat_lt r.insn_off c.in-Some.first.insn_off) c.args.lines.now c.loop-line.index c.in-Some-get.line _ c.in-Some-get.ensures.value (grind (arith, nat_tests)) c.loop-line.invariant

pub returns : goal.returns
returns c = any_none (λ r. nat_lt r.insn_off c.in-Some.first.insn_off) c.args.lines.now c.loop-line.index _ c.in_default-get.ensures.value c.loop-line.invariant
