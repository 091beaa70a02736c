use Rattle.std.proofs.Common.{arith}
use Rattle.std.proofs.lemmas.Int.{ints}
use Rattle.plan_values.proofs.Indexes.{index_low, index_high, index_inside}
use Rattle.plan_values.proofs.program.index_in.Goals as goal

pub returns-then-slot-lt0 : goal.returns-then-slot-lt0
returns-then-slot-lt0 c = index_low c.args.len c.args.slot (omega (arith, ints))

pub returns-then-slot-len : goal.returns-then-slot-len
returns-then-slot-len c = index_high c.args.len c.args.slot (omega (arith, ints))

pub returns : goal.returns
returns c = index_inside c.args.len _ c.args.slot (omega (arith, ints)) (omega (arith, ints))
