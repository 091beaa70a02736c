use Rattle.std.proofs.Common.{◌≡◌, ◌++◌, length, take, drop}
use Rattle.plan_values.specs.Knowledge.{meet}
use Rattle.plan_values.proofs.known.meet.Given as goal

abbrev pub invariant-loop-i : goal.invariant-loop-i
invariant-loop-i l =
    record {
      met : l.met ≡ meet (take l.i l.fn.a) l.b ++ drop l.i l.fn.a;
      left : length l.fn.a ≡ 32;
      right : length l.b ≡ 32;
    }
