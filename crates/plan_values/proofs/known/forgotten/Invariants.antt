use Rattle.std.proofs.Common.{◌≡◌, ◌++◌, ◌-◌, length, replicate, take}
use Rattle.plan_values.specs.declared.value.Value.TheVariants as value
use Rattle.plan_values.proofs.known.forgotten.Given as goal

abbrev pub invariant-loop-i : goal.invariant-loop-i
invariant-loop-i l =
    record {
      new : l.new ≡ take l.i l.known ++ replicate (32 - l.i) value.Unknown;
      size : length l.known ≡ 32;
    }
