use Rattle.std.proofs.Common.{refl}
use Rattle.morvezin.proofs.Numbers.{has_none}
use Rattle.morvezin.proofs.preparing.number_file.Goals as goal

pub returns-in_ok-_fault-in-Err-clause-numbers : goal.returns-in_ok-_fault-in-Err-clause-numbers
returns-in_ok-_fault-in-Err-clause-numbers c =
    has_none c.args.file.now c.in-Err.error _ _ (c.in-Err.ensures.refused c.in_ok-_fault-in-Err.ensures.fault.1) refl
