use Rattle.slot_relocation.proofs.Written.{slots_carry_numbers}
use Rattle.slot_relocation.proofs.laws.slots_carry_numbers.Goals as goal

pub returns : goal.returns
returns c = slots_carry_numbers
