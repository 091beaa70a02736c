use Rattle.instruction_text.proofs.ReadBack.{one_instruction}
use Rattle.instruction_text.proofs.laws.texts_are_told_apart.Goals as goal

pub returns : goal.returns
returns c = record { each = λ a c b d s t u v e. one_instruction a b c d s t u v e }
