use Rattle.instruction_text.proofs.ReadBack.{result_again, result_is}
use Rattle.instruction_text.proofs.reading.read_instruction.Goals as goal

pub returns-clause-found : goal.returns-clause-found
returns-clause-found c =
    result_is c.instruction_in.result c.as_bytes.result.now c.args.text.now c.as_bytes.ensures.value c.instruction_in.ensures

pub returns-clause-again : goal.returns-clause-again
returns-clause-again c =
    result_again c.instruction_in.result c.as_bytes.result.now c.args.text.now c.as_bytes.ensures.value c.instruction_in.ensures
