use Rattle.kernel_symbols.proofs.Utf8.{is_text}
use Rattle.kernel_symbols.proofs.line.is_text.Goals as goal

pub returns : goal.returns
returns c = is_text _ _ _ _ c.from_utf8.ensures.cases c.is_ok.ensures.value
