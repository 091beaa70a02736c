use Rattle.std.proofs.Common.{sym, ◌∙◌}
use Rattle.linker.proofs.Alone.{none_of}
use Rattle.linker.proofs.linking.is_alone.Goals as goal

pub returns : goal.returns
returns c = λ lone. sym c.as_slice.ensures.value ∙ none_of c.as_slice.result.now (sym c.is_empty.ensures ∙ lone)
