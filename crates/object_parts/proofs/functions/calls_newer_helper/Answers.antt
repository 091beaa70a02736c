use Rattle.std.proofs.Common.{rules, tests}
use Rattle.std.proofs.lemmas.Iterator.Consumers.{YieldsList-from_first}
use Rattle.std.proofs.lemmas.Iterator.Search.{any_from_yields_List}
use Rattle.ebpf_items.specs.Instruction.{calls_newer_helper}
use Rattle.object_parts.proofs.functions.calls_newer_helper.Goals as goal

pub returns : goal.returns
returns c = any_from_yields_List calls_newer_helper _ _ _ c.any.ensures.ran (YieldsList-from_first (λ x. x) (λ s. s) c.args.slots.now c.iter.ensures) (λ x b q k. search (rules, tests))
