use Rattle.std.proofs.Common.{ap, ◌∙◌}
use Rattle.string_table.specs.Names.{by_bytes}
use Rattle.kernel_symbols.specs.Wanted.{mark}
use Rattle.kernel_symbols.proofs.WantedLemmas.{entered_under, marked_more}
use Rattle.kernel_symbols.proofs.WantedValues.{written}
use Rattle.kernel_symbols.proofs.wanted_names.want.Goals as goal

pub returns-clause-wanted : goal.returns-clause-wanted
returns-clause-wanted c = λ other. entered_under c.args.name.now c.as_bytes-2.result.now other _ _ _ c.as_bytes-2.ensures.value (written c.as_bytes-2.result.now other c.args.names.now c.insert.new.self _ c.in_ok-insert.ensures.updates)

pub returns-clause-marked : goal.returns-clause-marked
returns-clause-marked c = marked_more c.args.name.now _ c.args.is_wanted.now (by_bytes c.args.names.now.entries) _ c.mark.result (c.mark.ensures.value ∙ ap mark c.as_bytes.ensures.value) c.mark.ensures.small (returns-clause-wanted c) c.requires
