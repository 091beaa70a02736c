use Rattle.std.proofs.Common.{arith, ◌≤◌, ◌∙◌, sym, ap, subst, length, inl}
use Rattle.std.proofs.lemmas.Iterator.Consumers.{YieldsList-from_rest, count_from_yields_List}
use Rattle.slot_relocation.proofs.OffsetRanges.{number_between}
use Rattle.slot_relocation.proofs.Rising.{few_before}
use Rattle.slot_relocation.proofs.errors.number_of.Goals as goal

pub count-requires-clause-fits : goal.count-requires-clause-fits
count-requires-clause-fits c =
    let few : length c.relocations_in.result ≤ c.args.offset =
    subst (λ n. n ≤ c.args.offset) (sym (ap length c.relocations_in.ensures ∙ number_between c.args.file.now c.args.section_index c.args.offset)) (few_before c.args.file.now c.args.section_index c.args.offset) in
    let fits = c.ranges.offset.fits in
    inl (omega arith)

pub returns : goal.returns
returns c =
    count_from_yields_List _ _ c.count.ensures.ran (YieldsList-from_rest _ c.relocations_in.ensures)
    ∙ number_between c.args.file.now c.args.section_index c.args.offset
