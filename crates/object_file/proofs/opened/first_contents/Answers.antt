use Rattle.std.proofs.Common.{◌≡◌, Some, false, ap, sym, ◌∙◌}
use Rattle.std.specs.List.{list_any}
use Rattle.std.specs.Prelude.{is_none}
use Rattle.elf64.specs.Relocations.{relocations_of}
use Rattle.object_file.specs.Relocations.{has_relocation_without_symbol, lacks_symbol}
use Rattle.object_file.proofs.FirstFaults.{sound_first}
use Rattle.object_file.proofs.opened.first_contents.Goals as goal

pub returns-in-Ok-2-clause-accepted : goal.returns-in-Ok-2-clause-accepted
returns-in-Ok-2-clause-accepted c =
    let contents : is_none c.in-Some.section.contents ≡ false = ap is_none c.in-Ok-2.ensures in
    let related : has_relocation_without_symbol c.args.elf.now c.in-Some.section ≡ false =
    ap (λ i. list_any lacks_symbol (relocations_of c.args.elf.now i)) (sym c.index-index.ensures)
    ∙ ap (list_any lacks_symbol) (sym (c.requires.at c.index-index.result))
    ∙ sym c.lacks_symbol.ensures
    ∙ c.if-lacks_symbol.false in
    sound_first c.args.elf.now c.args.name.now (Some c.in-Some.section) (sym c.section_by_name.ensures ∙ c.in-Some.is) (contents, related)
