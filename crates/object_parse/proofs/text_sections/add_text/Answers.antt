use Rattle.elf64.specs.Symbols.{symbols_of}
use Rattle.object_parse.proofs.PlaceFaults.{if-err, text-fault}
use Rattle.object_parse.proofs.text_sections.add_text.Goals as goal

pub returns-clause-refused : goal.returns-clause-refused
returns-clause-refused c =
    if-err c.add_each.result
    (λ e fault other. text-fault (symbols_of c.args.file.now) c.args.section.now c.requires e (fault other)) c.add_each.ensures.refused
