use Rattle.std.proofs.Common.{◌≡◌, ◌==◌, false, length, rules}
use Rattle.std.specs.Prelude.{is_none}
use Rattle.elf64.specs.Symbols.{symbols_of}
use Rattle.object_file.specs.Symbols.{symbols_in}
use Rattle.object_parse.specs.Programs.{program_kind}
use Rattle.object_parse.proofs.Sound.{if-ok, program-sound}
use Rattle.object_parse.proofs.program_sections.add_programs.Goals as goal

pub returns-clause-accepted : goal.returns-clause-accepted
returns-clause-accepted c =
    let known : is_none (program_kind c.args.section.now) ≡ false = search rules in
    let lie : (length (symbols_in (symbols_of c.args.file.now) c.args.section.now.index) == 0) ≡ false = search rules in
    let same : c.symbols_in-symbols.result.now ≡ symbols_in (symbols_of c.args.file.now) c.args.section.now.index = search rules in
    if-ok c.add_symbols.result
    (λ code. program-sound (symbols_of c.args.file.now) c.args.section.now c.requires known lie code) (rw same at c.add_symbols.ensures.accepted)
