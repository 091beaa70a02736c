use Rattle.elf64.proofs.Named.{sections_of-AreNamed}
use Rattle.elf64.proofs.Numbered.{sections_of-AreNumbered}
use Rattle.elf64.proofs.file.ElfFile.sections.Goals as goal

pub returns-clause-numbered : goal.returns-clause-numbered
returns-clause-numbered c = sections_of-AreNumbered c.args.self.now

pub returns-clause-named : goal.returns-clause-named
returns-clause-named c = sections_of-AreNamed c.args.self.now
