use Rattle.elf64.proofs.Named.{symbols_of-AreNamed}
use Rattle.elf64.proofs.Numbered.{symbols_of-AreNumbered}
use Rattle.elf64.proofs.file.ElfFile.symbols.Goals as goal

pub returns-clause-numbered : goal.returns-clause-numbered
returns-clause-numbered c = symbols_of-AreNumbered c.args.self.now

pub returns-clause-named : goal.returns-clause-named
returns-clause-named c = symbols_of-AreNamed c.args.self.now
