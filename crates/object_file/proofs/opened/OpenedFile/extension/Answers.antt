use Rattle.object_file.proofs.FirstFaults.{extension_fault}
use Rattle.object_file.proofs.opened.OpenedFile.extension.Goals as goal

pub returns-clause-value : goal.returns-clause-value
returns-clause-value c = rw (← c.self.view_is) c.first_contents.ensures.value

pub returns-clause-refused : goal.returns-clause-refused
returns-clause-refused c =
    rw (← c.self.view_is) (extension_fault c.self.inside.elf c.self.invariant.openable.faultless (rw c.self.view_is c.requires) c.first_contents.result c.first_contents.ensures.refused)
