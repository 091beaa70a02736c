use Rattle.linker.specs.Linked.{program_keys, unlinked}
use Rattle.linker.proofs.Installs.{are_linked, are_there}
use Rattle.linker.proofs.linking.relocate_calls.Goals as goal

pub install-requires : goal.install-requires
install-requires c =
    are_there (unlinked c.args.file.now c.args.text_sections.now.keys c.args.functions.now) (program_keys c.args.programs.now) c.in_ok-linked.linked.items c.in_ok-linked.ensures.linked

pub returns-clause-linked : goal.returns-clause-linked
returns-clause-linked c =
    are_linked (unlinked c.args.file.now c.args.text_sections.now.keys c.args.functions.now) (program_keys c.args.programs.now) c.in_ok-linked.linked.items c.install.new.self c.in_ok-linked.ensures.linked c.install.ensures
