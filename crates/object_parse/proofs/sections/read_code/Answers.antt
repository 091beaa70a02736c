use Rattle.std.specs.Option.{option_copied}
use Rattle.elf64.specs.Symbols.{symbols_of}
use Rattle.object_file.specs.License.{license_of}
use Rattle.object_file.specs.Version.{version_of}
use Rattle.object_parse.proofs.Complete.{complete_after}
use Rattle.object_parse.proofs.Faultless.{no-section-fault}
use Rattle.object_parse.proofs.Sound.{if-ok}
use Rattle.object_parse.proofs.sections.read_code.Goals as goal

pub returns-clause-complete : goal.returns-clause-complete
returns-clause-complete c =
    complete_after c.add_section.result (license_of c.args.file.now) (version_of c.args.file.now) (option_copied c.args.extension) (symbols_of c.args.file.now) c.args.section.now _ _ _ _ c.add_section.ensures.programs
    c.add_section.ensures.functions

pub returns-clause-accepted : goal.returns-clause-accepted
returns-clause-accepted c =
    if-ok c.add_section.result (λ sound. record { none = no-section-fault (symbols_of c.args.file.now) c.args.section.now sound })
    c.add_section.ensures.accepted
