use Rattle.std.proofs.Common.{refl, subst, sym}
use Rattle.object_parts.specs.Installed.{AreThere, Installed}
use Rattle.core_relocation.specs.Relocations.{types_given}
use Rattle.core_relocation.specs.Writes.{with_types}
use Rattle.core_relocation.proofs.relocation.relocate_section_infos.Goals as goal

pub install-requires : goal.install-requires
install-requires c =
    let old = c.args.functions.now in
    let change = with_types (types_given c.args.file.now old c.args.local.now c.args.targets.now) c.args.section_infos.now in
    subst (AreThere old) (sym c.in_ok-list.ensures.value) (c.changes_are_installed.ensures.there change old (λ f. refl) c.in_ok-list.ensures.keyed)

pub returns-clause-relocated : goal.returns-clause-relocated
returns-clause-relocated c =
    let old = c.args.functions.now in
    let change = with_types (types_given c.args.file.now old c.args.local.now c.args.targets.now) c.args.section_infos.now in
    c.changes_are_installed.ensures.changed change old c.install.new.self (λ f. refl) c.in_ok-list.ensures.keyed (subst (Installed old c.install.new.self) c.in_ok-list.ensures.value c.install.ensures)
