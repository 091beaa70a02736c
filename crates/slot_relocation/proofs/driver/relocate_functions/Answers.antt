use Rattle.std.proofs.Common.{refl, subst, sym}
use Rattle.object_parts.specs.Installed.{AreThere, Installed}
use Rattle.slot_relocation.specs.Walks.{changed}
use Rattle.slot_relocation.proofs.driver.relocate_functions.Goals as goal

pub install-requires : goal.install-requires
install-requires g c =
    let old = c.args.functions.now in
    let change = changed (g.P.Rule.rule c.args.pass.now) (g.P.Pass.inside c.args.pass.now) in
    subst (AreThere old) (sym c.in_ok-list.ensures.value) (c.changes_are_installed.ensures.there change old (λ f. refl) c.in_ok-list.ensures.keyed)

pub returns-clause-relocated : goal.returns-clause-relocated
returns-clause-relocated g c =
    let old = c.args.functions.now in
    let change = changed (g.P.Rule.rule c.args.pass.now) (g.P.Pass.inside c.args.pass.now) in
    c.changes_are_installed.ensures.changed change old c.install.new.self (λ f. refl) c.in_ok-list.ensures.keyed (subst (Installed old c.install.new.self) c.in_ok-list.ensures.value c.install.ensures)
