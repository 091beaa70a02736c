use Rattle.std.proofs.Common.{◌≡◌, ℕ, List, Some, None, sym, ◌∙◌, subst}
use Rattle.string_table.specs.Texts.{text_at}
use Rattle.core_relocation.specs.Relocations.{TypesGiven, section_named}
use Rattle.core_relocation.proofs.lookup.Lookup.section.Goals as goal

pub returns-in-None-clause-refused : goal.returns-in-None-clause-refused
returns-in-None-clause-refused c =
    subst (λ (g : TypesGiven). (x : List ℕ) × (text_at g.local.strings c.args.name_offset ≡ Some x) × (section_named g.file x ≡ None)) c.self.view_is
    (c.in-Ok.name.now, c.in-Ok.ensures, sym (c.self.invariant.at c.in-Ok.name.now) ∙ sym c.in-None.ensures.value)
