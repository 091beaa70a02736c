use Rattle.std.proofs.Common.{◌++◌, ap, ◌∙◌, List, ℕ}
use Rattle.btf_tables.specs.Tables.{Table}
use Rattle.btf_tables.proofs.Texts.{texts_after}
use Rattle.btf_tables.proofs.table.Btf.with_records.Goals as goal

pub returns-clause-stay : goal.returns-clause-stay
returns-clause-stay c = texts_after c.args.self.now _ c.args.texts.now (c.in_ok-with_texts.ensures ∙ ap (λ (s : List ℕ). s ++ c.args.texts.now) (ap (λ (t : Table). t.strings) c.self.view_is))
