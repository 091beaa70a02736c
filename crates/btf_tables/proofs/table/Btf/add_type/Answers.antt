use Rattle.std.proofs.Common.{◌∷◌, [], ◌++◌, ◌∙◌, ap}
use Rattle.btf_tables.proofs.Added.{added_found, added_stay}
use Rattle.btf_tables.specs.Tables.{Table}
use Rattle.btf_tables.proofs.table.Btf.add_type.Goals as goal

pub returns-clause-found : goal.returns-clause-found
returns-clause-found c =
    let s = c.self.inside in
    let new : Table = record { order = c.push.new.self.order; magic = s.magic; version = s.version; flags = s.flags; strings = s.strings; types = c.push.new.self.types } in
    added_found new c.args.self.now.types c.args.t c.len.result (c.in_ok-push.ensures.types ∙ ap (λ (table : Table). table.types ++ c.args.t ∷ []) c.self.view_is) c.len.ensures.value

pub returns-clause-stay : goal.returns-clause-stay
returns-clause-stay c = added_stay c.args.self.now _ c.args.t (c.in_ok-push.ensures.types ∙ ap (λ (table : Table). table.types ++ c.args.t ∷ []) c.self.view_is)
