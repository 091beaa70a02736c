use Rattle.std.proofs.Common.{◌≡◌, ◌∷◌, [], rules, ◌∙◌}
use Rattle.btf_search.specs.NamedTypes.{named_ids_at}
use Rattle.report_needs.proofs.Firsts.{first_of_found}
use Rattle.report_needs.proofs.records.first_named.Goals as goal

pub returns : goal.returns
returns c =
    let found : c.as_slice.result.now ≡ named_ids_at (c.args.kind ∷ []) c.essential_name.result.now c.args.types.now 0 = search rules in
    c.first_named_among.ensures ∙ first_of_found c.args.kernel.now c.args.types.now c.args.kind c.args.name.now c.essential_name.result.now c.as_slice.result.now c.requires c.essential_name.ensures found
