use Rattle.std.proofs.Common.{rules, ◌≡◌, ◌∙◌, ap, flat_map}
use Rattle.code_listing.specs.Listing.{own_slots}
use Rattle.code_listing.proofs.Listings.{all_slots, if_ok}
use Rattle.code_listing.proofs.listed.listed_instructions.Goals as goal

pub returns-clause-whole : goal.returns-clause-whole
returns-clause-whole c =
    let all : c.deref.result.now ≡ c.args.slots.now = search rules in
    if_ok _ _ c.all_listed.result (λ list is. ap (flat_map own_slots) is ∙ (all_slots 0 c.deref.result.now ∙ all)) c.all_listed.ensures
