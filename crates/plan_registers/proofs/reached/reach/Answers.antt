use Rattle.std.proofs.Common.{◌∙◌, ℕ, List, ap, map, subst}
use Rattle.std.specs.Prelude.{is_some}
use Rattle.plan_values.specs.Functions.{functions_of}
use Rattle.plan_values.specs.Programs.{Code, numbered}
use Rattle.plan_registers.specs.Reach.{AreReached, Facts, IsLeast, offsets_in}
use Rattle.plan_registers.proofs.Answering.{are_reached}
use Rattle.plan_registers.proofs.reached.reach.Goals as goal

pub returns : goal.returns
returns c =
    let p = c.program.inside in
    let parted : List ℕ → Code = λ (fs : List ℕ). record { slots = p.slots.now; verifier = p.verifier; maps = map numbered p.maps.now; globals = p.global_functions.now; functions = fs } in
    let least : IsLeast (parted (functions_of p.slots.now)) c.in_ok-facts.facts.items = subst (λ (fs : List ℕ). IsLeast (parted fs) c.in_ok-facts.facts.items) (c.deref.ensures.value ∙ c.in_ok-functions.ensures) c.in_ok-facts.ensures in
    subst (λ (code : Code). AreReached code (record { slots = c.in_ok-reached.reached.items; offsets = c.in_ok-loads.loads.items })) c.program.view_is
    (are_reached (parted (functions_of p.slots.now)) c.in_ok-facts.facts.items c.in_ok-reached.reached.items c.in_ok-loads.loads.items least (c.in_ok-reached.ensures ∙ ap (λ (fs : Facts). map is_some fs) (c.deref-3.ensures.value ∙ c.truncate.ensures.items)) (c.in_ok-loads.ensures ∙ ap (λ (fs : Facts). offsets_in p.slots.now fs) c.deref-2.ensures.value))
