use Rattle.std.proofs.Common.{sym, ap, ◌∙◌, cond, Some, None}
use Rattle.linker.specs.Walks.{has_start_in, open_in}
use Rattle.linker.proofs.Opens.{open_ref}
use Rattle.linker.proofs.source.Source.open_at.Goals as goal

pub returns-in_default-clause-found : goal.returns-in_default-clause-found
returns-in_default-clause-found c =
    let p = has_start_in c.args.starts.now in
    sym (open_ref c.args.self.now c.args.function.now p c.args.index c.slot_at-slot.result c.in_ok-key.field-0 c.slot_at-slot.ensures c.in_ok-key.ensures.found ∙ ap (open_in p) c.in_default.is)

pub returns-then-contains_key-clause-found : goal.returns-then-contains_key-clause-found
returns-then-contains_key-clause-found c =
    let p = has_start_in c.args.starts.now in
    sym (open_ref c.args.self.now c.args.function.now p c.args.index c.slot_at-slot.result c.in_ok-key.field-0 c.slot_at-slot.ensures c.in_ok-key.ensures.found ∙ ap (open_in p) c.in-Some.is ∙ ap (λ b. cond b None (Some c.in-Some.key)) (sym c.contains_key.ensures ∙ c.if-contains_key.true))

pub returns-clause-found : goal.returns-clause-found
returns-clause-found c =
    let p = has_start_in c.args.starts.now in
    sym (open_ref c.args.self.now c.args.function.now p c.args.index c.slot_at-slot.result c.in_ok-key.field-0 c.slot_at-slot.ensures c.in_ok-key.ensures.found ∙ ap (open_in p) c.in-Some.is ∙ ap (λ b. cond b None (Some c.in-Some.key)) (sym c.contains_key.ensures ∙ c.if-contains_key.false))
