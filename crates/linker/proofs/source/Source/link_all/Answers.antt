use Rattle.std.proofs.Common.{◌≡◌, ◌++◌, ◌∷◌, [], sym, ◌∙◌, subst, ap, append_assoc}
use Rattle.std.proofs.lemmas.Result.{err_from_is_err_and}
use Rattle.object_parts.specs.Content.{HaveFunctions}
use Rattle.object_parts.specs.Names.{by_bytes}
use Rattle.linker.specs.Installed.{AreLinkedTo}
use Rattle.linker.specs.Linked.{program_keys}
use Rattle.linker.proofs.Installs.{Program, can_more, fault_of, have_at, linked_more}
use Rattle.linker.proofs.source.Source.link_all.Goals as goal

pub link_program-requires : goal.link_program-requires
link_program-requires c =
    let done = c.loop-name.invariant.0 in
    let p : Program = (c.in-Some.name.now.now, c.in-Some.program.now) in
    let split : done ++ (p ∷ by_bytes c.next.new.self) ≡ c.args.programs.now = ap (λ l. done ++ by_bytes l) (sym c.in-Some.ensures.steps) ∙ c.loop-name.invariant.1.0 in
    have_at done p (by_bytes c.next.new.self) c.args.self.now.functions (subst (λ l. HaveFunctions l c.args.self.now.functions) (sym split) c.requires)

pub returns-in_err-function-clause-fault : goal.returns-in_err-function-clause-fault
returns-in_err-function-clause-fault c =
    let done = c.loop-name.invariant.0 in
    let p : Program = (c.in-Some.name.now.now, c.in-Some.program.now) in
    let split : done ++ (p ∷ by_bytes c.next.new.self) ≡ c.args.programs.now = ap (λ l. done ++ by_bytes l) (sym c.in-Some.ensures.steps) ∙ c.loop-name.invariant.1.0 in
    let q = err_from_is_err_and c.from_residual.result c.from_residual.ensures.1 in
    rw (q.1, q.2) (λ no.
    let f = c.in_err-function.ensures.fault no in
    fault_of c.args.self.now done p (by_bytes c.next.new.self) c.args.programs.now _ c.in_err-function.field-0.0.error split f.0 f.1)

pub loop-name-preserved : goal.loop-name-preserved
loop-name-preserved c =
    let done = c.loop-name.invariant.0 in
    let p : Program = (c.in-Some.name.now.now, c.in-Some.program.now) in
    let split : done ++ (p ∷ by_bytes c.next.new.self) ≡ c.args.programs.now = ap (λ l. done ++ by_bytes l) (sym c.in-Some.ensures.steps) ∙ c.loop-name.invariant.1.0 in
    let made = linked_more c.args.self.now done c.loop-name.linked.items p c.in_ok-function.function c.loop-name.invariant.1.1 c.in_ok-function.ensures.linked in
    (done ++ (p ∷ []), (append_assoc done (p ∷ []) (by_bytes c.next.new.self) ∙ split, subst (AreLinkedTo c.args.self.now (program_keys (done ++ (p ∷ [])))) (sym c.in_ok-push.ensures.items) made, can_more c.args.self.now done p c.loop-name.invariant.1.2 c.in_ok-function.ensures.sound))
