use Rattle.std.proofs.Common.{◌++◌, ◌∷◌, [], sym, ap, ◌∙◌, subst, append_assoc, append-nil}
use Rattle.slot_relocation.specs.declared.driver.FaultAt.{FaultAt}
use Rattle.slot_relocation.specs.Walks.{AllSound, AreWalked, IsFaultIn, IsRefusal}
use Rattle.slot_relocation.proofs.Walk.{Entry, can_be, fault_met, walked_on}
use Rattle.slot_relocation.proofs.driver.relocated_functions.Goals as goal

pub loop-function-preserved-in-Continue-1 : goal.loop-function-preserved-in-Continue-1
loop-function-preserved-in-Continue-1 g c =
    let done = c.loop-function.invariant.0 in
    let e : Entry = (c.in-Some.field-0-0.now, c.in-Some.function.now) in
    let list = c.loop-function.list.items in (
      done ++ (e ∷ []),
      (
        append_assoc done (e ∷ []) c.next.new.self ∙ ap (λ l. done ++ l) (sym c.in-Some.ensures.steps) ∙ c.loop-function.invariant.1.0,
        walked_on (g.P.Rule.rule c.args.pass.now) (g.P.Pass.inside c.args.pass.now) done e list c.push.new.self.items c.loop-function.first c.loop-function.invariant.1.1 (c.in_ok-push-in-Ok.ensures.items ∙ ap (λ f. list ++ (f ∷ [])) c.in-Ok.ensures.value) c.in-Ok.ensures.sound,
      ),
    )

pub loop-function-preserved : goal.loop-function-preserved
loop-function-preserved g c =
    let done = c.loop-function.invariant.0 in
    let e : Entry = (c.in-Some.field-0-0.now, c.in-Some.function.now) in
    let met : FaultAt g.row.E.Denot = record { function = c.function.inside.name; section_index = c.function.inside.section_index; offset = c.in-Err-Fault.offset; fault = c.in-Err-Fault.fault } in (
      done ++ (e ∷ []),
      (
        append_assoc done (e ∷ []) c.next.new.self ∙ ap (λ l. done ++ l) (sym c.in-Some.ensures.steps) ∙ c.loop-function.invariant.1.0,
        rw c.first_of.ensures (fault_met (g.P.Rule.rule c.args.pass.now) (g.P.Pass.inside c.args.pass.now) done e c.loop-function.list.items (g.P.Pass.before c.args.pass.now) c.loop-function.first met c.loop-function.invariant.1.1 (ap (λ g. g.name) c.function.view_is, ap (λ g. g.section_index) c.function.view_is, subst (IsRefusal (g.P.Rule.rule c.args.pass.now) (g.P.Pass.inside c.args.pass.now e.1) e.1) c.in-Err-Fault.field-0-is c.in-Err-Fault.ensures.refused)),
      ),
    )

pub returns-in-Some-first-clause-fault : goal.returns-in-Some-first-clause-fault
returns-in-Some-first-clause-fault g c =
    let rule = g.P.Rule.rule c.args.pass.now in
    let inside = g.P.Pass.inside c.args.pass.now in
    let done = c.loop-function.invariant.0 in
    let at = c.in-Some-first.at in
    let all = sym (append-nil done) ∙ ap (λ l. done ++ l) (sym c.in-None.ensures.steps.0) ∙ c.loop-function.invariant.1.0 in
    let met = subst (AreWalked rule inside done c.loop-function.list.items) c.in-Some-first.is c.loop-function.invariant.1.1 in
    subst (λ l. IsFaultIn rule inside l at) all met

pub returns-clause-sound : goal.returns-clause-sound
returns-clause-sound g c =
    let rule = g.P.Rule.rule c.args.pass.now in
    let inside = g.P.Pass.inside c.args.pass.now in
    let done = c.loop-function.invariant.0 in
    let all = sym (append-nil done) ∙ ap (λ l. done ++ l) (sym c.in-None.ensures.steps.0) ∙ c.loop-function.invariant.1.0 in
    let sound = subst (AreWalked rule inside done c.loop-function.list.items) c.in-None-first.is c.loop-function.invariant.1.1 in
    can_be rule inside c.args.functions.now (subst (AllSound rule inside) all sound.1)
