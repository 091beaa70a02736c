use Rattle.std.proofs.Common.{◌≡◌, ◌≢◌, Bool, true, false, Ok, Err, Result, Some, None, IfErr, IsErrAnd, reverse, sym, subst, refl, ap, arith}
use Rattle.std.proofs.lemmas.Grind.{common_steps}
use Rattle.btf_compatibility.specs.declared.pairs.OpenPair.{OpenPair}
use Rattle.btf_compatibility.proofs.Ids.{below, end-known}
use Rattle.btf_compatibility.proofs.Steps.{steps-advanced, steps-opened, steps-settled}
use Rattle.btf_compatibility.proofs.Walks.{at_part, begins, final_err, final_no, finished, found, found_final, found_open, not_entered, popped, pushed, reversed, unchanged, walk_advances, walk_opens, walk_settles}
use Rattle.btf_tables.specs.ResolvedTypes.{max_depth}
use Rattle.btf_records.specs.declared.error.BtfError.{BtfError}
use Rattle.btf_records.specs.declared.error.BtfError.TheVariants.{OutOfMemory}
use Rattle.btf_compatibility.proofs.compatibility.ends_are_compatible.Goals as goal

-- An error that is passed on.
refused : {answer : Result Bool BtfError} (result : Result Bool BtfError) (e : BtfError)
    → IsErrAnd result (λ f. f ≡ e) → (e ≢ OutOfMemory → answer ≡ Err e)
    → IfErr result (λ f. f ≢ OutOfMemory → answer ≡ Err f)
refused (Ok b) e same h = tt
refused {answer} (Err f) e same h =
    subst (λ (x : BtfError). x ≢ OutOfMemory → answer ≡ Err x) (sym same) h

pub returns-in_err-enter-clause-refused : goal.returns-in_err-enter-clause-refused
returns-in_err-enter-clause-refused c =
    let at = begins c.args.local.now c.args.target.now c.args.asked
    (c.args.local_id, c.args.target_id) c.new-pairs.ensures.states in
    refused _ _ c.from_residual-in_err-enter.ensures.1
    (λ other.
    found_final _ at _ _ c.in_ok-first_left.ensures c.in_ok-first_right.ensures
    (not_entered _ _ c.new-pairs.ensures.states) _ (final_err _) (c.in_err-enter.ensures.refused other))

pub returns-then-not-branch-clause-answer : goal.returns-then-not-branch-clause-answer
returns-then-not-branch-clause-answer c =
    let at = begins c.args.local.now c.args.target.now c.args.asked
    (c.args.local_id, c.args.target_id) c.new-pairs.ensures.states in
    found_final _ at _ _ c.in_ok-first_left.ensures c.in_ok-first_right.ensures
    (not_entered _ _ c.new-pairs.ensures.states) _ final_no (grind (arith, common_steps))

pub loop-pair-init : goal.loop-pair-init
loop-pair-init c =
    let at = begins c.args.local.now c.args.target.now c.args.asked
    (c.args.local_id, c.args.target_id) c.new-pairs.ensures.states in
    pushed _ _
    (walk_opens _ at _ _ c.in_ok-first_left.ensures c.in_ok-first_right.ensures
    (not_entered _ _ c.new-pairs.ensures.states) (grind (arith, common_steps))
    (c.in_ok-enter.ensures.state (grind (arith, common_steps))))
    (ap (reverse {A = OpenPair}) c.new-pairs.ensures.open)
    (c.in_ok-enter.ensures.pushed (grind (arith, common_steps)))

pub loop-pair-smaller-in_default-next_parts : goal.loop-pair-smaller-in_default-next_parts
loop-pair-smaller-in_default-next_parts c =
    steps-settled c.args.local.now c.args.target.now _ _ _ c.pop.new.self.items _ c.in-Some.pair
    c.in-Some.ensures.items c.in_ok-settle.ensures.open c.in_ok-settle.ensures.state

pub loop-pair-preserved-in_default-next_parts : goal.loop-pair-preserved-in_default-next_parts
loop-pair-preserved-in_default-next_parts c =
    let walk = popped _ _ _ c.loop-pair.invariant c.in-Some.ensures.items in
    unchanged _ _ (walk_settles walk (grind (arith, common_steps)) c.in_ok-settle.ensures.state)
    c.in_ok-settle.ensures.open

pub returns-in_err-left-clause-refused : goal.returns-in_err-left-clause-refused
returns-in_err-left-clause-refused c =
    let at = at_part (popped _ _ _ c.loop-pair.invariant c.in-Some.ensures.items) _
    c.in-Some-next_parts.ensures.value in
    refused _ _ c.from_residual-in_err-left.ensures.1
    (λ other. found _ at _ (final_err _) (rw (sym c.in_err-left.ensures) refl))

pub returns-in_err-right-clause-refused : goal.returns-in_err-right-clause-refused
returns-in_err-right-clause-refused c =
    let at = at_part (popped _ _ _ c.loop-pair.invariant c.in-Some.ensures.items) _
    c.in-Some-next_parts.ensures.value in
    refused _ _ c.from_residual-in_err-right.ensures.1
    (λ other.
    found _ at _ (final_err _) (rw (sym c.in_ok-left.ensures, sym c.in_err-right.ensures) refl))

pub loop-pair-smaller-in_ok-push-in-Some-Settled :
    goal.loop-pair-smaller-in_ok-push-in-Some-Settled
loop-pair-smaller-in_ok-push-in-Some-Settled c =
    steps-advanced c.args.local.now c.args.target.now _ _ _ c.pop.new.self.items _ c.in-Some.pair
    c.in-Some.ensures.items _ c.in-Some-next_parts.ensures.value
    c.in_ok-push-in-Some-Settled.ensures.items refl

pub loop-pair-preserved-in_ok-push-in-Some-Settled :
    goal.loop-pair-preserved-in_ok-push-in-Some-Settled
loop-pair-preserved-in_ok-push-in-Some-Settled c =
    let walk = popped _ _ _ c.loop-pair.invariant c.in-Some.ensures.items in
    pushed _ _
    (walk_advances walk _ c.in-Some-next_parts.ensures.value _ _ c.in_ok-left.ensures
    c.in_ok-right.ensures (grind (arith, common_steps)))
    refl c.in_ok-push-in-Some-Settled.ensures.items

pub returns-in-Some-Open-clause-refused : goal.returns-in-Some-Open-clause-refused
returns-in-Some-Open-clause-refused c =
    let at = at_part (popped _ _ _ c.loop-pair.invariant c.in-Some.ensures.items) _
    c.in-Some-next_parts.ensures.value in
    λ other.
    found_open _ at _ _ c.in_ok-left.ensures c.in_ok-right.ensures (grind (arith, common_steps))

pub returns-in_err-enter-in-None-clause-refused : goal.returns-in_err-enter-in-None-clause-refused
returns-in_err-enter-in-None-clause-refused c =
    let at = at_part (popped _ _ _ c.loop-pair.invariant c.in-Some.ensures.items) _
    c.in-Some-next_parts.ensures.value in
    refused _ _ c.from_residual-in_err-enter-in-None.ensures.1
    (λ other.
    found_final _ at _ _ c.in_ok-left.ensures c.in_ok-right.ensures c.in-None.ensures _
    (final_err _) (c.in_err-enter-in-None.ensures.refused other))

pub returns-then-not-branch-2-clause-answer : goal.returns-then-not-branch-2-clause-answer
returns-then-not-branch-2-clause-answer c =
    let at = at_part (popped _ _ _ c.loop-pair.invariant c.in-Some.ensures.items) _
    c.in-Some-next_parts.ensures.value in
    found_final _ at _ _ c.in_ok-left.ensures c.in_ok-right.ensures c.in-None.ensures _ final_no
    (grind (arith, common_steps))

pub loop-pair-smaller : goal.loop-pair-smaller
loop-pair-smaller c =
    steps-opened c.args.local.now c.args.target.now _ _ _ c.pop.new.self.items _ c.in-Some.pair
    c.in-Some.ensures.items _ _ _ c.in_ok-push-in-None.ensures.items
    (c.in_ok-enter-in-None.ensures.pushed (grind (arith, common_steps)))
    (c.in_ok-enter-in-None.ensures.state (grind (arith, common_steps)))
    (below _ _ (end-known max_depth _ c.args.asked _ _ (sym c.in_ok-left.ensures)))
    (below _ _ (end-known max_depth _ c.args.asked _ _ (sym c.in_ok-right.ensures)))
    c.in-None.ensures

pub loop-pair-preserved : goal.loop-pair-preserved
loop-pair-preserved c =
    let at = at_part (popped _ _ _ c.loop-pair.invariant c.in-Some.ensures.items) _
    c.in-Some-next_parts.ensures.value in
    pushed _ _
    (walk_opens _ at _ _ c.in_ok-left.ensures c.in_ok-right.ensures c.in-None.ensures
    (grind (arith, common_steps)) (c.in_ok-enter-in-None.ensures.state (grind (arith, common_steps))))
    (reversed _ _ _ c.in_ok-push-in-None.ensures.items)
    (c.in_ok-enter-in-None.ensures.pushed (grind (arith, common_steps)))

pub returns-clause-answer : goal.returns-clause-answer
returns-clause-answer c = finished c.loop-pair.pairs.open.items c.loop-pair.invariant (grind (arith, common_steps))
