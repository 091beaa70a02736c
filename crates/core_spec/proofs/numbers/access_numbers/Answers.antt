use Rattle.std.proofs.Common.{[], refl, sym, rules}
use Rattle.core_spec.specs.AccessStrings.{pieces}
use Rattle.core_spec.proofs.AccessStrings.{cut_pieces, last_number, no_number, one_number, whole_piece}
use Rattle.core_spec.proofs.numbers.access_numbers.Goals as goal

pub returns-in_default-number_in-clause-refused : goal.returns-in_default-number_in-clause-refused
returns-in_default-number_in-clause-refused c =
    let cut = cut_pieces c.loop-piece.rest.now (c.in-Some.piece, c.in-Some.more) c.in-Some.ensures.cases in
    λ _. (refl, no_number c.loop-piece.numbers.items c.loop-piece.rest.now c.in-Some.piece.now (pieces c.in-Some.more.now) _ c.loop-piece.invariant.1 cut (sym c.in_default-number_in.ensures))

pub loop-piece-preserved : goal.loop-piece-preserved
loop-piece-preserved c =
    let cut = cut_pieces c.loop-piece.rest.now (c.in-Some.piece, c.in-Some.more) c.in-Some.ensures.cases in
    let on = one_number c.loop-piece.numbers.items c.loop-piece.rest.now c.in-Some.piece.now c.in-Some-number_in.number (pieces c.in-Some.more.now) _ c.loop-piece.invariant.1 cut (sym c.in-Some-number_in.ensures) in
    (search rules, rw (← c.in_ok-push.ensures.items) at on)

pub returns-in_default-number_in-2-clause-refused : goal.returns-in_default-number_in-2-clause-refused
returns-in_default-number_in-2-clause-refused c =
    let whole = whole_piece c.loop-piece.rest.now c.in_default.ensures.cases in
    λ _. (refl, no_number c.loop-piece.numbers.items c.loop-piece.rest.now c.loop-piece.rest.now [] _ c.loop-piece.invariant.1 whole (sym c.in_default-number_in-2.ensures))

pub returns-clause-value : goal.returns-clause-value
returns-clause-value c =
    let whole = whole_piece c.loop-piece.rest.now c.in_default.ensures.cases in
    let all = last_number c.loop-piece.numbers.items c.loop-piece.rest.now c.in-Some-number_in-2.number _ c.loop-piece.invariant.1 whole (sym c.in-Some-number_in-2.ensures) in
    rw c.in_ok-push-2.ensures.items all
