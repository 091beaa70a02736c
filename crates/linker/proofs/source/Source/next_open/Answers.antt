use Rattle.std.proofs.Common.{◌<◌, ◌≤◌, length, sym, ap, ◌∙◌, arith}
use Rattle.linker.specs.Layout.{first_open}
use Rattle.linker.specs.Unlinked.{refs_of}
use Rattle.linker.specs.Walks.{has_start_in}
use Rattle.std.proofs.lemmas.List.{take_all}
use Rattle.linker.proofs.Opens.{is_open, still_closed, refs_length}
use Rattle.linker.proofs.source.Source.next_open.Goals as goal

pub returns-in-Some-clause-some : goal.returns-in-Some-clause-some
returns-in-Some-clause-some c =
    let refs = refs_of c.args.self.now c.args.function.now in
    let n = refs_length c.args.self.now c.args.function.now 0 c.args.function.now.instructions in
    let lt : c.loop-slot.slot < length refs = omega (arith, n, c.loop-slot-test.true, c.slot_count-slot-end.ensures) in
    is_open (has_start_in c.args.starts.now) refs c.loop-slot.slot c.in-Some.key lt (sym c.in-Some.is ∙ c.in_ok-key.ensures.found) c.loop-slot.invariant

pub loop-slot-preserved : goal.loop-slot-preserved
loop-slot-preserved c =
    let refs = refs_of c.args.self.now c.args.function.now in
    let n = refs_length c.args.self.now c.args.function.now 0 c.args.function.now.instructions in
    let lt : c.loop-slot.slot < length refs = omega (arith, n, c.loop-slot-test.true, c.slot_count-slot-end.ensures) in
    still_closed (has_start_in c.args.starts.now) refs c.loop-slot.slot lt (sym c.in_default.is ∙ c.in_ok-key.ensures.found) c.loop-slot.invariant

pub returns-clause-none : goal.returns-clause-none
returns-clause-none c =
    let refs = refs_of c.args.self.now c.args.function.now in
    let n = refs_length c.args.self.now c.args.function.now 0 c.args.function.now.instructions in
    let le : length refs ≤ c.loop-slot.slot = omega (arith, n, c.loop-slot-test.false, c.slot_count-slot-end.ensures) in
    ap (first_open (has_start_in c.args.starts.now)) (sym (take_all c.loop-slot.slot refs le)) ∙ c.loop-slot.invariant
