use Rattle.std.proofs.Common.{◌≡◌, ◌+◌, Err, length, arith, sym, ap, ◌∙◌}
use Rattle.std.proofs.lemmas.Grind.{common_steps}
use Rattle.core_spec.specs.declared.error.AccessError.TheVariants.{BtfError as TypeError}
use Rattle.btf_records.specs.declared.error.BtfError.{BtfError}
use Rattle.core_match.specs.Looks.{searched}
use Rattle.core_match.proofs.Turns.{HasNext, done, refused-err, refused-look, refused-unknown, refused_by, same-member, turned-ok}
use Rattle.core_match.proofs.turn.next_member.Goals as goal

pub returns-in_err-t-clause-refused : goal.returns-in_err-t-clause-refused
returns-in_err-t-clause-refused c =
    let search = searched c.args.local.now c.args.type_id c.args.name.now c.args.target.now in
    refused_by _ _ (TypeError c.in_err-t.field-0.0)
    (λ _. refused-unknown search c.args.memory.now.outer.items c.args.frame c.in_err-t.ensures.1 ∙ ap (λ (e : BtfError). Err (TypeError e)) (sym c.in_err-t.ensures.0))
    c.from_residual.ensures.1

pub returns-in_default-clause-turn : goal.returns-in_default-clause-turn
returns-in_default-clause-turn c =
    let search = searched c.args.local.now c.args.type_id c.args.name.now c.args.target.now in
    done search c.args.memory.now.nothing.keys c.args.memory.now.outer.items c.args.frame c.in_ok-t.t c.in_ok-turn.turn _ _ c.requires c.in_ok-t.ensures c.in_default.ensures.value c.in_ok-turn.ensures

pub returns-in_err-seen-clause-refused : goal.returns-in_err-seen-clause-refused
returns-in_err-seen-clause-refused c =
    let search = searched c.args.local.now c.args.type_id c.args.name.now c.args.target.now in
    let next : HasNext search c.args.frame c.in_ok-t.t c.in-Some.member = record { known = c.in_ok-t.ensures; here = c.in-Some.ensures.value } in
    refused_by _ _ c.in_err-seen.field-0.0 (λ _. refused-look search c.args.memory.now.outer.items c.args.frame c.in_ok-t.t c.in-Some.member c.in_err-seen.field-0.0 next c.in_err-seen.ensures) c.from_residual-in_err-seen.ensures.1

pub returns-clause-turn : goal.returns-clause-turn
returns-clause-turn c =
    let search = searched c.args.local.now c.args.type_id c.args.name.now c.args.target.now in
    let next : HasNext search c.args.frame c.in_ok-t.t c.in-Some.member = record { known = c.in_ok-t.ensures; here = c.in-Some.ensures.value } in
    let depth : c.len.result + 1 ≡ length c.args.memory.now.outer.items + 1 = grind (arith, common_steps, c.len.ensures) in
    turned-ok search c.args.memory.now.nothing.keys c.args.memory.now.outer.items c.args.frame c.in_ok-t.t c.in-Some.member c.in_ok-seen.seen _ _ _ _ c.requires next c.in_ok-seen.ensures (same-member c.args.memory.now.outer.items c.args.frame c.in_ok-t.t c.in-Some.member _ _ c.found_here-here.ensures depth) c.follow.ensures.over

pub returns-clause-refused : goal.returns-clause-refused
returns-clause-refused c =
    let search = searched c.args.local.now c.args.type_id c.args.name.now c.args.target.now in
    let next : HasNext search c.args.frame c.in_ok-t.t c.in-Some.member = record { known = c.in_ok-t.ensures; here = c.in-Some.ensures.value } in
    refused-err search c.args.memory.now.outer.items c.args.frame c.in_ok-t.t c.in-Some.member c.in_ok-seen.seen _ next c.in_ok-seen.ensures c.follow.ensures.refused
