use Rattle.std.proofs.Common.{Err, sym, ap, ◌∙◌}
use Rattle.core_spec.specs.declared.error.AccessError.TheVariants.{BtfError as TypeError}
use Rattle.btf_records.specs.declared.error.BtfError.{BtfError}
use Rattle.core_match.specs.Looks.{searched}
use Rattle.core_match.proofs.Turns.{begins, refused_by, unknown-root}
use Rattle.core_match.proofs.search.find_member.Goals as goal

pub returns-in_err-_root-clause-refused : goal.returns-in_err-_root-clause-refused
returns-in_err-_root-clause-refused c =
    let search = searched c.args.local.now c.args.type_id c.args.name.now c.args.target.now in
    refused_by _ _ (TypeError c.in_err-_root.field-0.0)
    (λ _. unknown-root search c.args.root c.args.bits c.in_err-_root.ensures.1 ∙ ap (λ (e : BtfError). Err (TypeError e)) (sym c.in_err-_root.ensures.0))
    c.from_residual.ensures.1

pub loop-memory-init : goal.loop-memory-init
loop-memory-init c =
    let search = searched c.args.local.now c.args.type_id c.args.name.now c.args.target.now in
    let first = begins search c.args.root c.args.bits _ c.new-memory.result.outer.items c.new-memory.result.nothing.keys c.entered-frame.result c.new-memory.ensures.outer c.new-memory.ensures.nothing c.entered-frame.ensures c.in_ok-_root.ensures in
    record { same = first.same; sound = first.sound }
