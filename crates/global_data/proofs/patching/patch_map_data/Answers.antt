use Rattle.std.proofs.Common.{sym, ap, ◌∙◌, subst, List, fold}
use Rattle.elf64.specs.Symbols.{symbols_of}
use Rattle.global_data.specs.GlobalData.{Write, extents, written}
use Rattle.global_data.specs.Kept.{IsOutside, KeepBytes}
use Rattle.global_data.specs.Writes.{Fit, writes_of}
use Rattle.global_data.proofs.Fitting.{found-fit}
use Rattle.global_data.proofs.Kept.{leave_bytes, stays_itself}
use Rattle.global_data.proofs.Steps.{none_set, nothing_patched, nothing_wrong}
use Rattle.global_data.proofs.Written.{extents-written, patched-of}
use Rattle.global_data.proofs.patching.patch_map_data.Goals as goal

pub write_all-requires : goal.write_all-requires
write_all-requires c =
    let P : List Write → Type 0 = λ ws. Fit c.args.maps.now ws in
    subst P (sym (c.deref.ensures.value ∙ c.in_ok-writes.ensures.value))
    (found-fit c.args.file.now c.args.maps.now c.args.values.now c.in_ok-writes.ensures.rising c.in_ok-writes.ensures.sound)

pub returns-then-is_empty-clause-patched : goal.returns-then-is_empty-clause-patched
returns-then-is_empty-clause-patched c =
    nothing_patched c.args.file.now c.args.maps.now c.args.values.now (none_set c.args.values.now (sym c.is_empty.ensures ∙ c.if-is_empty.true))

pub returns-then-is_empty-clause-sound : goal.returns-then-is_empty-clause-sound
returns-then-is_empty-clause-sound c =
    nothing_wrong c.args.file.now c.args.maps.now c.args.values.now (none_set c.args.values.now (sym c.is_empty.ensures ∙ c.if-is_empty.true))

pub returns-clause-patched : goal.returns-clause-patched
returns-clause-patched c =
    c.write_all.ensures
    ∙ ap (fold written c.args.maps.now) (c.deref.ensures.value ∙ c.in_ok-writes.ensures.value)
    ∙ patched-of c.args.file.now c.args.maps.now c.args.values.now

pub returns-clause-lengths : goal.returns-clause-lengths
returns-clause-lengths c =
    let writes : List Write = writes_of (symbols_of c.args.file.now) c.args.maps.now c.args.values.now in
    ap extents (c.write_all.ensures ∙ ap (fold written c.args.maps.now) (c.deref.ensures.value ∙ c.in_ok-writes.ensures.value))
    ∙ extents-written c.args.maps.now writes c.in_ok-writes.ensures.rising (found-fit c.args.file.now c.args.maps.now c.args.values.now c.in_ok-writes.ensures.rising c.in_ok-writes.ensures.sound)

pub returns-then-is_empty-clause-kept : goal.returns-then-is_empty-clause-kept
returns-then-is_empty-clause-kept c = stays_itself (IsOutside (symbols_of c.args.file.now) c.args.maps.now c.args.values.now) c.args.maps.now

pub returns-in_err-writes-clause-kept : goal.returns-in_err-writes-clause-kept
returns-in_err-writes-clause-kept c = stays_itself (IsOutside (symbols_of c.args.file.now) c.args.maps.now c.args.values.now) c.args.maps.now

pub returns-clause-kept : goal.returns-clause-kept
returns-clause-kept c =
    subst (KeepBytes c.args.file.now c.args.values.now c.args.maps.now)
    (sym
    (c.write_all.ensures
    ∙ ap (fold written c.args.maps.now) (c.deref.ensures.value ∙ c.in_ok-writes.ensures.value)
    ∙ patched-of c.args.file.now c.args.maps.now c.args.values.now))
    (leave_bytes c.args.file.now c.args.maps.now c.args.values.now c.in_ok-writes.ensures.rising c.in_ok-writes.ensures.sound)
