use Rattle.std.proofs.Common.{subst}
use Rattle.std.specs.Prelude.{◌≢◌, IfErr, OnOk}
use Rattle.std.specs.Option.{option_map}
use Rattle.std.specs.String.{string_bytes}
use Rattle.relocation_errors.specs.declared.error.RelocationError.TheVariants.{OutOfMemory}
use Rattle.slot_relocation.specs.Maps.{given, map_rule}
use Rattle.slot_relocation.specs.Writes.{CanBeRelocated, HasErrorIn}
use Rattle.slot_relocation.proofs.map_rule.relocate_maps.Goals as goal

pub returns-clause-sound : goal.returns-clause-sound
returns-clause-sound c =
    let file = c.args.file.now in
    let texts = c.args.text_sections.now.keys in
    subst (λ m. OnOk c.relocate_by_symbol.result (CanBeRelocated (map_rule (given file texts m)) file c.args.functions.now)) c.in_ok-new.ensures c.relocate_by_symbol.ensures.sound

pub returns-clause-fault : goal.returns-clause-fault
returns-clause-fault c =
    let file = c.args.file.now in
    let texts = c.args.text_sections.now.keys in
    subst (λ m. IfErr c.relocate_by_symbol.result (λ e. e.error ≢ OutOfMemory → HasErrorIn (map_rule (given file texts m)) file c.args.functions.now (option_map string_bytes e.function) e.error)) c.in_ok-new.ensures c.relocate_by_symbol.ensures.fault
