use Rattle.std.proofs.Common.{subst}
use Rattle.std.specs.Option.{option_map}
use Rattle.std.specs.Prelude.{◌≢◌, IfErr, OnOk}
use Rattle.std.specs.String.{string_bytes}
use Rattle.ebpf_object.specs.ParsedObject.{ObjectContent}
use Rattle.relocation_errors.specs.declared.error.RelocationError.TheVariants.{OutOfMemory}
use Rattle.slot_relocation.specs.Maps.{given, map_rule}
use Rattle.slot_relocation.specs.Writes.{CanBeRelocated, HasErrorIn}
use Rattle.ebpf_object.proofs.object.Object.write_map_numbers.Goals as goal

pub returns-clause-sound : goal.returns-clause-sound
returns-clause-sound c =
    subst (λ (o : ObjectContent). OnOk c.relocate_maps.result (CanBeRelocated (map_rule (given o.file c.args.text_sections.now.keys c.args.maps.now)) o.file o.functions)) c.self.view_is
    c.relocate_maps.ensures.sound

pub returns-clause-fault : goal.returns-clause-fault
returns-clause-fault c =
    subst (λ (o : ObjectContent). IfErr c.relocate_maps.result (λ e. e.error ≢ OutOfMemory → HasErrorIn (map_rule (given o.file c.args.text_sections.now.keys c.args.maps.now)) o.file o.functions (option_map string_bytes e.function) e.error)) c.self.view_is
    c.relocate_maps.ensures.fault
