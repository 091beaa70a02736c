use Rattle.std.proofs.Common.{subst}
use Rattle.std.specs.Option.{option_map}
use Rattle.std.specs.Prelude.{◌≢◌, IfErr, OnOk}
use Rattle.std.specs.String.{string_bytes}
use Rattle.ebpf_object.specs.ParsedObject.{ObjectContent}
use Rattle.slot_relocation.specs.Externs.{extern_rule}
use Rattle.relocation_errors.specs.declared.error.RelocationError.TheVariants.{OutOfMemory}
use Rattle.slot_relocation.specs.Writes.{CanBeRelocated, HasErrorIn}
use Rattle.ebpf_object.proofs.object.Object.relocate_externs.Goals as goal

pub returns-clause-sound : goal.returns-clause-sound
returns-clause-sound c =
    subst (λ (o : ObjectContent). OnOk c.relocate_externs.result (CanBeRelocated (extern_rule o.file o.externs.by_name) o.file o.functions)) c.self.view_is
    c.relocate_externs.ensures.sound

pub returns-clause-fault : goal.returns-clause-fault
returns-clause-fault c =
    subst (λ (o : ObjectContent). IfErr c.relocate_externs.result (λ e. e.error ≢ OutOfMemory → HasErrorIn (extern_rule o.file o.externs.by_name) o.file o.functions (option_map string_bytes e.function) e.error)) c.self.view_is
    c.relocate_externs.ensures.fault
