use Rattle.std.proofs.Common.{unwrap_or, refl, sym}
use Rattle.std.specs.Option.{option_copied}
use Rattle.btf_tables.specs.Tables.{new_table}
use Rattle.core_relocation.specs.Relocations.{types_given}
use Rattle.ebpf_object.specs.TypeRelocations.{section_infos_beside}
use Rattle.ebpf_object.proofs.Linked.{functions_stay_typed}
use Rattle.ebpf_object.proofs.NoTypeRelocations.{unasked_refused}
use Rattle.ebpf_object.proofs.type_relocations.relocate_object.Goals as goal

pub returns-then-not-has_btf_relocations-clause-sound : goal.returns-then-not-has_btf_relocations-clause-sound
returns-then-not-has_btf_relocations-clause-sound c = unasked_refused c.args.object.now c.args.kernel_types.now (sym c.if-not-has_btf_relocations.ensures)

pub invariant_of-object : goal.invariant_of-object
invariant_of-object c =
    let o = c.object.inside in
    let types = option_copied c.as_ref.result in
    let g = types_given o.file o.functions (unwrap_or types new_table) c.args.kernel_types.now in
    functions_stay_typed c.relocate_functions.result o.programs g (section_infos_beside types (option_copied c.as_ref-2.result)) o.functions
    c.relocate_functions.new.functions refl c.relocate_functions.ensures.relocated c.relocate_functions.ensures.unchanged c.object.invariant
