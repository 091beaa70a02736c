use Rattle.ebpf_object.specs.TypeRelocations.{type_section_infos, types_of}
use Rattle.ebpf_object.proofs.Answered.{is_answer}
use Rattle.ebpf_object.proofs.object.Object.relocate_btf.Goals as goal

pub returns-clause-rests : goal.returns-clause-rests
returns-clause-rests c =
    let g = types_of c.args.self.now c.args.kernel_types.now in
    let section_infos = type_section_infos c.args.self.now in
    c.relocations_rest.ensures.answered g section_infos c.relocate_object.new.object.functions c.relocate_object.result
    (is_answer g section_infos c.relocate_object.new.object.functions c.relocate_object.result c.relocate_object.ensures.relocated c.relocate_object.ensures.sound c.relocate_object.ensures.fault)
