-- The subject of each kind of type relocations (`enum bpf_core_relo_kind`,
-- include/uapi/linux/bpf.h).
use Rattle.core_spec.specs.declared.subject.Subject.{Subject}
use Rattle.core_spec.specs.declared.subject.Subject.TheVariants as subjects
use Rattle.ebpf_items.specs.declared.relocation_kind.RelocationKind.{RelocationKind}
use Rattle.ebpf_items.specs.declared.relocation_kind.RelocationKind.TheVariants as kinds

abbrev pub subject_of : RelocationKind → Subject
subject_of kinds.FieldByteOffset = subjects.Field
subject_of kinds.FieldByteSize = subjects.Field
subject_of kinds.FieldExists = subjects.Field
subject_of kinds.FieldSigned = subjects.Field
subject_of kinds.FieldLShift64 = subjects.Field
subject_of kinds.FieldRShift64 = subjects.Field
subject_of kinds.TypeIdLocal = subjects.Type
subject_of kinds.TypeIdTarget = subjects.Type
subject_of kinds.TypeExists = subjects.Type
subject_of kinds.TypeSize = subjects.Type
subject_of kinds.EnumVariantExists = subjects.Variant
subject_of kinds.EnumVariantValue = subjects.Variant
