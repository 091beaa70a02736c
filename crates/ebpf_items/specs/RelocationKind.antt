-- The kinds of type relocations, numbered from 0.
use Rattle.std.specs.Prelude.{ℕ, List, [], ◌∷◌}
use Rattle.ebpf_items.specs.declared.relocation_kind.RelocationKind.{RelocationKind}
use Rattle.ebpf_items.specs.declared.relocation_kind.RelocationKind.TheVariants.{FieldByteOffset, FieldByteSize, FieldExists, FieldSigned, FieldLShift64, FieldRShift64, TypeIdLocal, TypeIdTarget, TypeExists, TypeSize, EnumVariantExists, EnumVariantValue}

abbrev pub relocation_kinds : List RelocationKind
relocation_kinds =
    FieldByteOffset
    ∷ FieldByteSize
    ∷ FieldExists
    ∷ FieldSigned
    ∷ FieldLShift64
    ∷ FieldRShift64
    ∷ TypeIdLocal
    ∷ TypeIdTarget
    ∷ TypeExists
    ∷ TypeSize
    ∷ EnumVariantExists
    ∷ EnumVariantValue
    ∷ []

-- The number of a kind: its index in the list of kinds.
abbrev pub relocation_kind_number : RelocationKind → ℕ
relocation_kind_number FieldByteOffset = 0
relocation_kind_number FieldByteSize = 1
relocation_kind_number FieldExists = 2
relocation_kind_number FieldSigned = 3
relocation_kind_number FieldLShift64 = 4
relocation_kind_number FieldRShift64 = 5
relocation_kind_number TypeIdLocal = 6
relocation_kind_number TypeIdTarget = 7
relocation_kind_number TypeExists = 8
relocation_kind_number TypeSize = 9
relocation_kind_number EnumVariantExists = 10
relocation_kind_number EnumVariantValue = 11
