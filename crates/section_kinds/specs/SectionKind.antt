-- Kinds of sections, by their names.
use Rattle.std.specs.Prelude.{ℕ, nat_eq, ◌==◌, ◌&&◌, not, Bool, List, [], ◌∷◌, codes, Option, bytes_eq, unwrap_or, if◌then◌else◌}
use Rattle.std.specs.List.{starts_with}
use Rattle.std.specs.Map.{lookup}
use Rattle.std.specs.Option.{option_or}
use Rattle.section_kinds.specs.declared.section_kind.EbpfSectionKind.{EbpfSectionKind}
use Rattle.section_kinds.specs.declared.section_kind.EbpfSectionKind.TheVariants.{Undefined, Maps, BtfMaps, Program, Data, Rodata, Bss, Text, Btf, BtfExt, License, Version}

-- Kinds by a prefix of the name. The first prefix that matches decides.
abbrev pub kinds_by_beginning : List (List ℕ × EbpfSectionKind)
kinds_by_beginning =
    (codes "license", License)
    ∷ (codes "version", Version)
    ∷ (codes "maps", Maps)
    ∷ (codes ".maps", BtfMaps)
    ∷ (codes ".text", Text)
    ∷ (codes ".bss", Bss)
    ∷ (codes ".data", Data)
    ∷ (codes ".rodata", Rodata)
    ∷ []

-- Kinds by the whole name.
abbrev pub kinds_by_name : List (List ℕ × EbpfSectionKind)
kinds_by_name =
    (codes ".BTF", Btf)
    ∷ (codes ".BTF.ext", BtfExt)
    ∷ []

-- The kind that the name alone decides.
abbrev pub kind_decided : List ℕ → Option EbpfSectionKind
kind_decided name =
    option_or (lookup (starts_with nat_eq name) kinds_by_beginning)
    (lookup (bytes_eq name) kinds_by_name)

abbrev pub kind_named : List ℕ → EbpfSectionKind
kind_named name = unwrap_or (kind_decided name) Undefined

-- The kind of a section. A section whose name decides no kind holds programs if it is executable
-- text of nonzero size.
abbrev pub kind_of_section : List ℕ → Bool → ℕ → EbpfSectionKind
kind_of_section name is_text size =
    unwrap_or (kind_decided name) (if is_text && not (size == 0) then Program else Undefined)
