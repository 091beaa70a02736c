-- Section infos by name.
use Rattle.std.specs.Prelude.{ℕ, Bool, false, List, Option, find, nat_eq, reverse}
use Rattle.std.specs.Cmp.Lexicographic.{pointwise}
use Rattle.std.specs.Option.{option_map, option_map_or}
use Rattle.string_table.specs.Texts.{text_at}
use Rattle.btf_ext.specs.SectionInfos.{SectionInfo}

-- Whether the text at an offset of the strings is this one.
abbrev pub is_text : List ℕ → List ℕ → ℕ → Bool
is_text strings name offset =
    option_map_or (λ text. pointwise nat_eq text name) (text_at strings offset) false

-- The records of the section info with a name. If there are several, it is the last.
abbrev pub records_of : {R : Type 0} → List ℕ → List ℕ → List (SectionInfo R) → Option (List R)
records_of strings name section_infos =
    option_map (λ g. g.records) (find (λ g. is_text strings name g.name_offset) (reverse section_infos))
