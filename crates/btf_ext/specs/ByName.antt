-- Section infos by name, in a `BTreeMap`.
use Rattle.std.specs.Prelude.{◌≡◌, ℕ, List, Option, Some, find, reverse, if◌then◌else◌}
use Rattle.std.specs.Borrow.{Bor}
use Rattle.std.specs.BTreeMap.{get_by}
use Rattle.std.specs.Cmp.Lexicographic.{slice_cmp}
use Rattle.std.specs.Ordering.{nat_cmp}
use Rattle.std.specs.declared.alloc.Global.{Global}
use Rattle.std.specs.declared.collections.BTreeMap.{BTreeMap}
use Rattle.btf_records.specs.declared.words.Endianness.{Endianness}
use Rattle.btf_ext.specs.Layout.{AreLaidOut, is_named, section_infos_at}
use Rattle.btf_ext.specs.SectionInfos.{SectionInfo}
use Rattle.btf_ext.specs.declared.named_records.NamedInfos.{NamedInfos}
use Rattle.btf_ext.specs.declared.section_info_list.SectionInfoList.{SectionInfoList}

abbrev pub ByName : Type 0
ByName = BTreeMap (Bor (List ℕ)) ℕ Global

-- The offset that is entered under a name.
abbrev pub place_of : ByName → List ℕ → Option ℕ
place_of by_name name = get_by (λ key. slice_cmp nat_cmp name key.now) by_name

-- The offset of a section info is entered under its name, and replaces an earlier one.
pub record IsEntered (strings : List ℕ) (infos : SectionInfoList) (old new : ByName) (place : ℕ)
    : Type 0 where
  pub at : (name : List ℕ)
      → place_of new name
      ≡ (if is_named strings name infos place then Some place else place_of old name)

-- Under each name the last offset of a section info with the name is entered.
pub record AreLast (strings : List ℕ) (infos : SectionInfoList) (places : List ℕ) (by_name : ByName)
    : Type 0 where
  pub at : (name : List ℕ)
      → place_of by_name name ≡ find (is_named strings name infos) (reverse places)

-- The section infos, the last of each name entered under it.
pub record AreNamed {R : Type 0} (least : ℕ) (read : Endianness → List ℕ → R) (strings : List ℕ)
    (section_infos : List (SectionInfo R)) (named : NamedInfos) : Type 0 where
  pub laid_out : AreLaidOut least named.infos.now
  pub same : section_infos_at read named.infos.now ≡ section_infos
  pub last : AreLast strings named.infos.now named.infos.now.places.items named.by_name
