-- A section whose regions were read holds one extension only, and has no fault.
use Rattle.std.proofs.Common.{◌≡◌, ℕ, ◌+◌, ◌<◌, ◌≤◌, List, [], ◌∷◌, length, map, drop, refl, sym, subst, ◌∙◌, arith, inl, inr, length-drop}
use Rattle.std.specs.Prelude.{◌⊎◌, All, Err, IfErr, IsErrAnd, Ok, Result}
use Rattle.std.proofs.lemmas.List.{drop-drop, length-take-le}
use Rattle.std.proofs.lemmas.List.Elements.{All-head, All-tail}
use Rattle.btf_records.specs.declared.error.BtfError.{BtfError}
use Rattle.btf_records.specs.declared.words.Endianness.{Endianness}
use Rattle.btf_ext.specs.Extensions.{Extension, Holds, HoldsExtension, IsExtension}
use Rattle.btf_ext.specs.Faults.{ExtensionFault, HasSize, ExtentFault, RecordsFault, RegionFault}
use Rattle.btf_ext.specs.SectionInfos.{AreSectionInfos, SectionInfo, IsSectionInfo, Reach, section_info_in, section_info_len}
use Rattle.btf_ext.specs.Layout.{IsFaultless, IsRead, extension_of, section_infos_at}
use Rattle.btf_ext.specs.Records.{func_in, line_in, relocation_in}
use Rattle.btf_ext.specs.Regions.{HasHeader, IsWithin, section_infos_bytes, header_len, region_extent, region_in, size_in}
use Rattle.btf_ext.specs.declared.section_info_list.SectionInfoList.{SectionInfoList}
use Rattle.btf_ext.specs.declared.region.RegionExtent.{RegionExtent}
use Rattle.btf_ext.specs.declared.region.RegionKind.{RegionKind}
use Rattle.btf_ext.specs.declared.region.RegionKind.TheVariants.{Functions, Lines, Relocations}

section_infos_are : {R : Type 0} (order : Endianness) (read : Endianness → List ℕ → R) (size : ℕ) (bytes : List ℕ) (from : ℕ) (places : List ℕ) (end : ℕ) → Reach order size bytes from places end → length (drop end bytes) ≤ 8
    → AreSectionInfos order read size (drop from bytes) (map (λ place. section_info_in order read size (drop place bytes)) places)
section_infos_are order read size bytes from [] end r ended = rw r ended
section_infos_are {R} order read size bytes from (place ∷ places) end r ended =
    let section_infos : List (SectionInfo R) = map (λ p. section_info_in order read size (drop p bytes)) places in
    let len = section_info_len order size (drop place bytes) in
    let others : AreSectionInfos order read size (drop len (drop place bytes)) section_infos = subst (λ (b : List ℕ). AreSectionInfos order read size b section_infos) (sym (drop-drop len place bytes)) (section_infos_are order read size bytes (place + len) places end r.2 ended) in
    subst (λ (k : ℕ). AreSectionInfos order read size (drop k bytes) (section_info_in order read size (drop place bytes) ∷ section_infos)) r.0 (r.1, refl, others)

-- A property of the offsets of the section infos holds wherever a section info begins.
at_place : (P : ℕ → Type 0) (order : Endianness) (size : ℕ) (bytes : List ℕ) (from : ℕ) (places : List ℕ) (end : ℕ) (others : List ℕ) (at : ℕ) → Reach order size bytes from places end → length (drop end bytes) ≤ 8 → All P places → Reach order size bytes from others at → 8 < length (drop at bytes) → P at × IsSectionInfo order size (drop at bytes)
at_place P order size bytes from [] end [] at r ended all s more = absurd (omega (arith, ended, rw (sym s ∙ r) at more))
at_place P order size bytes from [] end (q ∷ others) at r ended all s more = absurd (omega (arith, ended, rw (s.0 ∙ r) at s.1.begun))
at_place P order size bytes from (p ∷ places) end [] at r ended all s more = (subst P (r.0 ∙ s) (All-head P p places all), subst (λ (k : ℕ). IsSectionInfo order size (drop k bytes)) (r.0 ∙ s) r.1)
at_place P order size bytes from (p ∷ places) end (q ∷ others) at r ended all s more =
    at_place P order size bytes (p + section_info_len order size (drop p bytes)) places end others at r.2 ended (All-tail P p places all) (subst (λ (k : ℕ). Reach order size bytes (k + section_info_len order size (drop k bytes)) others at) (s.0 ∙ sym r.0) s.2) more

no_bad_size : (kind : RegionKind) (order : Endianness) (region : List ℕ) (a b : ℕ) → (length region ≡ 0) ⊎ ((4 ≤ length region) × (a ≤ b)) → 4 ≤ length region → b < a → ⊥
no_bad_size kind order region a b (inl none) long less = omega (arith, none, long)
no_bad_size kind order region a b (inr has) long less = omega (arith, has.1, less)

no_records_fault : (kind : RegionKind) (order : Endianness) (strings : List ℕ) (place : RegionExtent) (region : List ℕ) (g : SectionInfoList) (e : BtfError) → IsRead kind order strings region g → RecordsFault kind order strings place region e → ⊥
no_records_fault kind order strings place region g e read (inl bad) = no_bad_size kind order region _ _ read.sized bad.1.0 bad.1.1
no_records_fault kind order strings place region g e read (inr stands) =
    let size = size_in order region in
    let bytes = section_infos_bytes region in
    let f = stands.1 in
    let found : 8 < length (drop f.at bytes) → IsFaultless kind order size strings (drop f.at bytes) × IsSectionInfo order size (drop f.at bytes) = at_place (λ p. IsFaultless kind order size strings (drop p bytes)) order size bytes 0 g.places.items read.places.end f.places f.at read.places.reached read.places.ended read.places.faultless f.reached in
    elim f.here [ inl cut ↦ absurd (omega (arith, (found cut.1.0).1.whole, cut.1.1)) | inr wrong ↦ (found wrong.0.begun).0.none e wrong.1 ]

region_len : (kind : RegionKind) (order : Endianness) (bytes : List ℕ) → IsWithin (region_extent kind order bytes) → length (region_in kind order bytes) ≡ (region_extent kind order bytes).len
region_len kind order bytes within =
    let place = region_extent kind order bytes in
    length-take-le place.len (drop place.offset bytes) (omega (arith, within, length-drop place.offset bytes))

no_extent_fault : (place : RegionExtent) (len : ℕ) (e : BtfError) → len ≡ place.len → (len ≡ 0) ⊎ (4 ≤ len) → IsWithin place → ExtentFault place e → ⊥
no_extent_fault place len e same sized within (is, inl past) = omega (arith, within, past)
no_extent_fault place len e same (inl none) within (is, inr cut) = omega (arith, same, none, cut.0, cut.1)
no_extent_fault place len e same (inr long) within (is, inr cut) = omega (arith, same, long, cut.0, cut.1)

has_room : (kind : RegionKind) (order : Endianness) (region : List ℕ) → (length region ≡ 0) ⊎ HasSize kind order region → (length region ≡ 0) ⊎ (4 ≤ length region)
has_room kind order region (inl none) = inl none
has_room kind order region (inr has) = inr has.0

-- The section infos of a region of the section were read.
pub record IsRegionRead (kind : RegionKind) (order : Endianness) (strings bytes : List ℕ) (g : SectionInfoList) : Type 0 where
  pub within : IsWithin (region_extent kind order bytes)
  pub read : IsRead kind order strings (region_in kind order bytes) g

no_region_fault : (kind : RegionKind) (order : Endianness) (strings bytes : List ℕ) (g : SectionInfoList) (e : BtfError) → IsRegionRead kind order strings bytes g → RegionFault kind order strings bytes e → ⊥
no_region_fault kind order strings bytes g e is (inl fault) = no_extent_fault (region_extent kind order bytes) (length (region_in kind order bytes)) e (region_len kind order bytes is.within) (has_room kind order (region_in kind order bytes) is.read.sized) is.within fault
no_region_fault kind order strings bytes g e is (inr fault) = no_records_fault kind order strings (region_extent kind order bytes) (region_in kind order bytes) g e is.read fault.1

no_header_fault : (order : Endianness) (bytes : List ℕ) → HasHeader order bytes → (length bytes < 8) ⊎ ((8 ≤ length bytes) × ((header_len order bytes < 8) ⊎ (length bytes < header_len order bytes))) → ⊥
no_header_fault order bytes has (inl short) = omega (arith, has.head)
no_header_fault order bytes has (inr (long, inl small)) = omega (arith, has.least)
no_header_fault order bytes has (inr (long, inr past)) = omega (arith, has.within)

no_fault : (order : Endianness) (strings bytes : List ℕ) (f l r : SectionInfoList) (e : BtfError) → HasHeader order bytes → IsRegionRead Functions order strings bytes f → IsRegionRead Lines order strings bytes l → IsRegionRead Relocations order strings bytes r → ExtensionFault order strings bytes e → ⊥
no_fault order strings bytes f l r e has are_f are_l are_r (inl header) = no_header_fault order bytes has header.1
no_fault order strings bytes f l r e has are_f are_l are_r (inr (head, (Functions, fault))) = no_region_fault Functions order strings bytes f e are_f fault
no_fault order strings bytes f l r e has are_f are_l are_r (inr (head, (Lines, fault))) = no_region_fault Lines order strings bytes l e are_l fault
no_fault order strings bytes f l r e has are_f are_l are_r (inr (head, (Relocations, fault))) = no_region_fault Relocations order strings bytes r e are_r fault

holds : {R : Type 0} (kind : RegionKind) (order : Endianness) (read : Endianness → List ℕ → R) (strings bytes : List ℕ) (g : SectionInfoList) → IsRegionRead kind order strings bytes g → Holds kind order read bytes (section_infos_at read g)
holds kind order read strings bytes g is =
    let region = region_in kind order bytes in
    (is.within, rw (is.read.same_order, is.read.size, is.read.bytes) (section_infos_are order read (size_in order region) (section_infos_bytes region) 0 g.places.items is.read.places.end is.read.places.reached is.read.places.ended))

same_section_infos : {R : Type 0} (order : Endianness) (read : Endianness → List ℕ → R) (size : ℕ) (bytes : List ℕ) (gs hs : List (SectionInfo R)) → AreSectionInfos order read size bytes gs → AreSectionInfos order read size bytes hs → hs ≡ gs
same_section_infos order read size bytes [] [] a b = refl
same_section_infos order read size bytes [] (h ∷ hs) a b = absurd (omega (arith, a, b.0.begun))
same_section_infos order read size bytes (g ∷ gs) [] a b = absurd (omega (arith, b, a.0.begun))
same_section_infos order read size bytes (g ∷ gs) (h ∷ hs) a b =
    let first : h ≡ g = b.1 ∙ sym a.1 in
    let rest : hs ≡ gs = same_section_infos order read size (drop (section_info_len order size bytes) bytes) gs hs a.2 b.2 in
    rw (first, rest) refl

record_same : (a b : Extension) → a.order ≡ b.order → a.strings ≡ b.strings → a.func_size ≡ b.func_size → a.line_size ≡ b.line_size → a.functions ≡ b.functions → a.lines ≡ b.lines → a.relocations ≡ b.relocations → a ≡ b
record_same a b order strings func_size line_size functions lines relocations = λ i. record { order = order i; strings = strings i; func_size = func_size i; line_size = line_size i; functions = functions i; lines = lines i; relocations = relocations i }

same_extension : (order : Endianness) (strings bytes : List ℕ) (x other : Extension) → IsExtension order strings bytes x → IsExtension order strings bytes other → other ≡ x
same_extension order strings bytes x other is o =
    let f = region_in Functions order bytes in
    let l = region_in Lines order bytes in
    let r = region_in Relocations order bytes in
    record_same other x (o.same_order ∙ sym is.same_order) (o.same_strings ∙ sym is.same_strings) (o.func_size ∙ sym is.func_size) (o.line_size ∙ sym is.line_size)
    (same_section_infos order func_in (size_in order f) (section_infos_bytes f) x.functions other.functions is.functions.1 o.functions.1)
    (same_section_infos order line_in (size_in order l) (section_infos_bytes l) x.lines other.lines is.lines.1 o.lines.1)
    (same_section_infos order relocation_in (size_in order r) (section_infos_bytes r) x.relocations other.relocations is.relocations.1 o.relocations.1)

pub holds_extension : (order : Endianness) (strings bytes : List ℕ) (f l r : SectionInfoList) → HasHeader order bytes → IsRegionRead Functions order strings bytes f → IsRegionRead Lines order strings bytes l → IsRegionRead Relocations order strings bytes r → HoldsExtension order strings bytes (extension_of strings f l r)
holds_extension order strings bytes f l r has are_f are_l are_r =
    let is : IsExtension order strings bytes (extension_of strings f l r) = record {
      header = has;
      same_order = are_f.read.same_order;
      same_strings = refl;
      func_size = are_f.read.size;
      line_size = are_l.read.size;
      functions = holds Functions order func_in strings bytes f are_f;
      lines = holds Lines order line_in strings bytes l are_l;
      relocations = holds Relocations order relocation_in strings bytes r are_r;
    }
    in
    record {
      holds = is;
      faultless = λ e. no_fault order strings bytes f l r e has are_f are_l are_r;
      alone = λ other. same_extension order strings bytes (extension_of strings f l r) other is;
    }

-- A fault of the records of a region is a fault of the section.
pub records_fault : (kind : RegionKind) (order : Endianness) (strings bytes : List ℕ) (place : RegionExtent) (region : List ℕ) (e : BtfError) → HasHeader order bytes → IsWithin (region_extent kind order bytes) → place ≡ region_extent kind order bytes → region ≡ region_in kind order bytes → RecordsFault kind order strings place region e → ExtensionFault order strings bytes e
records_fault kind order strings bytes place region e has within same same_bytes fault = inr (has, (kind, inr (within, rw (same, same_bytes) at fault)))

pub passed_on : {T : Type 0} (result : Result T BtfError) (e : BtfError) (P : BtfError → Type 0) → IsErrAnd result (λ f. f ≡ e) → P e → IfErr result P
passed_on (Ok x) e P h p = tt
passed_on (Err f) e P h p = subst P (sym h) p
