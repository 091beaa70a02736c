-- Section infos looked up by name, from the last on.
use Rattle.std.proofs.Common.{◌≡◌, ℕ, ◌+◌, ◌<◌, Bool, true, false, List, [], ◌∷◌, ◌++◌, length, map, take, drop, get_or, reverse, cond, Option, None, Some, refl, sym, ap, ◌∙◌}
use Rattle.std.specs.Prelude.{find}
use Rattle.std.specs.Option.{option_map}
use Rattle.std.proofs.lemmas.List.{map-append, reverse-append, take_more}
use Rattle.btf_records.specs.declared.words.Endianness.{Endianness}
use Rattle.btf_ext.specs.SectionInfos.{SectionInfo, section_info_in}
use Rattle.btf_ext.specs.Layout.{AreAllKindsKnown, AreLaidOut, AreRecordsOf, AreSameSectionInfos, extension_of, section_infos_at, is_named}
use Rattle.btf_ext.specs.Names.{is_text, records_of}
use Rattle.btf_ext.specs.SecInfoRecords.{records_in}
use Rattle.btf_ext.specs.declared.section_info_list.SectionInfoList.{SectionInfoList}
use Rattle.btf_ext.specs.declared.sec_info.SectionInfoRecords.{SectionInfoRecords}

reverse_more : (xs : List ℕ) (i : ℕ) → i < length xs → reverse (take (i + 1) xs) ≡ get_or xs i 0 ∷ reverse (take i xs)
reverse_more xs i lt = ap reverse (take_more xs i 0 lt) ∙ reverse-append (take i xs) (get_or xs i 0 ∷ [])

-- The last match in the list is the last match among the first elements.
pub record IsLastIn (p : ℕ → Bool) (xs : List ℕ) (i : ℕ) : Type 0 where
  pub same : find p (reverse xs) ≡ find p (reverse (take i xs))

find_past : (p : ℕ → Bool) (x : ℕ) (xs : List ℕ) → p x ≡ false → find p (x ∷ xs) ≡ find p xs
find_past p x xs isnt = rw isnt refl

find_here : (p : ℕ → Bool) (x : ℕ) (xs : List ℕ) → p x ≡ true → find p (x ∷ xs) ≡ Some x
find_here p x xs is = rw is refl

pub not_last : (p : ℕ → Bool) (xs : List ℕ) (i : ℕ) → i < length xs → IsLastIn p xs (i + 1) → p (get_or xs i 0) ≡ false → IsLastIn p xs i
not_last p xs i lt is isnt = record { same = is.same ∙ (ap (find p) (reverse_more xs i lt) ∙ find_past p (get_or xs i 0) (reverse (take i xs)) isnt) }

pub last_found : (p : ℕ → Bool) (xs : List ℕ) (i : ℕ) → i < length xs → IsLastIn p xs (i + 1) → p (get_or xs i 0) ≡ true → find p (reverse xs) ≡ Some (get_or xs i 0)
last_found p xs i lt is here = is.same ∙ (ap (find p) (reverse_more xs i lt) ∙ find_here p (get_or xs i 0) (reverse (take i xs)) here)

reverse_map : {X Y : Type 0} (f : X → Y) (xs : List X) → reverse (map f xs) ≡ map f (reverse xs)
reverse_map f [] = refl
reverse_map {X} {Y} f (x ∷ xs) =
    reverse-append (f x ∷ []) (map f xs) ∙ (ap (λ (ys : List Y). ys ++ f x ∷ []) (reverse_map f xs) ∙ (sym (map-append f (reverse xs) (x ∷ [])) ∙ ap (map f) (sym (reverse-append (x ∷ []) xs))))

cond_map : {X Y : Type 0} (f : X → Y) (b : Bool) (x : X) (one : Option Y) (other : Option X) → one ≡ option_map f other → cond b (Some (f x)) one ≡ option_map f (cond b (Some x) other)
cond_map f true x one other e = refl
cond_map f false x one other e = e

find_map : {X Y : Type 0} (p : Y → Bool) (f : X → Y) (xs : List X) → find p (map f xs) ≡ option_map f (find (λ x. p (f x)) xs)
find_map p f [] = refl
find_map {X} p f (x ∷ xs) = cond_map f (p (f x)) x (find p (map f xs)) (find (λ (y : X). p (f y)) xs) (find_map p f xs)

map_twice : {X Y Z : Type 0} (f : X → Y) (g : Y → Z) (found : Option X) → option_map g (option_map f found) ≡ option_map (λ x. g (f x)) found
map_twice f g None = refl
map_twice f g (Some x) = refl

pub named_records : {R : Type 0} (read : Endianness → List ℕ → R) (strings name : List ℕ) (g : SectionInfoList) (found : Option ℕ) → find (is_named strings name g) (reverse g.places.items) ≡ found → records_of strings name (section_infos_at read g) ≡ option_map (λ place. (section_info_in g.order read g.size (drop place g.bytes.now)).records) found
named_records {R} read strings name g found is =
    let section_info = λ (place : ℕ). section_info_in g.order read g.size (drop place g.bytes.now) in
    let named = λ (x : SectionInfo R). is_text strings name x.name_offset in
    let records = λ (x : SectionInfo R). x.records in
    ap (λ (gs : List (SectionInfo R)). option_map records (find named gs)) (reverse_map section_info g.places.items) ∙ (ap (option_map records) (find_map named section_info (reverse g.places.items)) ∙ (ap (λ (f : Option ℕ). option_map records (option_map section_info f)) is ∙ map_twice section_info records found))

pub same_records : {R : Type 0} (read : Endianness → List ℕ → R) (g : SectionInfoList) (place : ℕ) (records : SectionInfoRecords) → AreRecordsOf g place records → records_in read records ≡ (section_info_in g.order read g.size (drop place g.bytes.now)).records
same_records read g place records are = rw (are.order, are.size, are.count, are.bytes) refl

-- Equal section infos give the same extension.
pub same_extension : (strings other : List ℕ) (f l r f' l' r' : SectionInfoList) → other ≡ strings → AreSameSectionInfos f f' → AreSameSectionInfos l l' → AreSameSectionInfos r r' → extension_of other f' l' r' ≡ extension_of strings f l r
same_extension strings other f l r f' l' r' same sf sl sr = rw (same, sf.order, sf.size, sf.bytes, sf.places, sl.order, sl.size, sl.bytes, sl.places, sr.order, sr.size, sr.bytes, sr.places) refl

pub same_laid_out : (least : ℕ) (g h : SectionInfoList) → AreSameSectionInfos g h → AreLaidOut least g → AreLaidOut least h
same_laid_out least g h same are = record {
  whole = record { stand = rw (same.order, same.size, same.bytes, same.places) are.whole.stand };
  sized = rw (same.size, same.places) are.sized;
}

pub same_kinds : (g h : SectionInfoList) → AreSameSectionInfos g h → AreAllKindsKnown g → AreAllKindsKnown h
same_kinds g h same are = record { each = rw (same.order, same.size, same.bytes, same.places) are.each }
