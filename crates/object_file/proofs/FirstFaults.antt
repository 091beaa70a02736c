-- A fault of the first section with a name is a fault of the sections that are read.
use Rattle.std.proofs.Common.{◌≡◌, ℕ, ◌==◌, ◌&&◌, Bool, true, false, cond, List, [], ◌∷◌, Option, Some, None, Result, Ok, Err, refl, sym, ap, ◌∙◌, arith, subst}
use Rattle.std.specs.Prelude.{IfErr, IfSome, IsSomeAnd, is_none, bytes_eq, codes, filter, find, is_some, option_and_then}
use Rattle.std.specs.List.{list_any}
use Rattle.std.specs.Option.{IsSome, option_map_or}
use Rattle.std.proofs.lemmas.Bool.Decides.{nat_tests}
use Rattle.std.proofs.lemmas.Slice.Eq.{bytes_eq-Decides}
use Rattle.elf64.specs.Faults as elf
use Rattle.elf64.specs.declared.error.ElfError.TheVariants.{Name, SectionData}
use Rattle.elf64.specs.Sections.{Section, has_name, section_named, sections_of}
use Rattle.ebpf_items.specs.declared.error.ParseError.{ParseError}
use Rattle.ebpf_items.specs.declared.error.ParseError.TheVariants as error
use Rattle.object_file.specs.Faults.{HasFileFault, HasFirstFault, HasHeldFault, HasSectionsFault, HasSoundFirst}
use Rattle.object_file.specs.Relocations.{has_relocation_without_symbol}
use Rattle.object_file.specs.Reading.{contents_named, is_read, read_sections}
use Rattle.object_file.proofs.SectionFaults.{file_fault, held_fault}

-- ---- An element that is found, and kept by a filter

neither : (a b : Bool) → b ≡ false → (a && b) ≡ true → ⊥
neither true b none both = cc (sym none ∙ both)
neither false b none both = cc both

or-false : (a : Bool) → list_any (λ (b : Bool). b) (a ∷ []) ≡ true → a ≡ true
or-false true h = refl
or-false false h = h

found-one : {X : Type 0} (h : X → Bool) (x s : X) (rest : Option X) (test : Bool) → h x ≡ test → cond test (Some x) rest ≡ Some s → (rest ≡ Some s → h s ≡ true) → h s ≡ true
found-one h x s rest true is found later = let same : x ≡ s = cc found in rw (← same) is
found-one h x s rest false is found later = later found

passes : {X : Type 0} (h : X → Bool) (xs : List X) (s : X) → find h xs ≡ Some s → h s ≡ true
passes h [] s found = absurd (cc found)
passes h (x ∷ xs) s found = found-one h x s (find h xs) (h x) refl found (passes h xs s)

kept-here : {X : Type 0} (p q : X → Bool) (x : X) (xs : List X) (kept : Bool) → q x ≡ kept → q x ≡ true → p x ≡ true → list_any p (cond kept (x ∷ filter q xs) (filter q xs)) ≡ true
kept-here p q x xs true is keeps holds = rw holds refl
kept-here p q x xs false is keeps holds = absurd (cc (sym is ∙ keeps))

any-more : {X : Type 0} (p : X → Bool) (x : X) (xs : List X) (test : Bool) → p x ≡ test → list_any p xs ≡ true → list_any p (x ∷ xs) ≡ true
any-more p x xs true is rest = rw is refl
any-more p x xs false is rest = rw is rest

kept-later : {X : Type 0} (p q : X → Bool) (x : X) (xs : List X) (kept : Bool) → list_any p (filter q xs) ≡ true → list_any p (cond kept (x ∷ filter q xs) (filter q xs)) ≡ true
kept-later p q x xs true rest = any-more p x (filter q xs) (p x) refl rest
kept-later p q x xs false rest = rest

among : {X : Type 0} (h p q : X → Bool) (xs : List X) (s : X) → find h xs ≡ Some s → q s ≡ true → p s ≡ true → list_any p (filter q xs) ≡ true
among h p q [] s found keeps holds = absurd (cc found)
among {X} h p q (x ∷ xs) s found keeps holds = by (h x) found (λ later. among h p q xs s later keeps holds)
  where
    by : (test : Bool) → cond test (Some x) (find h xs) ≡ Some s → (find h xs ≡ Some s → list_any p (filter q xs) ≡ true) → list_any p (filter q (x ∷ xs)) ≡ true
    by true here rest =
        let same : x ≡ s = cc here in
        kept-here p q x xs (q x) refl (rw same keeps) (rw same holds)
    by false later rest = kept-later p q x xs (q x) (rest later)

-- ---- Sections that are read, by their names

named-by : (name : List ℕ) (found : Option (List ℕ)) → option_map_or (λ text. bytes_eq text name) found false ≡ true → found ≡ Some name
named-by name None is = absurd (cc is)
named-by name (Some text) is = ap Some ((bytes_eq-Decides text name).0 is)

-- Whether a section with a name has another one.
other-name : (s : Section) (name other : List ℕ) → has_name name s ≡ true → has_name other s ≡ bytes_eq name other
other-name s name other is = ap (λ (n : Option (List ℕ)). option_map_or (λ text. bytes_eq text other) n false) (named-by name s.name is)

same-index : (n : ℕ) → (n == n) ≡ true
same-index n = grind (arith, nat_tests)

other-read : (types extension : Option Section) (s : Section) → has_name (codes ".BTF") s ≡ false → has_name (codes ".BTF.ext") s ≡ false → is_read types extension s ≡ true
other-read types extension s no-types no-extension = rw (no-types, no-extension) refl

types-read : (types extension : Option Section) (s : Section) → types ≡ Some s → has_name (codes ".BTF") s ≡ true → is_read types extension s ≡ true
types-read types extension s is named = rw (named, is) (same-index s.index)

extension-read : (types extension : Option Section) (s : Section) → is_some types ≡ true → extension ≡ Some s → has_name (codes ".BTF.ext") s ≡ true → is_read types extension s ≡ true
extension-read types extension s there is named =
    let no-types : has_name (codes ".BTF") s ≡ false = other-name s (codes ".BTF.ext") (codes ".BTF") named in
    rw (no-types, named, there, is) (same-index s.index)

-- ---- Faults

module _ (file : List ℕ) where
  abbrev types : Option Section
  types = section_named file (codes ".BTF")

  abbrev extension : Option Section
  extension = section_named file (codes ".BTF.ext")

  sections-fault : (name : List ℕ) (s : Section) → section_named file name ≡ Some s → is_read types extension s ≡ true → (e : ParseError) → HasSectionsFault file (s ∷ []) e → HasSectionsFault file (read_sections file) e
  sections-fault name s found read (error.SectionError index e) fault = among (has_name name) _ (is_read types extension) (sections_of file) s found read (or-false _ fault)
  sections-fault name s found read error.UnsupportedRelocationTarget fault = among (has_name name) _ (is_read types extension) (sections_of file) s found read (or-false _ fault)
  sections-fault name s found read e fault = absurd fault

  first-fault : (name : List ℕ) → ((s : Section) → section_named file name ≡ Some s → has_name name s ≡ true → is_read types extension s ≡ true) → (e : ParseError) → HasFirstFault file name e → HasHeldFault file e
  first-fault name read e fault = by (section_named file name) refl fault
    where
      by : (found : Option Section) → section_named file name ≡ found → IsSomeAnd found (λ s. HasSectionsFault file (s ∷ []) e) → HasHeldFault file e
      by None is none = absurd none
      by (Some s) is there = held_fault file e (sections-fault name s is (read s is (passes (has_name name) (sections_of file) s is)) e there)

  pub license_fault : (e : ParseError) → HasFirstFault file (codes "license") e → HasHeldFault file e
  license_fault =
      first-fault (codes "license") (λ s is named.
      other-read types extension s (other-name s (codes "license") (codes ".BTF") named) (other-name s (codes "license") (codes ".BTF.ext") named))

  pub version_fault : (e : ParseError) → HasFirstFault file (codes "version") e → HasHeldFault file e
  version_fault =
      first-fault (codes "version") (λ s is named.
      other-read types extension s (other-name s (codes "version") (codes ".BTF") named) (other-name s (codes "version") (codes ".BTF.ext") named))

  pub types_fault : elf.IsFaultless file → (e : ParseError) → HasFirstFault file (codes ".BTF") e → HasFileFault file e
  types_fault sound e fault = file_fault file sound e (first-fault (codes ".BTF") (λ s is named. types-read types extension s is named) e fault)

  has-types : (found : Option Section) → IsSome (option_and_then (λ s. s.contents) found) → is_some found ≡ true
  has-types None there = absurd (cc there)
  has-types (Some s) there = refl

  extension-fault : elf.IsFaultless file → IsSome (contents_named file (codes ".BTF")) → (e : ParseError) → HasFirstFault file (codes ".BTF.ext") e → HasFileFault file e
  extension-fault sound there e fault = file_fault file sound e (first-fault (codes ".BTF.ext") (λ s is named. extension-read types extension s (has-types types there) is named) e fault)

  pub extension_fault : {X : Type 0} → elf.IsFaultless file → IsSome (contents_named file (codes ".BTF")) → (r : Result X ParseError) → IfErr r (HasFirstFault file (codes ".BTF.ext")) → IfErr r (HasFileFault file)
  extension_fault sound there (Ok x) none = tt
  extension_fault sound there (Err e) fault = extension-fault sound there e fault

-- ---- The first section without a fault

no-fault : (file : List ℕ) (s : Section) → is_none s.contents ≡ false → has_relocation_without_symbol file s ≡ false → is_none s.name ≡ false → (e : ParseError) → HasSectionsFault file (s ∷ []) e → ⊥
no-fault file s contents related named (error.SectionError index Name) fault = neither (s.index == index) (is_none s.name) named (or-false _ fault)
no-fault file s contents related named (error.SectionError index SectionData) fault = neither (s.index == index) (is_none s.contents) contents (or-false _ fault)
no-fault file s contents related named (error.SectionError index _) fault = neither (s.index == index) false refl (or-false _ fault)
no-fault file s contents related named error.UnsupportedRelocationTarget fault = cc (sym related ∙ or-false _ fault)
no-fault file s contents related named e fault = fault

has-name-named : (name : List ℕ) (found : Option (List ℕ)) → option_map_or (λ text. bytes_eq text name) found false ≡ true → is_none found ≡ false
has-name-named name None is = absurd (cc is)
has-name-named name (Some text) is = refl

pub sound_first : (file name : List ℕ) (found : Option Section) → section_named file name ≡ found → IfSome found (λ s. (is_none s.contents ≡ false) × (has_relocation_without_symbol file s ≡ false)) → HasSoundFirst file name
sound_first file name found is sound = record { none = λ e fault. by found is sound e (subst (λ (o : Option Section). IsSomeAnd o (λ s. HasSectionsFault file (s ∷ []) e)) is fault) }
  where
    by : (o : Option Section) → section_named file name ≡ o → IfSome o (λ s. (is_none s.contents ≡ false) × (has_relocation_without_symbol file s ≡ false)) → (e : ParseError) → IsSomeAnd o (λ s. HasSectionsFault file (s ∷ []) e) → ⊥
    by None is sound e fault = fault
    by (Some s) is sound e fault = no-fault file s sound.0 sound.1 (has-name-named name s.name (passes (has_name name) (sections_of file) s is)) e fault
