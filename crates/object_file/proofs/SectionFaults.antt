-- Faults of one section, of the sections that it belongs to, and of the file.
use Rattle.std.proofs.Common.{◌≡◌, ℕ, ◌<◌, Bool, true, false, List, [], ◌∷◌, length, get_or, refl, sym, ap, ◌∙◌}
use Rattle.std.proofs.lemmas.List.Folds.{list_any_at}
use Rattle.std.specs.List.{Contains, list_any}
use Rattle.elf64.specs.Sections.{Section}
use Rattle.ebpf_items.specs.declared.error.ParseError.{ParseError}
use Rattle.ebpf_items.specs.declared.error.ParseError.TheVariants as error
use Rattle.object_file.specs.Faults.{HasFileFault, HasHeldFault, HasSectionsFault}
use Rattle.object_file.specs.Reading.{read_sections}
use Rattle.elf64.specs.Faults as elf

or-false : (a : Bool) → (list_any (λ (b : Bool). b) (a ∷ [])) ≡ true → a ≡ true
or-false true h = refl
or-false false h = h

one : {X : Type 0} (p : X → Bool) (xs : List X) (i : ℕ) (x : X) → i < length xs → x ≡ get_or xs i x → list_any p (x ∷ []) ≡ true → list_any p xs ≡ true
one p xs i x within is passes = list_any_at p xs i x within (ap p (sym is) ∙ or-false (p x) passes)

-- A fault of one section is a fault of the sections that it belongs to.
pub sections_fault_at : (file : List ℕ) (sections : List Section) (i : ℕ) (section : Section) → i < length sections → section ≡ get_or sections i section → (e : ParseError) → HasSectionsFault file (section ∷ []) e → HasSectionsFault file sections e
sections_fault_at file sections i section within is (error.SectionError index e) fault = one _ sections i section within is fault
sections_fault_at file sections i section within is error.UnsupportedRelocationTarget fault = one _ sections i section within is fault
sections_fault_at file sections i section within is e fault = absurd fault

-- A fault of the sections that are read is a fault of the file.
pub held_fault : (file : List ℕ) (e : ParseError) → HasSectionsFault file (read_sections file) e → HasHeldFault file e
held_fault file (error.SectionError index e) fault = fault
held_fault file error.UnsupportedRelocationTarget fault = fault
held_fault file e fault = absurd fault

pub file_fault : (file : List ℕ) → elf.IsFaultless file → (e : ParseError) → HasHeldFault file e → HasFileFault file e
file_fault file sound (error.ElfError e) fault = absurd fault
file_fault file sound e fault = (sound, fault)

-- A fault of a section that is read is a fault of the file.
pub read_fault : (file : List ℕ) (section : Section) → elf.IsFaultless file → (e : ParseError) → HasSectionsFault file (section ∷ []) e → Contains (read_sections file) section → HasFileFault file e
read_fault file section sound e fault among = file_fault file sound e (held_fault file e (sections_fault_at file (read_sections file) among.0 section among.1 (sym among.2) e fault))
