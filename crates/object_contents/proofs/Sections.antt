-- Sections of a file that are read one after the other.
use Rattle.std.proofs.Common.{◌≡◌, ◌⊎◌, ℕ, Bool, false, List, [], ◌∷◌, ◌++◌, Option, refl, sym, ap, ◌∙◌, subst, inr, inl, arith}
use Rattle.std.proofs.lemmas.List.{append_assoc}
use Rattle.std.proofs.lemmas.List.Concat.{flat_map-append}
use Rattle.std.proofs.lemmas.List.Elements.{All-nil, All-push, Contains-append_right}
use Rattle.std.proofs.lemmas.List.Folds.{list_any-append}
use Rattle.std.proofs.lemmas.List.Sums.{fold-append}
use Rattle.std.specs.Prelude.{Contains, flat_map, fold}
use Rattle.std.specs.List.{list_any}
use Rattle.btf_ext.specs.Extensions.{Extension}
use Rattle.btf_tables.specs.Tables.{Table}
use Rattle.ebpf_items.specs.Maps.{MapView}
use Rattle.ebpf_items.specs.declared.error.ParseError.{ParseError}
use Rattle.elf64.specs.Sections.{Section}
use Rattle.elf64.specs.Symbols.{Symbol, symbols_of}
use Rattle.object_file.specs.Faults.{HasFileFault}
use Rattle.object_file.specs.License.{license_of}
use Rattle.object_file.specs.Reading.{is_unreadable, read_sections}
use Rattle.object_file.specs.Relocations.{has_relocation_without_symbol}
use Rattle.object_file.specs.Symbols.{symbols_in}
use Rattle.object_file.specs.Version.{version_of}
use Rattle.object_maps.specs.Faults.{Says}
use Rattle.object_maps.specs.Found.{entered, with_map}
use Rattle.object_maps.specs.Maps.{section_faults, section_faults_in, section_maps_in}
use Rattle.object_parse.specs.Faults as code
use Rattle.object_parse.specs.Faults.{HasSoundCode}
use Rattle.object_parse.specs.Functions.{with_functions, with_section_programs}
use Rattle.object_parts.specs.Content.{HaveFunctions}
use Rattle.object_contents.specs.Contents.{AreContentsOf}
use Rattle.object_contents.specs.Faults.{HasSectionFault}
use Rattle.object_contents.specs.declared.contents.Contents.{Contents}

-- ---- One more section

no-section : {X : Type 0} (p : X → Bool) (xs : List X) (x : X) → list_any p xs ≡ false → p x ≡ false → list_any p (xs ++ x ∷ []) ≡ false
no-section p xs x none here = list_any-append p xs (x ∷ []) ∙ rw (none, here) refl

no-faults : {X A : Type 0} (f : X → List A) (xs : List X) (x : X) → flat_map f xs ≡ [] → f x ≡ [] → flat_map f (xs ++ x ∷ []) ≡ []
no-faults f xs x none here = flat_map-append f xs (x ∷ []) ∙ rw (none, here) refl

right : {A : Type 0} (xs : List A) → xs ++ [] ≡ xs
right [] = refl
right (x ∷ xs) = ap (λ ys. x ∷ ys) (right xs)

entered-more : {X : Type 0} (f : X → List (List ℕ × MapView)) (xs : List X) (x : X) → entered (entered [] (flat_map f xs)) (f x) ≡ entered [] (flat_map f (xs ++ x ∷ []))
unfolding entered
entered-more f xs x =
    sym (fold-append with_map [] (flat_map f xs) (f x))
    ∙ ap (fold with_map []) (ap (λ ys. flat_map f xs ++ ys) (sym (right (f x))) ∙ sym (flat_map-append f xs (x ∷ [])))

module _ (file : List ℕ) (table : Option Table) (extension : Option Extension) where
  pub none_read : (contents : Contents) → contents.sections.items ≡ [] → contents.code.programs ≡ [] → contents.code.functions ≡ [] → HaveFunctions contents.code.programs contents.code.functions → contents.maps ≡ [] → AreContentsOf file table extension [] contents
  unfolding entered
  none_read contents sections programs functions complete maps = record {
    read = sections;
    readable = refl;
    related = refl;
    programs = programs;
    functions = functions;
    complete = complete;
    sound = All-nil (HasSoundCode (symbols_of file));
    maps = maps;
    faultless = refl;
  }

  pub one_read : (sections : List Section) (section : Section) (old new : Contents) → AreContentsOf file table extension sections old → new.sections.items ≡ old.sections.items ++ section ∷ [] → is_unreadable section ≡ false → has_relocation_without_symbol file section ≡ false → new.code.programs ≡ with_section_programs (license_of file) (version_of file) (symbols_of file) old.code.programs section → new.code.functions ≡ with_functions extension (symbols_of file) old.code.functions section → HaveFunctions new.code.programs new.code.functions → HasSoundCode (symbols_of file) section → new.maps ≡ entered old.maps (section_maps_in file table section) → section_faults_in file table section ≡ [] → AreContentsOf file table extension (sections ++ section ∷ []) new
  one_read sections section old new are read readable related programs functions complete sound maps faultless = record {
    read = read ∙ ap (λ xs. xs ++ section ∷ []) are.read;
    readable = no-section is_unreadable sections section are.readable readable;
    related = no-section (has_relocation_without_symbol file) sections section are.related related;
    programs = programs ∙ ap (λ ps. with_section_programs (license_of file) (version_of file) (symbols_of file) ps section) are.programs ∙ sym (fold-append (with_section_programs (license_of file) (version_of file) (symbols_of file)) [] sections (section ∷ []));
    functions = functions ∙ ap (λ fs. with_functions extension (symbols_of file) fs section) are.functions ∙ sym (fold-append (with_functions extension (symbols_of file)) [] sections (section ∷ []));
    complete = complete;
    sound = All-push (HasSoundCode (symbols_of file)) sections section are.sound sound;
    maps = maps ∙ ap (λ ms. entered ms (section_maps_in file table section)) are.maps ∙ entered-more (section_maps_in file table) sections section;
    faultless = no-faults (section_faults_in file table) sections section are.faultless faultless;
  }

-- The next section is one of those that are read.
pub next_is_read : (sections done rest : List Section) (view : Section) → done ++ view ∷ rest ≡ sections → Contains sections view
next_is_read sections done rest view all = subst (λ xs. Contains xs view) all (Contains-append_right done (view ∷ rest) view (0, omega arith, refl))

-- The sections before the next one, and it, are read.
pub one_more : (sections done rest new : List Section) (view : Section) → new ≡ done ++ view ∷ [] → done ++ view ∷ rest ≡ sections → new ++ rest ≡ sections
one_more sections done rest new view is all = ap (λ xs. xs ++ rest) is ∙ append_assoc done (view ∷ []) rest ∙ all

-- No section is left.
pub none_left : (sections done rest : List Section) → rest ≡ [] → done ++ rest ≡ sections → done ≡ sections
none_left sections done rest none all = sym (right done) ∙ ap (λ xs. done ++ xs) (sym none) ∙ all

-- ---- A fault of one section

module _ (file : List ℕ) (types : Option Table) (view section : Section) (e : ParseError) (same : section ≡ view) (read : Contains (read_sections file) view) (readable : is_unreadable view ≡ false) where
  -- A fault of its functions.
  pub code_wrong : code.HasSectionFault (symbols_of file) section e → HasFileFault file e ⊎ HasSectionFault file types e
  code_wrong fault = inr (record { section = view; is_read = read; readable = readable; fault = inl (subst (λ s. code.HasSectionFault (symbols_of file) s e) same fault) })

  -- A fault of its maps.
  pub maps_wrong : (symbols : List Symbol) → symbols ≡ symbols_in (symbols_of file) section.index → Says (section_faults types symbols section) e → HasFileFault file e ⊎ HasSectionFault file types e
  maps_wrong symbols given fault =
      inr (record {
        section = view;
        is_read = read;
        readable = readable;
        fault = inr (subst (λ s. Says (section_faults types (symbols_in (symbols_of file) s.index) s) e) same (subst (λ ss. Says (section_faults types ss section) e) given fault));
      })
