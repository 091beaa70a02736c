-- Sound sections have no fault.
use Rattle.std.proofs.Common.{◌≡◌, ℕ, Bool, true, false, List, [], ◌∷◌, Option, Some, None, refl, ◌&&◌, ◌||◌, ◌==◌}
use Rattle.std.specs.List.{list_any}
use Rattle.std.specs.Option.{option_map_or}
use Rattle.std.specs.Prelude.{is_none, not, if◌then◌else◌}
use Rattle.elf64.specs.Sections.{Section}
use Rattle.elf64.specs.Symbols.{Symbol}
use Rattle.ebpf_items.specs.declared.error.ParseError.{ParseError}
use Rattle.ebpf_items.specs.declared.error.ParseError.TheVariants as error
use Rattle.object_file.specs.Symbols.{is_named}
use Rattle.object_parse.specs.Faults.{IsSound, HasSectionFault, has_cut_function, has_function_without_code, has_gap, is_cut, is_empty, is_empty_symbol, is_unknown}
use Rattle.object_parse.specs.Places.{byte_count}
use Rattle.object_parse.specs.TextSections.{Place, has_code_at, is_sound_at, is_text_section, is_unsound, places_of}

and-right : (a b : Bool) → (a && b) ≡ true → b ≡ true
and-right true b h = h
and-right false b h = absurd (cc)

and-left : (a b : Bool) → (a && b) ≡ true → a ≡ true
and-left true b h = refl
and-left false b h = absurd (cc)

both-true : (a b : Bool) → a ≡ true → b ≡ true → (a && b) ≡ true
both-true a b h k = rw (h, k) refl

not-both : (b : Bool) → b ≡ true → b ≡ false → ⊥
not-both true h k = absurd (cc)
not-both false h k = absurd (cc)

by-first : (a rest : Bool) {G : Type 0} → (a || rest) ≡ true → (a ≡ true → G) → (rest ≡ true → G) → G
by-first true rest h p q = p refl
by-first false rest h p q = q h

or-left : (a b : Bool) → a ≡ true → (a || b) ≡ true
or-left true b h = refl
or-left false b h = absurd (cc)

or-right : (a b : Bool) → b ≡ true → (a || b) ≡ true
or-right true b h = refl
or-right false b h = h

-- An element that passes a test passes a weaker test.
some-weaker : {X : Type 0} (p q : X → Bool) → ((x : X) → p x ≡ true → q x ≡ true) → (xs : List X) → list_any p xs ≡ true → list_any q xs ≡ true
some-weaker p q weaker [] some = absurd (cc)
some-weaker p q weaker (x ∷ xs) some =
    by-first (p x) (list_any p xs) some (λ here. or-left (q x) (list_any q xs) (weaker x here))
    (λ later. or-right (q x) (list_any q xs) (some-weaker p q weaker xs later))

-- A place with a fault has no function with code.
unknown-unsound : (o : Option Symbol) (other : Bool) (sound : Symbol → Bool) → (is_none o && other) ≡ true → not (option_map_or sound o false) ≡ true
unknown-unsound None other sound h = refl
unknown-unsound (Some s) other sound h = absurd (cc)

sound-not-empty : (index empty name fits : Bool) → ((index && empty) && name) ≡ true → not (not empty && fits) ≡ true
sound-not-empty index true name fits h = refl
sound-not-empty true false name fits h = absurd (cc)
sound-not-empty false false name fits h = absurd (cc)

empty-unsound : (len offset index : ℕ) (name : Option (List ℕ)) (o : Option Symbol) → option_map_or (is_empty_symbol index name) o false ≡ true → not (option_map_or (is_sound_at len offset) o false) ≡ true
empty-unsound len offset index name None h = absurd (cc)
empty-unsound len offset index name (Some s) h = sound-not-empty (s.index == index) (s.size == 0) (option_map_or (λ n. is_named n s) name false) (has_code_at len offset s) h

cut : (empty fits : Bool) → (if fits then false else true) ≡ true → not (not empty && fits) ≡ true
cut true fits h = refl
cut false true h = absurd (cc)
cut false false h = refl

cut-unsound : (len offset : ℕ) (o : Option Symbol) → option_map_or (λ s. if has_code_at len offset s then false else true) o false ≡ true → not (option_map_or (is_sound_at len offset) o false) ≡ true
cut-unsound len offset None h = absurd (cc)
cut-unsound len offset (Some s) h = cut (s.size == 0) (has_code_at len offset s) h

-- A section with a place that has a fault has a gap.
gap : (here : Place → Bool) (symbols : List Symbol) (section : Section) → ((p : Place) → here p ≡ true → is_unsound (byte_count section) p ≡ true) → (is_text_section section && list_any here (places_of symbols section)) ≡ true → has_gap symbols section ≡ true
gap here symbols section weaker h =
    both-true (is_text_section section) _ (and-left (is_text_section section) _ h)
    (some-weaker here (is_unsound (byte_count section)) weaker (places_of symbols section) (and-right (is_text_section section) _ h))

pub no-section-fault : (symbols : List Symbol) (section : Section) → IsSound symbols section → (e : ParseError) → HasSectionFault symbols section e → ⊥
no-section-fault symbols section sound (error.InvalidProgramSection name) fault = not-both _ (and-right _ _ fault) sound.valid
no-section-fault symbols section sound (error.NoSymbolsForSection name) fault = not-both _ (and-right _ _ fault) sound.with_symbols
no-section-fault symbols section sound error.InvalidProgramCode fault =
    by-first (has_function_without_code symbols section) (has_cut_function symbols section) fault (λ here. not-both _ here sound.with_code)
    (λ cut. not-both _ (gap (is_cut (byte_count section)) symbols section (λ p. cut-unsound (byte_count section) p.offset p.symbol) cut) sound.tiled)
no-section-fault symbols section sound (error.SymbolTableConflict index address) fault = not-both _ (and-right _ _ fault) (sound.distinct address)
no-section-fault symbols section sound (error.UnknownSymbol index address) fault =
    not-both _ (gap (is_unknown section address) symbols section (λ p. unknown-unsound p.symbol _ (is_sound_at (byte_count section) p.offset)) (and-right _ _ fault)) sound.tiled
no-section-fault symbols section sound (error.InvalidSymbol index name) fault =
    not-both _ (gap (is_empty index _) symbols section (λ p. empty-unsound (byte_count section) p.offset index _ p.symbol) fault) sound.tiled
no-section-fault symbols section sound e fault = fault
