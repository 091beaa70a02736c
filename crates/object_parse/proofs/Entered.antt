-- The functions of a `.text` section, inserted one by one.
use Rattle.std.proofs.Common.{◌≡◌, ℕ, zero, suc, ◌+◌, ◌≤◌, ◌<◌, ◌^◌, Bool, true, false, List, [], ◌∷◌, ◌++◌, Option, Some, None, refl, sym, ap, ◌∙◌, ◌&&◌, ◌||◌, ◌==◌, arith, append_assoc, append-nil}
use Rattle.std.proofs.lemmas.Bool.{lt-ltb}
use Rattle.std.proofs.lemmas.List.Folds.{list_any-append}
use Rattle.std.proofs.lemmas.List.Sums.{fold-append}
use Rattle.std.specs.BTreeMap.{BTreeMap, insert_entry}
use Rattle.std.specs.List.{list_any}
use Rattle.std.specs.Option.{IsSomeAnd, option_map_or}
use Rattle.std.specs.Prelude.{fold, nat_lt, not, if◌then◌else◌}
use Rattle.elf64.specs.Sections.{Section}
use Rattle.elf64.specs.Symbols.{Symbol}
use Rattle.object_file.specs.Symbols.{symbols_in}
use Rattle.object_parts.specs.Content.{FunctionContent, key_cmp}
use Rattle.object_parse.specs.Places.{AreDefinitionsOf, AreEntered, byte_count, defined_in, place_in}
use Rattle.object_parse.specs.SectionInfos.{SectionInfo}
use Rattle.object_parse.specs.TextSections.{Place, defined_at, is_sound_at, is_unsound, place_at, places_from, places_of, text_function_of, with_text_function}

-- The functions at the places from an offset on, with and without bytes that are left.
begun : (left : Bool) (p : Place) (rest : List Place) → left ≡ true → (if left then p ∷ rest else []) ≡ p ∷ rest
begun true p rest h = refl
begun false p rest h = absurd (cc)

ended : (left : Bool) (p : Place) (rest : List Place) → left ≡ false → (if left then p ∷ rest else []) ≡ []
ended true p rest h = absurd (cc)
ended false p rest h = refl

followed : (o : Option Symbol) (sound : Symbol → Bool) (next : Symbol → List Place) (s : Symbol) → o ≡ Some s → sound s ≡ true → option_map_or (λ s. if sound s then next s else []) o [] ≡ next s
followed o sound next s is well = rw (is, well) refl

abbrev rest_from : ℕ → List Symbol → ℕ → ℕ → ℕ → List Place
rest_from steps symbols address len offset =
    option_map_or (λ s. if is_sound_at len offset s then places_from steps symbols address len (offset + s.size) else []) (defined_at symbols (address + offset)) []

places-begin : (steps : ℕ) (symbols : List Symbol) (address len offset : ℕ) → offset < len → places_from (suc steps) symbols address len offset ≡ place_at symbols address offset ∷ rest_from steps symbols address len offset
unfolding places_from
places-begin steps symbols address len offset left = begun (nat_lt offset len) (place_at symbols address offset) (rest_from steps symbols address len offset) (lt-ltb offset len left)

places-end : (steps : ℕ) (symbols : List Symbol) (address len offset : ℕ) → nat_lt offset len ≡ false → places_from steps symbols address len offset ≡ []
unfolding places_from
places-end zero symbols address len offset over = refl
places-end (suc steps) symbols address len offset over = ended (nat_lt offset len) _ _ over

rest-sound : (steps : ℕ) (symbols : List Symbol) (address len offset : ℕ) (s : Symbol) → defined_at symbols (address + offset) ≡ Some s → is_sound_at len offset s ≡ true → rest_from steps symbols address len offset ≡ places_from steps symbols address len (offset + s.size)
rest-sound steps symbols address len offset s is well =
    followed (defined_at symbols (address + offset)) (is_sound_at len offset) (λ s. places_from steps symbols address len (offset + s.size)) s is well

-- Nothing is inserted at the section's beginning.
pub entered-start : (info : SectionInfo) (symbols : List Symbol) (section : Section) (old : List ((ℕ × ℕ) × FunctionContent)) → AreEntered info symbols section old old 0
entered-start info symbols section old = record {
  steps = byte_count section;
  done = [];
  enough = omega arith;
  all = refl;
  functions = refl;
  sound = refl;
}

any-second : (a b c : Bool) → b ≡ true → (a || (b || c)) ≡ true
any-second true b c h = refl
any-second false true c h = refl
any-second false false c h = absurd (cc)

-- The place at an offset is a place of the section.
stands : (here : Place → Bool) (steps : ℕ) (symbols : List Symbol) (address len offset : ℕ) (done all : List Place) → offset < len → len ≤ offset + steps → done ++ places_from steps symbols address len offset ≡ all → here (place_at symbols address offset) ≡ true → list_any here all ≡ true
stands here zero symbols address len offset done all left enough is passes = absurd (omega (arith, left, enough))
stands here (suc steps) symbols address len offset done all left enough is passes =
    ap (list_any here) (sym is)
    ∙ ap (λ rest. list_any here (done ++ rest)) (places-begin steps symbols address len offset left)
    ∙ list_any-append here done (place_at symbols address offset ∷ rest_from steps symbols address len offset)
    ∙ any-second (list_any here done) (here (place_at symbols address offset)) _ passes

pub place-stands : (here : Place → Bool) (info : SectionInfo) (symbols : List Symbol) (section : Section) (old new : List ((ℕ × ℕ) × FunctionContent)) (offset : ℕ) → AreEntered info symbols section old new offset → offset < byte_count section → here (place_at (symbols_in symbols section.index) section.address offset) ≡ true → list_any here (places_of symbols section) ≡ true
place-stands here info symbols section old new offset entered left passes =
    stands here entered.steps (symbols_in symbols section.index) section.address (byte_count section) offset entered.done (places_of symbols section) left entered.enough entered.all passes

-- The places after a function.
moved : (steps : ℕ) (symbols : List Symbol) (address len offset : ℕ) (s : Symbol) (done all : List Place) → offset < len → defined_at symbols (address + offset) ≡ Some s → is_sound_at len offset s ≡ true → done ++ places_from (suc steps) symbols address len offset ≡ all → (done ++ place_at symbols address offset ∷ []) ++ places_from steps symbols address len (offset + s.size) ≡ all
moved steps symbols address len offset s done all left is well whole =
    append_assoc done (place_at symbols address offset ∷ []) (places_from steps symbols address len (offset + s.size))
    ∙ ap (λ rest. done ++ place_at symbols address offset ∷ rest) (sym (rest-sound steps symbols address len offset s is well))
    ∙ ap (λ rest. done ++ rest) (sym (places-begin steps symbols address len offset left))
    ∙ whole

none-more : (a b : Bool) → a ≡ false → b ≡ false → (a || (b || false)) ≡ false
none-more a b h k = rw (h, k) refl

sound-size : (empty fits : Bool) → (not empty && fits) ≡ true → empty ≡ false
sound-size true fits h = absurd (cc)
sound-size false fits h = refl

one-at-least : (size : ℕ) → (size == 0) ≡ false → 1 ≤ size
one-at-least zero h = absurd (cc)
one-at-least (suc size) h = omega arith

next-steps : (steps : ℕ) (info : SectionInfo) (symbols : List Symbol) (section : Section) (old mid new : List ((ℕ × ℕ) × FunctionContent)) (offset : ℕ) (s : Symbol) (done : List Place) → offset < byte_count section → defined_at (symbols_in symbols section.index) (section.address + offset) ≡ Some s → is_sound_at (byte_count section) offset s ≡ true → new ≡ insert_entry key_cmp mid (section.index, s.address) (text_function_of info section offset s)
    → byte_count section ≤ offset + steps → done ++ places_from steps (symbols_in symbols section.index) section.address (byte_count section) offset ≡ places_of symbols section → mid ≡ fold (with_text_function info section) old done → list_any (is_unsound (byte_count section)) done ≡ false → AreEntered info symbols section old new (offset + s.size)
next-steps zero info symbols section old mid new offset s done left is well put enough whole functions sound = absurd (omega (arith, left, enough))
next-steps (suc steps) info symbols section old mid new offset s done left is well put enough whole functions sound =
    let size : 1 ≤ s.size = one-at-least s.size (sound-size (s.size == 0) _ well) in
    record {
      steps = steps;
      done = done ++ place_at (symbols_in symbols section.index) section.address offset ∷ [];
      enough = omega (arith, enough, size);
      all = moved steps (symbols_in symbols section.index) section.address (byte_count section) offset s done (places_of symbols section) left is well whole;
      functions =
          put
          ∙ ap (λ f. insert_entry key_cmp f (section.index, s.address) (text_function_of info section offset s)) functions
          ∙ sym (ap (λ o. option_map_or (λ s. insert_entry key_cmp (fold (with_text_function info section) old done) (section.index, s.address) (text_function_of info section offset s)) o (fold (with_text_function info section) old done)) is)
          ∙ sym (fold-append (with_text_function info section) old done (place_at (symbols_in symbols section.index) section.address offset ∷ []));
      sound =
          list_any-append (is_unsound (byte_count section)) done (place_at (symbols_in symbols section.index) section.address offset ∷ [])
          ∙ none-more (list_any (is_unsound (byte_count section)) done) _ sound
          (ap (λ o. not (option_map_or (is_sound_at (byte_count section) offset) o false)) is ∙ ap not well);
    }

-- A function is inserted after the others.
pub entered-next : (info : SectionInfo) (symbols : List Symbol) (section : Section) (old mid new : List ((ℕ × ℕ) × FunctionContent)) (offset : ℕ) (s : Symbol) → AreEntered info symbols section old mid offset → offset < byte_count section → defined_at (symbols_in symbols section.index) (section.address + offset) ≡ Some s → is_sound_at (byte_count section) offset s ≡ true
    → new ≡ insert_entry key_cmp mid (section.index, s.address) (text_function_of info section offset s) → AreEntered info symbols section old new (offset + s.size)
entered-next info symbols section old mid new offset s entered left is well put =
    next-steps entered.steps info symbols section old mid new offset s entered.done left is well put entered.enough entered.all entered.functions entered.sound

-- At the section's end all places have been visited.
all-met : (info : SectionInfo) (symbols : List Symbol) (section : Section) (old new : List ((ℕ × ℕ) × FunctionContent)) (offset : ℕ) (entered : AreEntered info symbols section old new offset) → nat_lt offset (byte_count section) ≡ false → entered.done ≡ places_of symbols section
all-met info symbols section old new offset entered over =
    sym (append-nil entered.done)
    ∙ ap (λ rest. entered.done ++ rest) (sym (places-end entered.steps (symbols_in symbols section.index) section.address (byte_count section) offset over))
    ∙ entered.all

pub entered-functions : (info : SectionInfo) (symbols : List Symbol) (section : Section) (old new : List ((ℕ × ℕ) × FunctionContent)) (offset : ℕ) → AreEntered info symbols section old new offset → nat_lt offset (byte_count section) ≡ false → new ≡ fold (with_text_function info section) old (places_of symbols section)
entered-functions info symbols section old new offset entered over =
    entered.functions ∙ ap (fold (with_text_function info section) old) (all-met info symbols section old new offset entered over)

pub entered-sound : (info : SectionInfo) (symbols : List Symbol) (section : Section) (old new : List ((ℕ × ℕ) × FunctionContent)) (offset : ℕ) → AreEntered info symbols section old new offset → nat_lt offset (byte_count section) ≡ false → list_any (is_unsound (byte_count section)) (places_of symbols section) ≡ false
entered-sound info symbols section old new offset entered over =
    ap (list_any (is_unsound (byte_count section))) (sym (all-met info symbols section old new offset entered over)) ∙ entered.sound

-- The map has the symbol of an address that the symbols have.
pub defined-in : (map : BTreeMap ℕ Symbol) (symbols : List Symbol) (address : ℕ) → AreDefinitionsOf map symbols → defined_in map address ≡ defined_at symbols address
defined-in map symbols address same = ap (λ o. if nat_lt address (2 ^ 64) then o else None) (same.at address)

pub place-in : (map : BTreeMap ℕ Symbol) (symbols : List Symbol) (address offset : ℕ) → AreDefinitionsOf map symbols → place_in map address offset ≡ place_at symbols address offset
place-in map symbols address offset same = ap (λ (o : Option Symbol). record { offset = offset; symbol = o }) (defined-in map symbols (address + offset) same)

-- The insertion for a symbol with code at an offset.
pub entered-after : (info : SectionInfo) (symbols : List Symbol) (section : Section) (old mid new : List ((ℕ × ℕ) × FunctionContent)) (offset end : ℕ) (o : Option Symbol) → AreEntered info symbols section old mid offset → offset < byte_count section → o ≡ defined_at (symbols_in symbols section.index) (section.address + offset)
    → IsSomeAnd o (λ s. (is_sound_at (byte_count section) offset s ≡ true) × (end ≡ offset + s.size) × (new ≡ insert_entry key_cmp mid (section.index, s.address) (text_function_of info section offset s))) → AreEntered info symbols section old new end
entered-after info symbols section old mid new offset end None entered left is found = absurd found
entered-after info symbols section old mid new offset end (Some s) entered left is found =
    rw found.1 (entered-next info symbols section old mid new offset s entered left (sym is) found.0 found.2)
