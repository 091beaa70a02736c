-- Faults of places, of the sections that they lie in, and of all sections.
use Rattle.std.proofs.Common.{◌≡◌, ℕ, ◌<◌, Bool, true, false, List, refl, sym, ◌&&◌, ◌||◌, ◌==◌}
use Rattle.std.proofs.lemmas.Bool.{eq-eqb}
use Rattle.std.specs.Prelude.{Result, Ok, Err, IfErr}
use Rattle.elf64.specs.Sections.{Section}
use Rattle.elf64.specs.Symbols.{Symbol}
use Rattle.ebpf_items.specs.declared.error.ParseError.{ParseError}
use Rattle.ebpf_items.specs.declared.error.ParseError.TheVariants as error
use Rattle.object_file.specs.Symbols.{symbols_in}
use Rattle.object_parts.specs.Content.{FunctionContent}
use Rattle.object_parse.proofs.Entered.{place-stands}
use Rattle.object_parse.specs.Faults.{HasPlaceFault, HasSectionFault, PlaceFault, is_cut, is_unknown}
use Rattle.object_parse.specs.Places.{AreEntered, byte_count}
use Rattle.object_parse.specs.SectionInfos.{SectionInfo}
use Rattle.object_parse.specs.TextSections.{is_text_section, place_at}

-- A fault of the place at an offset is a fault of the section's places.
pub place-fault : (info : SectionInfo) (symbols : List Symbol) (section : Section) (old new : List ((ℕ × ℕ) × FunctionContent)) (offset : ℕ) → AreEntered info symbols section old new offset → offset < byte_count section → (e : ParseError) → PlaceFault section (place_at (symbols_in symbols section.index) section.address offset) e → HasPlaceFault symbols section e
place-fault info symbols section old new offset entered left (error.UnknownSymbol index address) fault =
    (fault.0, place-stands (is_unknown section address) info symbols section old new offset entered left fault.1)
place-fault info symbols section old new offset entered left (error.InvalidSymbol index name) fault =
    place-stands _ info symbols section old new offset entered left fault
place-fault info symbols section old new offset entered left error.InvalidProgramCode fault =
    place-stands (is_cut (byte_count section)) info symbols section old new offset entered left fault
place-fault info symbols section old new offset entered left e fault = fault

both : (a b : Bool) → a ≡ true → b ≡ true → (a && b) ≡ true
both a b h k = rw (h, k) refl

second : (a b c : Bool) → b ≡ true → c ≡ true → (a || (b && c)) ≡ true
second true b c k l = refl
second false b c k l = rw (k, l) refl

-- A fault of a place of a `.text` section is a fault of the section.
pub text-fault : (symbols : List Symbol) (section : Section) → is_text_section section ≡ true → (e : ParseError) → HasPlaceFault symbols section e → HasSectionFault symbols section e
text-fault symbols section text (error.UnknownSymbol index address) fault = both (section.index == index) _ (eq-eqb section.index index (sym fault.0)) (both _ _ text fault.1)
text-fault symbols section text (error.InvalidSymbol index name) fault = both _ _ text fault
text-fault symbols section text error.InvalidProgramCode fault = second _ _ _ text fault
text-fault symbols section text e fault = absurd fault

pub if-err : {T E : Type 0} {P Q : E → Type 0} (r : Result T E) → ((e : E) → P e → Q e) → IfErr r P → IfErr r Q
if-err (Ok x) f p = p
if-err (Err e) f p = f e p
