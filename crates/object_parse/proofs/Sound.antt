-- Sections without faults.
use Rattle.std.proofs.Common.{◌≡◌, Bool, true, false, List, length, refl, ap, ◌∙◌, ◌&&◌, ◌==◌}
use Rattle.std.proofs.Math.Bool.{and-false}
use Rattle.std.specs.List.{list_any}
use Rattle.std.specs.Prelude.{is_none, is_some, Result, Ok, Err, OnOk}
use Rattle.elf64.specs.Sections.{Section}
use Rattle.elf64.specs.Symbols.{Symbol}
use Rattle.object_file.specs.Kinds.{kind_of}
use Rattle.object_file.specs.Symbols.{symbols_in}
use Rattle.object_parse.specs.Faults.{AreDistinct, IsSound}
use Rattle.object_parse.specs.Programs.{has_no_code, is_program, is_program_kind, program_kind}
use Rattle.object_parse.specs.TextSections.{function_addresses, has_unsound_place, is_text_section, is_text_section_kind}
use Rattle.section_kinds.specs.declared.section_kind.EbpfSectionKind.{EbpfSectionKind}
use Rattle.section_kinds.specs.declared.section_kind.EbpfSectionKind.TheVariants.{Text, Program}

and-right : (a b : Bool) → (a && b) ≡ true → b ≡ true
and-right true b h = h
and-right false b h = absurd (cc)

no-program-kind : (kind : EbpfSectionKind) → is_text_section_kind kind ≡ true → is_program_kind kind ≡ false
no-program-kind Text h = refl
no-program-kind Program h = absurd (cc)
no-program-kind _ h = absurd (cc)

no-text-kind : (kind : EbpfSectionKind) → is_program_kind kind ≡ true → is_text_section_kind kind ≡ false
no-text-kind Program h = refl
no-text-kind Text h = absurd (cc)
no-text-kind _ h = absurd (cc)

no-program : (section : Section) → is_text_section section ≡ true → is_program section ≡ false
no-program section text =
    ap (λ b. is_some section.name && b) (no-program-kind (kind_of section) (and-right (is_some section.name) _ text)) ∙ and-false (is_some section.name)

no-text : (section : Section) → is_program section ≡ true → is_text_section section ≡ false
no-text section program =
    ap (λ b. is_some section.name && b) (no-text-kind (kind_of section) (and-right (is_some section.name) _ program)) ∙ and-false (is_some section.name)

first-none : (first other : Bool) → first ≡ false → (first && other) ≡ false
first-none true other h = absurd (cc)
first-none false other h = refl

other-none : (first other : Bool) → other ≡ false → (first && other) ≡ false
other-none true other h = rw h refl
other-none false other h = refl

pub text-sound : (symbols : List Symbol) (section : Section) → is_text_section section ≡ true → AreDistinct (function_addresses (symbols_in symbols section.index)) → has_unsound_place symbols section ≡ false → IsSound symbols section
text-sound symbols section text distinct tiled = record {
  valid = first-none (is_program section) _ (no-program section text);
  with_symbols = first-none (is_program section) _ (no-program section text);
  with_code = first-none (is_program section) _ (no-program section text);
  distinct = λ address. other-none (is_text_section section) _ (distinct.none address);
  tiled = other-none (is_text_section section) _ tiled;
}

pub program-sound : (symbols : List Symbol) (section : Section) → is_program section ≡ true → is_none (program_kind section) ≡ false → (length (symbols_in symbols section.index) == 0) ≡ false → list_any (has_no_code section) (symbols_in symbols section.index) ≡ false → IsSound symbols section
program-sound symbols section program known lie code = record {
  valid = other-none (is_program section) _ known;
  with_symbols = other-none (is_program section) _ lie;
  with_code = other-none (is_program section) _ code;
  distinct = λ address. first-none (is_text_section section) _ (no-text section program);
  tiled = first-none (is_text_section section) _ (no-text section program);
}

pub if-ok : {T E : Type 0} {P Q : Type 0} (r : Result T E) → (P → Q) → OnOk r P → OnOk r Q
if-ok (Ok x) f p = f p
if-ok (Err e) f p = p

-- A section of another kind is sound.
pub other-sound : (symbols : List Symbol) (section : Section) → is_program section ≡ false → is_text_section section ≡ false → IsSound symbols section
other-sound symbols section program text = record {
  valid = first-none (is_program section) _ program;
  with_symbols = first-none (is_program section) _ program;
  with_code = first-none (is_program section) _ program;
  distinct = λ address. first-none (is_text_section section) _ text;
  tiled = first-none (is_text_section section) _ text;
}
