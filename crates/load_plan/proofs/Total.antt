-- A pass over types that has no fault can be made.
use Rattle.std.proofs.Common.{◌≡◌, ℕ, Bool, true, false, List, [], ◌∷◌, map, Option, None, Some, refl, ap, inl, inr, length}
use Rattle.std.specs.BTreeMap.{is_at}
use Rattle.std.specs.Map.{keys_of}
use Rattle.std.specs.Option.{option_map}
use Rattle.std.specs.Prelude.{◌==◌, if◌then◌else◌}
use Rattle.btf_records.specs.declared.error.BtfError.{BtfError}
use Rattle.btf_records.specs.declared.feature.BtfFeature.{BtfFeature}
use Rattle.btf_rewrite.specs.Sanitizing.{StepFault, facts_in, sanitized, stepped}
use Rattle.btf_sanitize.proofs.Kept.{kept}
use Rattle.btf_sanitize.specs.Answers.{Answers}
use Rattle.btf_storage.specs.Faultless.{IsFaultless}
use Rattle.btf_tables.specs.Tables.{Table}
use Rattle.core_relocation.specs.Writes.{with_types}
use Rattle.ebpf_object.specs.TypeRelocations.{type_section_infos, types_of}
use Rattle.elf64.specs.Symbols.{symbols_of}
use Rattle.object_file.specs.Named.{last_section, last_symbol}
use Rattle.object_file.specs.Reading.{read_sections}
use Rattle.object_parts.specs.Content.{FunctionContent, function_at, key_cmp}
use Rattle.ebpf_object.specs.Rewriting.{AreAsked, AreNumbersOf, CannotRewrite, IsRewritten, IsRewrittenIf, TableFault}
use Rattle.relocation_errors.specs.declared.type_relocations.BtfRelocationCause.{BtfRelocationCause}
use Rattle.load_plan.specs.Inputs.{GoByFeature, State}
use Rattle.load_plan.specs.Passes.{CannotRelocateTypes, RelocatesTypes, RewritesTypes}
use Rattle.load_plan.proofs.Questions.{answers_to_all}
use Rattle.load_plan.proofs.Rewriting.{rewriting_kept, step_stays, texts_stay}

-- The sizes of sections and the offsets of symbols by name in a file.

abbrev sizes_in : List ℕ → List ℕ → Option ℕ
sizes_in file name = option_map (λ s. s.size) (last_section (read_sections file) name)

abbrev offsets_in : List ℕ → List ℕ → Option ℕ
offsets_in file name = option_map (λ s. s.address) (last_symbol (symbols_of file) name)

numbers_in : (file : List ℕ) → AreNumbersOf file (sizes_in file) (offsets_in file)
numbers_in file = record { size_at = λ name. refl; offset_at = λ name. refl }

-- Types that are rewritten for a choice of features.
pub record Rewritten (grants : BtfFeature → Bool) (file : List ℕ) (ksyms : Option (ℕ × Option ℕ))
    (types : Option Table) : Type 0 where
  pub answers : Answers
  pub goes : GoByFeature grants answers
  pub new : Option Table
  pub rewritten : IsRewritten answers file ksyms types new

abbrev NoFault : (BtfFeature → Bool) → List ℕ → Option (ℕ × Option ℕ) → Option Table → Type 0
NoFault grants file ksyms types =
    (answers : Answers) (e : BtfError) → GoByFeature grants answers → CannotRewrite answers file ksyms types e → ⊥

rewritten_table : (grants : BtfFeature → Bool) (file : List ℕ) (ksyms : Option (ℕ × Option ℕ)) (table : Table)
    → ((answers : Answers) (e : BtfError) → GoByFeature grants answers → TableFault answers file ksyms table e → ⊥)
    → (answers : Answers) × GoByFeature grants answers × ((new : Table) × IsRewrittenIf false answers file ksyms table new)
rewritten_table grants file ksyms table none =
    let step = stepped ksyms table in
    let all = answers_to_all grants step.strings step.types in
    let sizes = sizes_in file in
    let offsets = offsets_in file in
    let asked : AreAsked step all.answers = record { questions = all.questions; once = all.once } in
    let whole : IsFaultless (StepFault ksyms table) = record {
      none = λ e fault. none all.answers e all.goes (record { sizes = sizes; offsets = offsets; numbers = numbers_in file; fault = inl fault });
    } in (
      all.answers,
      all.goes,
      (
        sanitized all.answers sizes offsets step,
        record {
          sizes = sizes;
          offsets = offsets;
          numbers = numbers_in file;
          asked = asked;
          table_is = refl;
          stepped_whole = whole;
          accepted = record {
            none = record {
              none = λ e fault. none all.answers e all.goes (record { sizes = sizes; offsets = offsets; numbers = numbers_in file; fault = inr (whole, (asked, fault)) });
            };
          };
          step = step_stays ksyms table;
          keeps = kept (facts_in all.answers sizes offsets step);
          texts = texts_stay ksyms all.answers sizes offsets table;
          carries = rewriting_kept ksyms all.answers sizes offsets table;
        },
      ),
    )

types_rewritten : (grants : BtfFeature → Bool) (file : List ℕ) (ksyms : Option (ℕ × Option ℕ)) (types : Option Table)
    → NoFault grants file ksyms types → Rewritten grants file ksyms types
types_rewritten grants file ksyms None none =
    record { answers = []; goes = tt; new = None; rewritten = record { same = refl; unasked = refl } }
types_rewritten grants file ksyms (Some table) none = by (length table.types == 0) refl where
  by : (t : Bool) → (length table.types == 0) ≡ t → Rewritten grants file ksyms (Some table)
  by true is = record {
    answers = [];
    goes = tt;
    new = Some table;
    rewritten = rw is (record { same = refl; unasked = refl });
  }
  by false is =
      let made = rewritten_table grants file ksyms table (λ answers e goes fault. none answers e goes (is, fault)) in
      record { answers = made.0; goes = made.1; new = Some made.2.0; rewritten = rw is made.2.1 }

-- The rewriting of an object's types that has no fault is made.
pub rewriting_made : (grants : BtfFeature → Bool) (s : State) → NoFault grants s.file s.externs.ksyms s.types
    → (answers : Answers) × GoByFeature grants answers × ((t : State) × RewritesTypes answers s t)
rewriting_made grants s none =
    let made = types_rewritten grants s.file s.externs.ksyms s.types none in
    (made.answers, made.goes, (record s { types = made.new }, record { types = made.rewritten; others = refl }))

-- Functions that are changed under their keys.

abbrev changed : (FunctionContent → FunctionContent) → List ((ℕ × ℕ) × FunctionContent) → List ((ℕ × ℕ) × FunctionContent)
changed change functions = map (λ e. (e.0, change e.1)) functions

changed_keys : (change : FunctionContent → FunctionContent) (functions : List ((ℕ × ℕ) × FunctionContent)) → keys_of (changed change functions) ≡ keys_of functions
changed_keys change [] = refl
changed_keys change (f ∷ fs) = ap (λ (keys : List (ℕ × ℕ)). f.0 ∷ keys) (changed_keys change fs)

changed_at : (change : FunctionContent → FunctionContent) (functions : List ((ℕ × ℕ) × FunctionContent)) (key : ℕ × ℕ) → function_at (changed change functions) key ≡ option_map change (function_at functions key)
changed_at change [] key = refl
changed_at change (f ∷ fs) key = by (is_at (key_cmp key) f.0) (changed_at change fs key) where
  by : (t : Bool) → function_at (changed change fs) key ≡ option_map change (function_at fs key)
      → (if t then Some (change f.1) else function_at (changed change fs) key) ≡ option_map change (if t then Some f.1 else function_at fs key)
  by true rest = refl
  by false rest = rest

-- Type relocations that have no fault are made.
pub relocating_made : (kernel : List Table) (s : State) → ((c : BtfRelocationCause) → CannotRelocateTypes kernel s c → ⊥)
    → (t : State) × RelocatesTypes kernel s t
relocating_made kernel s none =
    let change = with_types (types_of s kernel) (type_section_infos s) in (
      record s { functions = changed change s.functions },
      record {
        functions = record { keys = changed_keys change s.functions; at = changed_at change s.functions };
        sound = record { none = none };
        others = refl;
      },
    )
