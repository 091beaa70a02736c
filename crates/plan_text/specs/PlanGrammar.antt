-- The text of a load plan, line by line.
use Rattle.std.specs.Prelude.{◌≡◌, ℕ, Bool, List, [], ◌∷◌, ◌++◌, map, flat_map, codes, Option, Some, None}
use Rattle.std.specs.List.{All}
use Rattle.std.specs.Fmt.{decimal}
use Rattle.btf_ext.specs.declared.record.bpf_func_info.{bpf_func_info}
use Rattle.btf_ext.specs.declared.record.bpf_line_info.{bpf_line_info}
use Rattle.btf_records.specs.declared.feature.BtfFeature.{BtfFeature}
use Rattle.ebpf_items.specs.declared.instruction.bpf_insn.{bpf_insn}
use Rattle.plan_text.specs.Content.{FitsPlan, IsSoundPlan, MapContent, PlanContent, ProgramContent}
use Rattle.plan_lines.specs.Lines.{answer_word, feature_word, form_word, number_word, numbers_of, table_words, types_word, version_word}
use Rattle.plan_lines.specs.ProgramKinds.{kind_numbers}
use Rattle.plan_lines.specs.Words.{hex_word, slot_bytes, text_of_lines}
use Rattle.plan_lines.specs.declared.line.TextVersion.{TextVersion}
use Rattle.plan_lines.specs.declared.line.TextVersion.TheVariants.{First, Second}
use Rattle.plan_lines.specs.declared.map_words.MapWords.{MapWords}
use Rattle.plan_lines.specs.declared.program_kind.KindNumbers.{KindNumbers}

-- The plan as a whole.

abbrev pub first_lines : TextVersion → PlanContent → List (List (List ℕ))
first_lines text_version plan =
    (codes "bpf-plan" ∷ number_word text_version ∷ [])
    ∷ (codes "license" ∷ hex_word plan.license ∷ [])
    ∷ (codes "version" ∷ version_word plan.version ∷ [])
    ∷ []

-- The line of a feature that was asked about.
abbrev pub feature_line : BtfFeature × Bool → List (List ℕ)
feature_line answer = codes "feature" ∷ feature_word answer.0 ∷ answer_word answer.1 ∷ []

abbrev pub types_line : Option (List ℕ) → List (List ℕ)
types_line type_bytes = codes "types" ∷ types_word type_bytes ∷ []

abbrev pub end_line : List (List ℕ)
end_line = codes "end" ∷ []

-- Maps.

abbrev pub map_line : MapContent → List (List ℕ)
map_line m =
    codes "map"
    ∷ hex_word m.name
    ∷ decimal m.number
    ∷ form_word m.is_btf
    ∷ (map decimal (numbers_of m.words) ++ hex_word m.contents ∷ [])

-- The line of the maps that a map holds.
abbrev pub inner_line : MapWords → List (List ℕ)
inner_line words = codes "inner" ∷ map decimal (numbers_of words)

abbrev pub inner_lines : Option MapWords → List (List (List ℕ))
inner_lines None = []
inner_lines (Some words) = inner_line words ∷ []

-- The line of a map, and the line of the maps that it holds.
abbrev pub map_lines : MapContent → List (List (List ℕ))
map_lines m = map_line m ∷ inner_lines m.inner

-- Programs.

abbrev pub program_line : List ℕ → KindNumbers → List (List ℕ)
program_line name numbers =
    codes "program"
    ∷ hex_word name
    ∷ decimal numbers.kind
    ∷ decimal numbers.first
    ∷ decimal numbers.second
    ∷ []

abbrev pub slots_line : List bpf_insn → List (List ℕ)
slots_line slots = codes "slots" ∷ hex_word (slot_bytes slots) ∷ []

abbrev pub tables_line : Option (List ℕ) → List (List ℕ)
tables_line tables = codes "tables" ∷ table_words tables

abbrev pub tables_lines : TextVersion → Option (List ℕ) → List (List (List ℕ))
tables_lines First tables = []
tables_lines Second tables = tables_line tables ∷ []

-- The line of a function record.
abbrev pub func_line : bpf_func_info → List (List ℕ)
func_line r = codes "func" ∷ decimal r.insn_off ∷ decimal r.type_id ∷ []

-- The line of a line record.
abbrev pub source_line : bpf_line_info → List (List ℕ)
source_line r =
    codes "line"
    ∷ decimal r.insn_off
    ∷ decimal r.file_name_off
    ∷ decimal r.line_off
    ∷ decimal r.line_col
    ∷ []

-- The lines of a program.
abbrev pub program_lines : TextVersion → ProgramContent → List (List (List ℕ))
program_lines text_version program =
    program_line program.name (kind_numbers program.section)
    ∷ slots_line program.slots
    ∷ (tables_lines text_version program.tables
    ++ (map func_line program.func_records ++ map source_line program.line_records))

-- The whole plan.

-- The lines of a plan.
abbrev pub plan_lines : TextVersion → PlanContent → List (List (List ℕ))
plan_lines text_version plan =
    first_lines text_version plan
    ++ (map feature_line plan.features
    ++ types_line plan.type_bytes
    ∷ (flat_map map_lines plan.maps
    ++ (flat_map (program_lines text_version) plan.programs ++ end_line ∷ [])))

-- The text of a plan in a version.
unfoldable pub text_in : TextVersion → PlanContent → List ℕ
text_in text_version plan = text_of_lines (plan_lines text_version plan)

-- The text of a plan as it is written.
abbrev pub text_of : PlanContent → List ℕ
text_of plan = text_in Second plan

-- Texts of plans.

-- The first version of the text has no tables.
abbrev pub AreTablesIn : TextVersion → PlanContent → Type 0
AreTablesIn First plan = All (λ p. p.tables ≡ None) plan.programs
AreTablesIn Second plan = Unit {0}

-- The text is that of a plan in a version.
pub record Spells (text_version : TextVersion) (plan : PlanContent) (text : List ℕ) : Type 0 where
  pub sound : IsSoundPlan plan
  pub fits : FitsPlan plan
  pub tables : AreTablesIn text_version plan
  pub spelled : text ≡ text_in text_version plan

-- The text is that of a plan, in some version.
abbrev pub IsTextOf : PlanContent → List ℕ → Type 0
IsTextOf plan text = (text_version : TextVersion) × Spells text_version plan text

-- The text is that of some plan.
abbrev pub IsPlanText : List ℕ → Type 0
IsPlanText text = (plan : PlanContent) × IsTextOf plan text

-- Some plan's text begins with these bytes.
abbrev pub BeginsPlanText : List ℕ → Type 0
BeginsPlanText front = (rest : List ℕ) × IsPlanText (front ++ rest)
