-- Functions stay functions where a table is rewritten.
use Rattle.std.specs.Prelude.{◌≡◌, ℕ, Bool, true, false, not, List, Option, Some}
use Rattle.std.specs.Option.{option_map_or}
use Rattle.btf_records.specs.declared.feature.BtfFeature.TheVariants as feature
use Rattle.btf_records.specs.declared.functions.Func.{Func}
use Rattle.btf_records.specs.declared.types.BtfType.TheVariants as types
use Rattle.btf_sanitize.specs.Answers.{Answers, answer_to}
use Rattle.btf_sanitize.specs.Kept.{Keeps}
use Rattle.btf_sanitize.specs.Needs.{AreQuestions}
use Rattle.btf_tables.specs.GrownTables.{TextsStay}
use Rattle.btf_rewrite.specs.Sanitizing.{StepStays, facts_in, stepped}
use Rattle.btf_tables.specs.Sections.{without_fallbacks}
use Rattle.btf_tables.specs.Tables.{Table, type_by_id}
use Rattle.string_table.specs.Texts.{text_at}
use Rattle.load_plan.specs.NamedFunctions.{names_function_in}

-- The type with an id is a function of this name.
pub record IsFunctionOf (table : Table) (id : ℕ) (name : List ℕ) : Type 0 where
  pub func : Func
  pub here : type_by_id table id ≡ Some (types.Func func)
  pub text : text_at table.strings func.name_offset ≡ Some name

-- The type with an id is a function of the same name in both tables.
pub record NamesSame (one other : Table) (id : ℕ) : Type 0 where
  pub name : List ℕ
  pub before : IsFunctionOf one id name
  pub after : IsFunctionOf other id name

-- The kernel denied `BTF_KIND_FUNC`.
abbrev pub is_denied : Answers → Bool
is_denied answers = option_map_or not (answer_to answers feature.Func) false

-- A table is rewritten under the answers: the kernel was asked about the features that its records
-- need, each record is rewritten by its rule, and its texts are kept.
pub record IsRewrittenUnder (answers : Answers) (sizes offsets : List ℕ → Option ℕ)
    (ksyms : Option (ℕ × Option ℕ)) (table new : Table) : Type 0 where
  pub asked : AreQuestions (stepped ksyms table).strings (stepped ksyms table).types answers
  pub step : StepStays ksyms table
  pub keeps : Keeps (facts_in answers sizes offsets (stepped ksyms table)) new.types
  pub texts : TextsStay table new

-- If functions weren't denied, a type that is a function with a name is a function of the same name
-- in the rewritten table. This also holds in the section that is written for the table, which
-- leaves out types without bytes.
pub record FunctionsStay : Type 0 where
  pub each : (answers : Answers) (sizes offsets : List ℕ → Option ℕ) (ksyms : Option (ℕ × Option ℕ))
      (table new : Table) (id : ℕ)
      → IsRewrittenUnder answers sizes offsets ksyms table new
      → is_denied answers ≡ false
      → names_function_in id table ≡ true
      → NamesSame table (without_fallbacks new) id
