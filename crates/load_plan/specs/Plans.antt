-- The plan of an object, with its maps, under answers about the features of a kernel.
use Rattle.std.specs.Prelude.{◌==◌, ◌||◌, not, ℕ, length, List, [], ◌∷◌, map, Option, Some, None, is_some, Bool, if◌then◌else◌}
use Rattle.btf_ext.specs.declared.record.bpf_func_info.{bpf_func_info}
use Rattle.btf_ext.specs.declared.record.bpf_line_info.{bpf_line_info}
use Rattle.btf_sanitize.specs.Answers.{Answers}
use Rattle.btf_tables.specs.Sections.{HoldsTable, without_fallbacks}
use Rattle.btf_tables.specs.Tables.{Table, table_bytes}
use Rattle.ebpf_object.specs.ParsedObject.{ObjectContent}
use Rattle.load_plan.specs.RewrittenFunctions.{NamesSame, is_denied}
use Rattle.object_file.specs.License.{license_of}
use Rattle.object_file.specs.Version.{version_of}
use Rattle.object_parts.specs.Content.{FunctionContent, ProgramContent, function_at}
use Rattle.plan_text.specs.Content as plan
use Rattle.plan_text.specs.Content.{PlanContent}
use Rattle.program_kinds.specs.declared.program_section.ProgramSection.{ProgramSection}

-- The section that is written for a table with types.
abbrev pub type_bytes_of : Table → Option (List ℕ)
type_bytes_of table = if length table.types == 0 then None else Some (table_bytes table)

abbrev pub type_bytes : Option Table → Option (List ℕ)
type_bytes None = None
type_bytes (Some table) = type_bytes_of table

-- The records of a function. There are none if functions are denied, and no line records if the
-- kernel gets no types.
abbrev pub func_records_of : Answers → FunctionContent → List bpf_func_info
func_records_of answers f = if is_denied answers then [] else f.func_info

abbrev pub line_records_of : Answers → Bool → FunctionContent → List bpf_line_info
line_records_of answers has_types f = if is_denied answers || not has_types then [] else f.line_info

-- A program of the plan, with the slots, the records and the kernel tables of its function.
abbrev pub program_of : Answers
    → Bool
    → List ℕ
    → ProgramSection
    → Option FunctionContent
    → plan.ProgramContent
program_of answers has_types name section None = record {
  name = name;
  section = section;
  slots = [];
  func_records = [];
  line_records = [];
  tables = Some [];
}
program_of answers has_types name section (Some f) =
    record {
      name = name;
      section = section;
      slots = f.instructions;
      func_records = func_records_of answers f;
      line_records = line_records_of answers has_types f;
      tables = Some f.matched_tables;
    }

abbrev pub plan_program_of : Answers
    → Bool
    → List ((ℕ × ℕ) × FunctionContent)
    → List ℕ × ProgramContent
    → plan.ProgramContent
plan_program_of answers has_types functions e =
    program_of answers has_types e.0 e.1.section
    (function_at functions (e.1.section_index, e.1.address))

-- The plan of an object, under these answers, with maps of the plan.
abbrev pub plan_of : Answers → List plan.MapContent → ObjectContent → PlanContent
plan_of answers maps o = record {
  license = license_of o.file;
  version = version_of o.file;
  features = answers;
  type_bytes = type_bytes o.types;
  maps = maps;
  programs = map (plan_program_of answers (is_some (type_bytes o.types)) o.functions) o.programs;
}

-- In the table of the bytes, the id is a function of the same name as in the object's table.
pub record NamesIn (table : Table) (bytes : List ℕ) (id : ℕ) : Type 0 where
  pub held : Table
  pub holds : HoldsTable table.order bytes held
  pub same : NamesSame table held id

abbrev pub Names : Option Table → Option (List ℕ) → ℕ → Type 0
Names (Some table) (Some bytes) id = NamesIn table bytes id
Names _ _ id = ⊥

-- Each record names such a function.
abbrev pub AllName : Option Table → Option (List ℕ) → List bpf_func_info → Type 0
AllName table bytes [] = Unit {0}
AllName table bytes (r ∷ rs) = Names table bytes r.type_id × AllName table bytes rs

-- Each record of each program names such a function.
abbrev pub AllNamed : Option Table → Option (List ℕ) → List plan.ProgramContent → Type 0
AllNamed table bytes [] = Unit {0}
AllNamed table bytes (p ∷ ps) = AllName table bytes p.func_records × AllNamed table bytes ps

-- The bytes, if there are any, hold the table.
abbrev pub HoldsTypeBytes : Option Table → Option (List ℕ) → Type 0
HoldsTypeBytes table None = Unit {0}
HoldsTypeBytes (Some table) (Some bytes) = HoldsTable table.order bytes (without_fallbacks table)
HoldsTypeBytes None (Some bytes) = ⊥
