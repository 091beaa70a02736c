-- The names of what a report is about.
use Rattle.std.specs.Prelude.{◌≡◌, ℕ, ◌/◌, Bool, List, [], map, Option, None, Some, is_none, is_some, option_and_then, if◌then◌else◌}
use Rattle.std.specs.Borrow.{Bor}
use Rattle.std.specs.List.{zip}
use Rattle.std.specs.Option.{option_copied, option_map, option_map_or}
use Rattle.btf_records.specs.Fields.{kind_of_type}
use Rattle.btf_records.specs.declared.kind.BtfKind.{BtfKind}
use Rattle.btf_records.specs.declared.kind.BtfKind.TheVariants as kinds
use Rattle.btf_tables.specs.Tables.{Table, type_by_id}
use Rattle.kernel_reports.specs.declared.relocations.RelocationAt.{RelocationAt}
use Rattle.object_externs.specs.Externs.{ExternContent}
use Rattle.object_parts.specs.Content.{FunctionContent, function_at}
use Rattle.ebpf_object.specs.ParsedObject.{ObjectContent}
use Rattle.report_needs.specs.Kinds.{kind_needs}
use Rattle.report_texts.specs.ObjectCauses.{is_never_taken}
use Rattle.report_texts.specs.declared.rows.ExternKind.{ExternKind}
use Rattle.report_texts.specs.declared.rows.ExternKind.TheVariants.{Function, Symbol, Variable}
use Rattle.report_texts.specs.declared.rows.ExternRow.{ExternRow}
use Rattle.report_texts.specs.declared.rows.MapRow.{MapRow}
use Rattle.report_texts.specs.declared.rows.ProgramRow.{ProgramRow}
use Rattle.report_texts.specs.declared.rows.RelocationRow.{RelocationRow}
use Rattle.report_texts.specs.declared.rows.Rows.{Rows}
use Rattle.string_table.specs.Texts.{text_at}

-- What rows say: of a program the names of it and of its section, of a map the name and the number
-- of the type, of an extern the name, the kind and whether it is weak, and of a type relocation the
-- names of its section and its function and the index of its instruction. What a relocation asks
-- for is a text for people.
abbrev pub shown_program : ProgramRow → List ℕ × List ℕ
shown_program row = (row.name.now, row.section.now)

abbrev pub shown_map : MapRow → List ℕ × ℕ
shown_map row = (row.name.now, row.map_type)

abbrev pub shown_extern : ExternRow → List ℕ × (ExternKind × Bool)
shown_extern row = (row.name.now, (row.kind, row.is_weak))

abbrev pub shown_relocation : RelocationRow → Option (List ℕ) × (Option (List ℕ) × ℕ)
shown_relocation row = (option_copied row.section, (option_copied row.function, row.instruction))

-- The programs of an object in their order, with the given names of sections.
abbrev pub program_rows : ObjectContent → List (Bor (List ℕ)) → List (List ℕ × List ℕ)
program_rows o sections = zip (map (λ p. p.0) o.programs) (map (λ s. s.now) sections)

abbrev pub map_rows : ObjectContent → List (List ℕ × ℕ)
map_rows o = map (λ m. (m.0, m.1.words.map_type)) o.maps

-- What a record of a kind declares.
abbrev pub declared_kind : BtfKind → ExternKind
declared_kind kinds.Func = Function
declared_kind _ = Variable

-- An extern without a type is a symbol. Another one is what the record that declares it is, and a
-- variable where there is no such record.
abbrev pub extern_kind : Option Table → ExternContent → ExternKind
extern_kind types e =
    if is_none e.type_id then Symbol
    else option_map_or (λ t. declared_kind (kind_of_type t))
    (option_and_then (λ table. type_by_id table e.btf_id) types) Variable

abbrev pub extern_row : Option Table → List ℕ × ExternContent → List ℕ × (ExternKind × Bool)
extern_row types e = (e.0, (extern_kind types e.1, e.1.is_weak))

abbrev pub extern_rows : ObjectContent → List (List ℕ × (ExternKind × Bool))
extern_rows o = map (extern_row o.types) o.externs.by_name

-- The name of the function that holds a relocation's instruction, if one does.
abbrev pub function_name : List ((ℕ × ℕ) × FunctionContent) → RelocationAt → Option (List ℕ)
function_name functions at =
    option_and_then (λ place. option_map (λ f. f.name) (function_at functions place.key)) at.place

-- The index of the instruction in this function, or in the section if no function holds it.
abbrev pub slot_number : RelocationAt → ℕ
slot_number at = option_map_or (λ place. place.index) at.place (at.asked.insn_off / 8)

abbrev pub relocation_row : List ((ℕ × ℕ) × FunctionContent)
    → Table
    → RelocationAt
    → Option (List ℕ) × (Option (List ℕ) × ℕ)
relocation_row functions types at =
    (text_at types.strings at.name_offset, (function_name functions at, slot_number at))

-- An object without types has no type relocations.
abbrev pub relocation_rows : List ((ℕ × ℕ) × FunctionContent)
    → Option Table
    → List RelocationAt
    → List (Option (List ℕ) × (Option (List ℕ) × ℕ))
relocation_rows functions None relocations = []
relocation_rows functions (Some types) relocations = map (relocation_row functions types) relocations

-- The rows of the object of a file, given the names of its programs' sections, its type relocations,
-- and whether a check is strict. No helper has a name yet.
pub record AreRows (file : List ℕ) (o : ObjectContent) (sections : List (Bor (List ℕ)))
    (rs : List RelocationAt) (is_strict : Bool) (rows : Rows) : Type 0 where
  pub programs : map shown_program rows.programs.items ≡ program_rows o sections
  pub maps : map shown_map rows.maps.items ≡ map_rows o
  pub kinds : rows.kinds.items ≡ kind_needs None o.types
  pub relocations :
      map shown_relocation rows.relocations.items ≡ relocation_rows o.functions o.types rs
  pub externs : map shown_extern rows.externs.items ≡ extern_rows o
  pub types : option_copied rows.types ≡ o.types
  pub helpers : rows.helpers.by_number.entries ≡ []
  pub cause : is_some rows.object_cause ≡ is_never_taken file
  pub strict : rows.is_strict ≡ is_strict
