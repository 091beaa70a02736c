-- The report on an object and a kernel.
use Rattle.std.specs.Prelude.{◌≡◌, ◌++◌, ℕ, List, [], Bool, Option, filter_map, map, slice_get}
use Rattle.std.specs.Borrow.{Bor}
use Rattle.std.specs.Option.{option_map, option_or}
use Rattle.object_parse.specs.LackingCode.{name_at}
use Rattle.object_parts.specs.Content.{ProgramContent}
use Rattle.ebpf_object.specs.ParsedObject.{ObjectContent}
use Rattle.ebpf_object.specs.TypeRelocations.{type_section_infos, types_of}
use Rattle.load_plan.specs.Inputs.{SettingsContent, Table}
use Rattle.program_kinds.specs.declared.program_section.ProgramSection.{ProgramSection}
use Rattle.report_needs.specs.Kinds.{kind_needs}
use Rattle.report_checks.specs.Attachments.{attached_record}
use Rattle.report_needs.specs.Targets.{attach_target}
use Rattle.kernel_reports.specs.Answers.{answers_to}
use Rattle.kernel_reports.specs.Relocations.{relocations_of}
use Rattle.kernel_reports.specs.Plans.{IsKernelAnswer}
use Rattle.kernel_reports.specs.Presences.{SaysOfExterns}
use Rattle.kernel_reports.specs.declared.relocations.RelocationAt.{RelocationAt}
use Rattle.kernel_reports.specs.declared.report.KernelReport.{KernelReport}

-- The type relocations of an object.
abbrev pub relocations_in : ObjectContent → List RelocationAt
relocations_in o = relocations_of (types_of o []) (type_section_infos o)

-- The names of the sections of an object's programs, in the order of the programs. A section that
-- isn't read has an empty name.
abbrev pub section_names : ObjectContent → List (List ℕ)
section_names o = map (λ p. name_at o.file p.1.section_index) o.programs

-- The full name of the record that tells of what programs of a kind are attached to by the name of
-- their section, when they are loaded or then, if it is one of the kernel's own.
abbrev pub record_name : ProgramSection → List ℕ → Option (List ℕ)
record_name kind section =
    option_or (option_map (λ t. t.prefix ++ t.name) (attach_target kind section))
    (attached_record kind section)

-- The full name of the record that a program of an object is attached to.
abbrev pub target_name : ObjectContent → ProgramContent → Option (List ℕ)
target_name o p = record_name p.section (name_at o.file p.section_index)

-- The names of these records, in the order of the programs.
abbrev pub target_names : ObjectContent → List (List ℕ)
target_names o = filter_map (λ p. target_name o p.1) o.programs

-- The report: whether the object of a file has a plan, what the kernel makes of it, and whether
-- runs can reach the poison of some of its relocations in the plan; whether the kernel has the
-- kinds of records of its types; the results of these relocations; and whether the kernel has its
-- externs.
pub record IsReport (file : List ℕ) (o : ObjectContent) (relocations : List RelocationAt)
    (kernel : List Table) (text : List ℕ) (has_symbols : Bool) (settings : SettingsContent)
    (sections : List (Bor (List ℕ))) (r : KernelReport) : Type 0 where
  pub plan :
      IsKernelAnswer file kernel text settings sections o relocations r.plan r.reaches.items
  pub kinds : r.kinds.items ≡ kind_needs (slice_get kernel 0) o.types
  pub answers : r.relocations.items ≡ answers_to o.types kernel relocations
  pub externs :
      SaysOfExterns o.types (slice_get kernel 0) text has_symbols o.externs r.externs.items
