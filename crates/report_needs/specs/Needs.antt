-- The needs of a program, and whether a kernel has them.
use Rattle.std.specs.Prelude.{◌≡◌, ◌&&◌, ℕ, ℤ, List, Option, codes, is_some, map, if◌then◌else◌}
use Rattle.std.specs.Option.{option_map, option_map_or}
use Rattle.btf_records.specs.Fields.{kind_of_type}
use Rattle.btf_records.specs.Kinds.{number_of}
use Rattle.btf_tables.specs.Tables.{Table}
use Rattle.ebpf_items.specs.declared.instruction.bpf_insn.{bpf_insn}
use Rattle.program_kinds.specs.Attributes.{attributes_of}
use Rattle.program_kinds.specs.Bindings.{prog_type_number}
use Rattle.program_kinds.specs.declared.program_section.ProgramSection.{ProgramSection}
use Rattle.report_needs.specs.Enums.{func_ids, helper_presence, presence_in}
use Rattle.report_needs.specs.Flags.{flags_need}
use Rattle.report_needs.specs.Helpers.{AreHelpers}
use Rattle.report_needs.specs.Kinds.{is_among}
use Rattle.report_needs.specs.Targets.{Target, attach_target, find_target, is_built_in, target_form}
use Rattle.report_needs.specs.declared.enums.Presence.{Presence}
use Rattle.report_needs.specs.declared.needs.HelperNeed.{HelperNeed}
use Rattle.report_needs.specs.declared.needs.ProgramNeeds.{ProgramNeeds}
use Rattle.report_needs.specs.declared.needs.TargetNeed.{TargetNeed}
use Rattle.report_needs.specs.declared.needs.TargetNeed.TheVariants.{NotNamed, Found, Missing, Unknown}

-- What is known of a record that isn't there. It is missing if no module has such records and the
-- types have some record of its kind. Else a module may have it, or nothing is known.
abbrev pub absent_need : Table → Target → TargetNeed
absent_need kernel target =
    if is_built_in target
    && is_among (map (λ t. number_of (kind_of_type t)) kernel.types) target.kind
    then Missing
    else Unknown

-- Whether the kernel has the record of a target.
abbrev pub record_need : Table → Target → TargetNeed
record_need kernel target =
    option_map_or (λ id. Found id) (find_target kernel target) (absent_need kernel target)

-- The kernel's record that the program attaches to. It is unknown if the section names none of the
-- kernel's own.
abbrev pub target_need : Table → ProgramSection → List ℕ → TargetNeed
target_need kernel kind section =
    if is_some (target_form kind)
    then option_map_or (record_need kernel) (attach_target kind section) Unknown
    else NotNamed

-- Whether the kernel has the program's type.
abbrev pub type_presence : Table → ProgramSection → Presence
type_presence kernel kind =
    presence_in kernel (codes "bpf_prog_type") (prog_type_number (attributes_of kind).prog_type)

-- Whether the kernel has the program's attach type, if there is one.
abbrev pub attach_presence : Table → ProgramSection → Option Presence
attach_presence kernel kind =
    option_map (presence_in kernel (codes "bpf_attach_type"))
    (attributes_of kind).expected_attach_type

-- The need of a helper, given the id of the enum of the kernel's helpers.
unfoldable pub helper_need : Table → Option ℕ → ℤ → HelperNeed
helper_need kernel id number =
    record { number = number; presence = helper_presence kernel id number }

-- The helpers that the slots call, and whether the kernel has each of them.
pub record AreHelperNeeds (kernel : Table) (slots : List bpf_insn) (needs : List HelperNeed)
    : Type 0 where
  pub numbers : List ℤ
  pub helpers : AreHelpers slots numbers
  pub each : needs ≡ map (helper_need kernel (func_ids kernel)) numbers

-- What a program of a kind, in a section of this name and with these slots, needs, and whether the
-- kernel has it.
pub record AreNeeds (kernel : Table) (kind : ProgramSection) (section : List ℕ)
    (slots : List bpf_insn) (needs : ProgramNeeds) : Type 0 where
  pub target : needs.target ≡ target_need kernel kind section
  pub prog_type : needs.prog_type ≡ type_presence kernel kind
  pub attach_type : needs.attach_type ≡ attach_presence kernel kind
  pub flags : needs.flags ≡ flags_need kernel kind
  pub helpers : AreHelperNeeds kernel slots needs.helpers.items
