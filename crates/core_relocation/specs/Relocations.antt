-- The type relocations of an object, each with its function and the patch of its instruction
-- ("BTF.ext section", "BTF CO-RE relocations").
use Rattle.std.specs.Prelude.{◌==◌, ◌&&◌, ℕ, find, List, [], ◌∷◌, ◌++◌, Option, None, Some, option_and_then, slice_get, Result, Err}
use Rattle.std.specs.Option.{option_map, option_to_list}
use Rattle.std.specs.Result.{result_ok}
use Rattle.core_spec.specs.declared.error.AccessError.TheVariants.{BtfError as TypeError}
use Rattle.btf_ext.specs.SectionInfos.{SectionInfo}
use Rattle.btf_ext.specs.declared.record.bpf_core_relo.{bpf_core_relo}
use Rattle.btf_records.specs.declared.error.BtfError.TheVariants.{InvalidRelocationKind}
use Rattle.btf_tables.specs.Tables.{Table}
use Rattle.ebpf_items.specs.RelocationKind.{relocation_kinds}
use Rattle.ebpf_items.specs.declared.relocation_kind.RelocationKind.{RelocationKind}
use Rattle.object_file.specs.Reading.{read_sections}
use Rattle.object_file.specs.Named.{last_section}
use Rattle.object_parts.specs.Content.{FunctionContent, key_of}
use Rattle.object_parts.specs.Geometry.{is_inside}
use Rattle.string_table.specs.Texts.{text_at}
use Rattle.core_resolve.specs.RelocationOutcomes.{relocation_outcome}
use Rattle.core_resolve.specs.declared.error.TypeRelocationError.{TypeRelocationError}
use Rattle.core_resolve.specs.declared.error.TypeRelocationError.TheVariants.{Local}
use Rattle.core_resolve.specs.declared.relocation.RelocationOutcome.{RelocationOutcome}
use Rattle.core_patch.specs.Patches.{patch_of}
use Rattle.core_relocation.specs.declared.placed_relocation.PlacedRelocation.{PlacedRelocation}

abbrev pub SectionInfos : Type 0
SectionInfos = List (SectionInfo bpf_core_relo)

-- The inputs of type relocations: the object's file, its functions by key, its own types, and the
-- tables of a kernel.
pub record TypesGiven : Type 0 where
  pub file : List ℕ
  pub functions : List ((ℕ × ℕ) × FunctionContent)
  pub local : Table
  pub targets : List Table

abbrev pub types_given : List ℕ → List ((ℕ × ℕ) × FunctionContent) → Table → List Table → TypesGiven
types_given file functions local targets = record {
  file = file;
  functions = functions;
  local = local;
  targets = targets;
}

-- The index of the section with a name. Of several with one name, the last one counts.
abbrev pub section_named : List ℕ → List ℕ → Option ℕ
section_named file name = option_map (λ s. s.index) (last_section (read_sections file) name)

-- The section whose name is at an offset of the strings.
abbrev pub section_at : TypesGiven → ℕ → Option ℕ
section_at g offset = option_and_then (section_named g.file) (text_at g.local.strings offset)

-- The first function of a section, by key, whose bytes hold an offset.
abbrev pub function_holding : List ((ℕ × ℕ) × FunctionContent) → ℕ → ℕ → Option FunctionContent
function_holding functions section offset =
    option_map (λ e. e.1)
    (find (λ e. (e.1.section_index == section) && is_inside e.1 offset) functions)

-- The outcome of a relocation of a kind in the kernel's types. An unknown kind is refused.
abbrev pub outcome_of_kind : TypesGiven
    → bpf_core_relo
    → Option RelocationKind
    → Result RelocationOutcome TypeRelocationError
outcome_of_kind g r None = Err (Local (TypeError (InvalidRelocationKind r.kind)))
outcome_of_kind g r (Some kind) =
    relocation_outcome g.local
    (record { kind = kind; type_id = r.type_id; access_str_off = r.access_str_off }) g.targets

abbrev pub record_outcome : TypesGiven
    → bpf_core_relo
    → Result RelocationOutcome TypeRelocationError
record_outcome g r = outcome_of_kind g r (slice_get relocation_kinds r.kind)

-- A relocation in a function, with the patch of its outcome.
abbrev pub placed_as : TypesGiven
    → bpf_core_relo
    → FunctionContent
    → RelocationOutcome
    → PlacedRelocation
placed_as g r f o = record {
  key = key_of f;
  offset = r.insn_off;
  patch = patch_of g.local g.targets o;
  table = o.table;
}

abbrev pub placed_in : TypesGiven → bpf_core_relo → FunctionContent → Option PlacedRelocation
placed_in g r f = option_map (placed_as g r f) (result_ok (record_outcome g r))

-- A relocation in the function that holds its offset. A relocation without a section, function or
-- outcome isn't placed.
abbrev pub placed : TypesGiven → Option ℕ → bpf_core_relo → Option PlacedRelocation
placed g section r =
    option_and_then (λ s.
    option_and_then (placed_in g r) (function_holding g.functions s r.insn_off)) section

-- The placed relocations among some of a section.
abbrev pub placed_among : TypesGiven → Option ℕ → List bpf_core_relo → List PlacedRelocation
placed_among g section [] = []
placed_among g section (r ∷ rs) = option_to_list (placed g section r) ++ placed_among g section rs

-- The placed relocations of a section info, and of all section infos, in order.
abbrev pub placed_section_info : TypesGiven → SectionInfo bpf_core_relo → List PlacedRelocation
placed_section_info g x = placed_among g (section_at g x.name_offset) x.records

abbrev pub all_placed : TypesGiven → SectionInfos → List PlacedRelocation
all_placed g [] = []
all_placed g (x ∷ xs) = placed_section_info g x ++ all_placed g xs
