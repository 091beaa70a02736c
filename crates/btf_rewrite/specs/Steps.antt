-- The data that the records of a table are rewritten with.
use Rattle.std.specs.Prelude.{◌≡◌, ℕ, ◌<◌, ◌==◌, Bool, false, List, length}
use Rattle.std.specs.List.{list_any}
use Rattle.std.proofs.Math.ListN.{get_or}
use Rattle.btf_records.specs.declared.item.DataSecEntry.{DataSecEntry}
use Rattle.btf_records.specs.declared.kind.BtfKind.TheVariants as kinds
use Rattle.btf_rewrite.specs.Ksyms.{Ksyms, int_id, names_a, placed_from, section_entries}
use Rattle.btf_rewrite.specs.declared.ksyms_section.KsymsSection.{KsymsSection}
use Rattle.btf_rewrite.specs.declared.ksyms_step.KsymsStep.{KsymsStep}

abbrev pub ksyms_of : KsymsSection → Ksyms
ksyms_of k =
    record {
      types = k.types.now.types;
      strings = k.strings.now;
      section = k.section;
      placeholder = k.placeholder;
    }

-- For each id below the number of marks, whether an entry names it.
pub record AreMarks (marks : List Bool) (entries : List DataSecEntry) : Type 0 where
  pub each : (id : ℕ)
      → id < length marks
      → get_or marks id false ≡ list_any (λ e. e.btf_type == id) entries

-- The data of a step are those of the section: its placed entries, and marks of the ids that it
-- names.
pub record IsStep (k : Ksyms) (step : KsymsStep) : Type 0 where
  pub entries : step.entries ≡ placed_from k 0 (section_entries k)
  pub len : length step.entries ≡ length (section_entries k)
  pub marks : AreMarks step.marks.items (section_entries k)
  pub int : step.int ≡ int_id k
  pub variables : step.has_variables ≡ list_any (names_a kinds.Var k) (section_entries k)
