-- The records of a section info, in its bytes or in a list.
use Rattle.std.specs.Prelude.{ℕ, ◌*◌, ◌<◌, ◌≤◌, ◌^◌, List, drop, length}
use Rattle.btf_encoding.specs.Items.{items_in}
use Rattle.btf_records.specs.declared.words.Endianness.{Endianness}
use Rattle.btf_ext.specs.Faults.{kind_count}
use Rattle.btf_ext.specs.Records.{func_in, line_in, relocation_in}
use Rattle.btf_ext.specs.declared.record.bpf_func_info.{bpf_func_info}
use Rattle.btf_ext.specs.declared.record.bpf_line_info.{bpf_line_info}
use Rattle.btf_ext.specs.declared.sec_info.FuncRecords.{FuncRecords}
use Rattle.btf_ext.specs.declared.sec_info.FuncRecords.TheVariants as funcs
use Rattle.btf_ext.specs.declared.sec_info.SectionInfoRecords.{SectionInfoRecords}
use Rattle.btf_ext.specs.declared.sec_info.LineRecords.{LineRecords}
use Rattle.btf_ext.specs.declared.sec_info.LineRecords.TheVariants as lines

-- The records of a section info.
abbrev pub records_in : {R : Type 0} → (Endianness → List ℕ → R) → SectionInfoRecords → List R
records_in read g = items_in (read g.order) g.size g.count g.bytes.now

-- The records lie within the bytes, and each has at least `least` bytes.
pub record AreThere (least : ℕ) (g : SectionInfoRecords) : Type 0 where
  pub whole : g.size * g.count ≤ length g.bytes.now
  pub sized : least ≤ g.size

-- Each relocation has a known kind.
pub record AreOfKnownKinds (g : SectionInfoRecords) : Type 0 where
  pub known : (index : ℕ)
      → index < g.count
      → (relocation_in g.order (drop (g.size * index) g.bytes.now)).kind < kind_count

abbrev pub funcs_of : FuncRecords → List bpf_func_info
funcs_of (funcs.SectionInfo g) = records_in func_in g
funcs_of (funcs.List records) = records.items

abbrev pub AreFuncs : FuncRecords → Type 0
AreFuncs (funcs.SectionInfo g) = AreThere 8 g
AreFuncs (funcs.List records) = length records.items < 2 ^ 32

abbrev pub lines_of : LineRecords → List bpf_line_info
lines_of (lines.SectionInfo g) = records_in line_in g
lines_of (lines.List records) = records.items

abbrev pub AreLines : LineRecords → Type 0
AreLines (lines.SectionInfo g) = AreThere 16 g
AreLines (lines.List records) = length records.items < 2 ^ 32
