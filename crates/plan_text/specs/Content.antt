-- The content of a load plan.
use Rattle.std.specs.Prelude.{◌≡◌, ℕ, ◌<◌, ◌≤◌, ◌^◌, Bool, List, [], ◌∷◌, length, map, Option, IfSome}
use Rattle.std.specs.List.{All}
use Rattle.std.specs.List.Sorted.{IsStrictlySortedBy}
use Rattle.std.specs.Ordering.{nat_cmp}
use Rattle.std.specs.Cmp.Lexicographic.{slice_cmp}
use Rattle.btf_ext.specs.declared.record.bpf_func_info.{bpf_func_info}
use Rattle.btf_ext.specs.declared.record.bpf_line_info.{bpf_line_info}
use Rattle.btf_sanitize.specs.Answers.{Answers, AreDistinct, features}
use Rattle.ebpf_items.specs.declared.instruction.bpf_insn.{bpf_insn}
use Rattle.ebpf_items.specs.Instruction.{bytes_of, slot_of}
use Rattle.object_file.specs.License.{HasNoNul}
use Rattle.object_file.specs.Version.{IsKnownVersion}
use Rattle.plan_lines.specs.Lines.{AreTables, AreWithin, AreWordsOf, IsName, max_32, numbers_of, word_limits}
use Rattle.plan_lines.specs.Words.{AreBytes}
use Rattle.plan_lines.specs.declared.map_words.MapWords.{MapWords}
use Rattle.program_kinds.specs.declared.program_section.ProgramSection.{ProgramSection}

-- A map of a plan: the bytes of its name, its number, whether types define it, its words, the bytes
-- of its variables, and the words of the maps that it holds.
pub record MapContent : Type 0 where
  pub name : List ℕ
  pub number : ℕ
  pub is_btf : Bool
  pub words : MapWords
  pub contents : List ℕ
  pub inner : Option MapWords

abbrev pub map_content : List ℕ
    → ℕ
    → Bool
    → MapWords
    → List ℕ
    → Option MapWords
    → MapContent
map_content name number is_btf words contents inner = record {
  name = name;
  number = number;
  is_btf = is_btf;
  words = words;
  contents = contents;
  inner = inner;
}

-- A program of a plan: the bytes of its name, its kind, its slots, its function records and line
-- records, and the indexes of the kernel tables that its type relocations matched, if they are
-- known.
pub record ProgramContent : Type 0 where
  pub name : List ℕ
  pub section : ProgramSection
  pub slots : List bpf_insn
  pub func_records : List bpf_func_info
  pub line_records : List bpf_line_info
  pub tables : Option (List ℕ)

abbrev pub program_content : List ℕ
    → ProgramSection
    → List bpf_insn
    → List bpf_func_info
    → List bpf_line_info
    → Option (List ℕ)
    → ProgramContent
program_content name section slots func_records line_records tables = record {
  name = name;
  section = section;
  slots = slots;
  func_records = func_records;
  line_records = line_records;
  tables = tables;
}

-- A plan: the license without its NUL, the kernel version (none is any version), the features that
-- were asked about, the bytes of the types if there are any, the maps and the programs.
pub record PlanContent : Type 0 where
  pub license : List ℕ
  pub version : Option ℕ
  pub features : Answers
  pub type_bytes : Option (List ℕ)
  pub maps : List MapContent
  pub programs : List ProgramContent

abbrev pub plan_content : List ℕ
    → Option ℕ
    → Answers
    → Option (List ℕ)
    → List MapContent
    → List ProgramContent
    → PlanContent
plan_content license version features type_bytes maps programs = record {
  license = license;
  version = version;
  features = features;
  type_bytes = type_bytes;
  maps = maps;
  programs = programs;
}

abbrev pub map_names : List MapContent → List (List ℕ)
map_names maps = map (λ m. m.name) maps

abbrev pub program_names : List ProgramContent → List (List ℕ)
program_names programs = map (λ p. p.name) programs

-- The names are strictly increasing by bytes.
abbrev pub AreRising : List (List ℕ) → Type 0
AreRising names = IsStrictlySortedBy (slice_cmp nat_cmp) names

-- The limits of each map of a plan.
pub record IsSoundMap (m : MapContent) : Type 0 where
  pub number : m.number < 2 ^ 31
  pub words : AreWordsOf m.is_btf m.words
  pub inner : IfSome m.inner (AreWordsOf m.is_btf)

-- The limits of each program of a plan.
pub record IsSoundProgram (p : ProgramContent) : Type 0 where
  pub tables : IfSome p.tables AreTables

-- The types have at least one byte.
abbrev pub AreTypeBytes : Option (List ℕ) → Type 0
AreTypeBytes type_bytes = IfSome type_bytes (λ bytes. 0 < length bytes)

-- The limits of each plan.
pub record IsSoundPlan (plan : PlanContent) : Type 0 where
  pub license : HasNoNul plan.license
  pub version : IsKnownVersion plan.version
  pub features : AreDistinct (features plan.features)
  pub type_bytes : AreTypeBytes plan.type_bytes
  pub maps : All IsSoundMap plan.maps
  pub map_names : AreRising (map_names plan.maps)
  pub programs : All IsSoundProgram plan.programs
  pub program_names : AreRising (program_names plan.programs)

-- Numbers that fit their words.

pub record FitsMap (m : MapContent) : Type 0 where
  pub name : IsName m.name
  pub words : AreWithin word_limits (numbers_of m.words)
  pub inner : IfSome m.inner (λ words. AreWithin word_limits (numbers_of words))
  pub contents : AreBytes m.contents

-- The bytes of a slot encode it.
pub record FitsSlot (slot : bpf_insn) : Type 0 where
  pub bytes : AreBytes (bytes_of slot)
  pub again : slot_of (bytes_of slot) ≡ slot

abbrev pub FitsFunc : bpf_func_info → Type 0
FitsFunc r = AreWithin (max_32 ∷ max_32 ∷ []) (r.insn_off ∷ r.type_id ∷ [])

abbrev pub FitsSource : bpf_line_info → Type 0
FitsSource r =
    AreWithin (max_32 ∷ max_32 ∷ max_32 ∷ max_32 ∷ [])
    (r.insn_off ∷ r.file_name_off ∷ r.line_off ∷ r.line_col ∷ [])

pub record FitsProgram (p : ProgramContent) : Type 0 where
  pub name : IsName p.name
  pub slots : All FitsSlot p.slots
  pub func_records : All FitsFunc p.func_records
  pub line_records : All FitsSource p.line_records

pub record FitsPlan (plan : PlanContent) : Type 0 where
  pub license : AreBytes plan.license
  pub version : IfSome plan.version (λ version. version ≤ max_32)
  pub type_bytes : IfSome plan.type_bytes AreBytes
  pub maps : All FitsMap plan.maps
  pub programs : All FitsProgram plan.programs

-- A plan is within its limits, and its numbers fit their words.
pub record IsPlan (plan : PlanContent) : Type 0 where
  pub sound : IsSoundPlan plan
  pub fits : FitsPlan plan
