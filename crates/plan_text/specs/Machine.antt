-- The reading of a plan, line by line.
use Rattle.std.specs.Prelude.{◌≡◌, ℕ, ◌&&◌, Bool, true, false, if◌then◌else◌, List, [], ◌∷◌, ◌++◌, Option, Some, None, is_none, option_and_then}
use Rattle.std.specs.Cmp.Lexicographic.{slice_cmp}
use Rattle.std.specs.List.{list_any}
use Rattle.std.specs.Option.{option_map}
use Rattle.std.specs.Ordering.{is_lt, nat_cmp}
use Rattle.btf_ext.specs.declared.record.bpf_func_info.{bpf_func_info}
use Rattle.btf_ext.specs.declared.record.bpf_line_info.{bpf_line_info}
use Rattle.btf_records.specs.declared.feature.BtfFeature.{BtfFeature}
use Rattle.btf_sanitize.specs.Answers.{Answers, is_same}
use Rattle.ebpf_items.specs.Instruction.{slots_of}
use Rattle.plan_lines.specs.LineReading.{are_words_of}
use Rattle.plan_lines.specs.LineReads.{line_text}
use Rattle.plan_lines.specs.Lines.{IsSoundLine, End, Feature, Func, Header, Inner, License, LineContent, Map, Program, Slots, Source, Tables, Types, Version}
use Rattle.plan_lines.specs.declared.line.TextVersion.{TextVersion}
use Rattle.plan_lines.specs.declared.line.TextVersion.TheVariants.{First, Second}
use Rattle.plan_lines.specs.declared.map_words.MapWords.{MapWords}
use Rattle.plan_text.specs.Content.{MapContent, PlanContent, ProgramContent, map_content, plan_content, program_content}
use Rattle.plan_text.specs.declared.reading.Phase.{Phase}
use Rattle.plan_text.specs.declared.reading.Phase.TheVariants.{AtHeader, AtLicense, AtVersion, AtFeatures, AtMaps, AtSlots, AtTables, AtFuncs, AtLines, AtEnd}
use Rattle.plan_text.specs.declared.reading.Reader.{Reader}
use Rattle.program_kinds.specs.declared.program_section.ProgramSection.{ProgramSection}

-- The state of reading a text. The last map and the last program are separate, since more of them
-- may be read.
pub record StateContent : Type 0 where
  pub phase : Phase
  pub text_version : TextVersion
  pub license : List ℕ
  pub version : Option ℕ
  pub features : Answers
  pub type_bytes : Option (List ℕ)
  pub maps : List MapContent
  pub last_map : Option MapContent
  pub programs : List ProgramContent
  pub last_program : Option ProgramContent

abbrev pub start : StateContent
start = record {
  phase = AtHeader;
  text_version = Second;
  license = [];
  version = None;
  features = [];
  type_bytes = None;
  maps = [];
  last_map = None;
  programs = [];
  last_program = None;
}

-- A list with its separate last element.
abbrev pub with_last : {A : Type 0} → List A → Option A → List A
with_last xs None = xs
with_last xs (Some x) = xs ++ x ∷ []

-- Whether a name is above the last one, if there is one.
abbrev pub follows : Option (List ℕ) → List ℕ → Bool
follows None name = true
follows (Some last) name = is_lt (slice_cmp nat_cmp last name)

abbrev pub last_map_name : StateContent → Option (List ℕ)
last_map_name s = option_map (λ m. m.name) s.last_map

abbrev pub last_program_name : StateContent → Option (List ℕ)
last_program_name s = option_map (λ p. p.name) s.last_program

-- The phase after the slots of a program.
abbrev pub after_slots : TextVersion → Phase
after_slots First = AtFuncs
after_slots Second = AtTables

-- A program of which only the name and the kind were read.
abbrev pub bare_program : List ℕ → ProgramSection → ProgramContent
bare_program name section = program_content name section [] [] [] None

-- The state after one more line, for each phase. There is none where the line isn't allowed.

abbrev pub step_header : Phase → StateContent → TextVersion → Option StateContent
step_header AtHeader s text_version =
    Some (record s { phase = AtLicense; text_version = text_version })
step_header _ s text_version = None

abbrev pub step_license : Phase → StateContent → List ℕ → Option StateContent
step_license AtLicense s bytes = Some (record s { phase = AtVersion; license = bytes })
step_license _ s bytes = None

abbrev pub step_version : Phase → StateContent → Option ℕ → Option StateContent
step_version AtVersion s version = Some (record s { phase = AtFeatures; version = version })
step_version _ s version = None

-- Whether a feature was asked about.
abbrev pub is_asked : Answers → BtfFeature → Bool
is_asked answers f = list_any (λ a. is_same a.0 f) answers

abbrev pub step_feature : Phase → StateContent → BtfFeature → Bool → Option StateContent
step_feature AtFeatures s f answer =
    if is_asked s.features f then None else Some (record s { features = s.features ++ (f, answer) ∷ [] })
step_feature _ s f answer = None

abbrev pub step_types : Phase → StateContent → Option (List ℕ) → Option StateContent
step_types AtFeatures s type_bytes = Some (record s { phase = AtMaps; type_bytes = type_bytes })
step_types _ s type_bytes = None

abbrev pub step_map : Phase → StateContent → MapContent → Option StateContent
step_map AtMaps s m =
    if follows (last_map_name s) m.name
    then Some (record s { maps = with_last s.maps s.last_map; last_map = Some m })
    else None
step_map _ s m = None

-- Whether a map may hold maps of these words: it has none so far, and the words have its form.
abbrev pub may_hold : MapContent → MapWords → Bool
may_hold m words = is_none m.inner && are_words_of m.is_btf words

abbrev pub holding : MapContent → MapWords → Option MapContent
holding m words = if may_hold m words then Some (record m { inner = Some words }) else None

abbrev pub step_inner : Phase → StateContent → MapWords → Option StateContent
step_inner AtMaps s words =
    option_map (λ m. record s { last_map = Some m })
    (option_and_then (λ m. holding m words) s.last_map)
step_inner _ s words = None

abbrev pub begin_program : StateContent → ProgramContent → Option StateContent
begin_program s p =
    if follows (last_program_name s) p.name
    then Some (record s {
      phase = AtSlots;
      programs = with_last s.programs s.last_program;
      last_program = Some p;
    })
    else None

abbrev pub step_program : Phase → StateContent → ProgramContent → Option StateContent
step_program AtMaps s p = begin_program s p
step_program AtFuncs s p = begin_program s p
step_program AtLines s p = begin_program s p
step_program _ s p = None

-- The last program, changed.
abbrev pub at_program : StateContent
    → Phase
    → (ProgramContent → ProgramContent)
    → Option StateContent
at_program s phase change =
    option_map (λ p. record s { phase = phase; last_program = Some (change p) }) s.last_program

abbrev pub step_slots : Phase → StateContent → List ℕ → Option StateContent
step_slots AtSlots s bytes =
    at_program s (after_slots s.text_version) (λ p. record p { slots = slots_of bytes })
step_slots _ s bytes = None

abbrev pub step_tables : Phase → StateContent → Option (List ℕ) → Option StateContent
step_tables AtTables s tables = at_program s AtFuncs (λ p. record p { tables = tables })
step_tables _ s tables = None

abbrev pub with_func : bpf_func_info → ProgramContent → ProgramContent
with_func r p = record p { func_records = p.func_records ++ r ∷ [] }

abbrev pub with_source : bpf_line_info → ProgramContent → ProgramContent
with_source r p = record p { line_records = p.line_records ++ r ∷ [] }

abbrev pub step_func : Phase → StateContent → bpf_func_info → Option StateContent
step_func AtFuncs s r = at_program s AtFuncs (with_func r)
step_func _ s r = None

abbrev pub step_source : Phase → StateContent → bpf_line_info → Option StateContent
step_source AtFuncs s r = at_program s AtLines (with_source r)
step_source AtLines s r = at_program s AtLines (with_source r)
step_source _ s r = None

-- The state after the last line.
abbrev pub finished : StateContent → StateContent
finished s = record s {
  phase = AtEnd;
  maps = with_last s.maps s.last_map;
  last_map = None;
  programs = with_last s.programs s.last_program;
  last_program = None;
}

abbrev pub step_end : Phase → StateContent → Option StateContent
step_end AtMaps s = Some (finished s)
step_end AtFuncs s = Some (finished s)
step_end AtLines s = Some (finished s)
step_end _ s = None

abbrev pub func_of : ℕ → ℕ → bpf_func_info
func_of slot id = record { insn_off = slot; type_id = id }

abbrev pub source_of : ℕ → ℕ → ℕ → ℕ → bpf_line_info
source_of slot file row column = record {
  insn_off = slot;
  file_name_off = file;
  line_off = row;
  line_col = column;
}

abbrev pub map_of : List ℕ → ℕ → Bool → MapWords → List ℕ → MapContent
map_of name number is_btf words contents = map_content name number is_btf words contents None

abbrev pub step : StateContent → LineContent → Option StateContent
step s (Header text_version) = step_header s.phase s text_version
step s (License bytes) = step_license s.phase s bytes
step s (Version version) = step_version s.phase s version
step s (Feature asked answer) = step_feature s.phase s asked answer
step s (Types type_bytes) = step_types s.phase s type_bytes
step s (Map name number is_btf words contents) =
    step_map s.phase s (map_of name number is_btf words contents)
step s (Inner words) = step_inner s.phase s words
step s (Program name section) = step_program s.phase s (bare_program name section)
step s (Slots bytes) = step_slots s.phase s bytes
step s (Tables tables) = step_tables s.phase s tables
step s (Func slot id) = step_func s.phase s (func_of slot id)
step s (Source slot file row column) = step_source s.phase s (source_of slot file row column)
step s End = step_end s.phase s

-- The plan of everything that was read.
abbrev pub plan_at : StateContent → PlanContent
plan_at s =
    plan_content s.license s.version s.features s.type_bytes (with_last s.maps s.last_map)
    (with_last s.programs s.last_program)

-- A line is taken and leads to a state, or it isn't allowed.
abbrev pub Takes : Option StateContent → Bool → StateContent → Type 0
Takes said taken s = said ≡ (if taken then Some s else None)

-- Some line has these bytes, and each line with these bytes leads to the state.
pub record TookLine (s : StateContent) (bytes : List ℕ) (t : StateContent) : Type 0 where
  pub line : LineContent
  pub sound : IsSoundLine line
  pub text : bytes ≡ line_text line
  pub steps : step s line ≡ Some t
  pub only : (other : LineContent)
      → IsSoundLine other
      → bytes ≡ line_text other
      → step s other ≡ Some t

-- No line with these bytes is allowed.
pub record RefusedLine (s : StateContent) (bytes : List ℕ) : Type 0 where
  pub none : (line : LineContent) → IsSoundLine line → bytes ≡ line_text line → step s line ≡ None

abbrev pub TakesLine : StateContent → List ℕ → StateContent → Bool → Type 0
TakesLine s bytes t true = TookLine s bytes t
TakesLine s bytes t false = RefusedLine s bytes

-- The plan of the maps and programs in the lists, without the separate last ones.
abbrev pub kept_plan : StateContent → PlanContent
kept_plan s = plan_content s.license s.version s.features s.type_bytes s.maps s.programs

-- A reader without its place in memory.

abbrev pub state_view : Reader → StateContent
state_view r = record {
  phase = r.phase;
  text_version = r.text_version;
  license = r.license.items;
  version = r.version;
  features = r.features.items;
  type_bytes = option_map (λ bytes. bytes.items) r.type_bytes;
  maps = r.maps.items;
  last_map = r.last_map;
  programs = r.programs.items;
  last_program = r.last_program;
}
