-- The lines of a plan lead to the plan.
use Rattle.std.proofs.Common.{◌≡◌, ℕ, zero, suc, ◌+◌, ◌/◌, ◌<◌, ◌≤◌, Bool, true, false, cond, List, [], ◌∷◌, ◌++◌, length, take, drop, get_or, map, refl, ap, ap₂, sym, ◌∙◌, subst, arith, lit<, Option, None, Some, append_assoc, append-nil, length-append, rules}
use Rattle.std.specs.Prelude.{flat_map, option_and_then, ◌||◌, ◌==◌}
use Rattle.std.specs.Cmp.Lexicographic.{slice_cmp}
use Rattle.std.specs.List.{All, AllByRecursion}
use Rattle.std.specs.List.Sorted.{IsStrictlySortedBy}
use Rattle.std.specs.Option.{option_map}
use Rattle.std.specs.Ordering.{is_lt, nat_cmp}
use Rattle.std.specs.declared.cmp.Ordering.TheVariants.{Less}
use Rattle.std.proofs.lemmas.Bool.Decides.{nat_tests}
use Rattle.std.proofs.lemmas.List.Elements.{All-head, All-tail}
use Rattle.btf_ext.specs.declared.record.bpf_func_info.{bpf_func_info}
use Rattle.btf_ext.specs.declared.record.bpf_line_info.{bpf_line_info}
use Rattle.btf_records.specs.declared.feature.BtfFeature.{BtfFeature}
use Rattle.btf_sanitize.specs.Answers.{Answers, AreDistinct, features, is_same, times}
use Rattle.ebpf_items.specs.declared.instruction.bpf_insn.{bpf_insn}
use Rattle.ebpf_items.specs.Instruction.{bytes_of, slot_of, slots_in, slots_of}
use Rattle.plan_lines.specs.LineReading.{are_words_of}
use Rattle.plan_lines.specs.Lines.{AreWordsOf, End, Feature, Func, Header, Inner, License, LineContent, Map, Program, Slots, Source, Tables, Types, Version}
use Rattle.plan_lines.specs.Words.{slot_bytes}
use Rattle.plan_lines.specs.declared.line.TextVersion.{TextVersion}
use Rattle.plan_lines.specs.declared.line.TextVersion.TheVariants.{First, Second}
use Rattle.plan_lines.specs.declared.map_words.MapWords.{MapWords}
use Rattle.plan_text.specs.Content.{AreRising, FitsPlan, FitsProgram, FitsSlot, IsSoundMap, IsSoundPlan, MapContent, PlanContent, ProgramContent, map_names, program_names}
use Rattle.plan_text.specs.Machine.{StateContent, bare_program, finished, follows, is_asked, map_of, start, step, with_last}
use Rattle.plan_text.specs.PlanGrammar.{AreTablesIn}
use Rattle.plan_text.specs.declared.reading.Phase.{Phase}
use Rattle.plan_text.specs.declared.reading.Phase.TheVariants.{AtHeader, AtLicense, AtVersion, AtFeatures, AtMaps, AtSlots, AtTables, AtFuncs, AtLines, AtEnd}
use Rattle.program_kinds.specs.declared.program_section.ProgramSection.{ProgramSection}

-- The lines of a plan.

abbrev pub inner_of : Option MapWords → List LineContent
inner_of None = []
inner_of (Some words) = Inner words ∷ []

abbrev pub lines_of_map : MapContent → List LineContent
lines_of_map m = Map m.name m.number m.is_btf m.words m.contents ∷ inner_of m.inner

abbrev pub tables_of : TextVersion → Option (List ℕ) → List LineContent
tables_of First tables = []
tables_of Second tables = Tables tables ∷ []

abbrev pub line_of_func : bpf_func_info → LineContent
line_of_func r = Func r.insn_off r.type_id

abbrev pub line_of_source : bpf_line_info → LineContent
line_of_source r = Source r.insn_off r.file_name_off r.line_off r.line_col

abbrev pub lines_of_records : ProgramContent → List LineContent
lines_of_records p = map line_of_func p.func_records ++ map line_of_source p.line_records

abbrev pub lines_of_program : TextVersion → ProgramContent → List LineContent
lines_of_program v p = Program p.name p.section ∷ Slots (slot_bytes p.slots) ∷ (tables_of v p.tables ++ lines_of_records p)

abbrev pub line_of_answer : BtfFeature × Bool → LineContent
line_of_answer a = Feature a.0 a.1

abbrev pub lines_of_plan : TextVersion → PlanContent → List LineContent
lines_of_plan v q =
    Header v ∷ License q.license ∷ Version q.version ∷ (map line_of_answer q.features ++ Types q.type_bytes ∷ (flat_map lines_of_map q.maps ++ (flat_map (lines_of_program v) q.programs ++ End ∷ [])))

-- Runs over lines.

abbrev pub steps : StateContent → List LineContent → Option StateContent
steps s [] = Some s
steps s (line ∷ lines) = option_and_then (λ t. steps t lines) (step s line)

-- A state by its parts.
abbrev pub state : Phase → TextVersion → List ℕ → Option ℕ → Answers → Option (List ℕ) → List MapContent → Option MapContent → List ProgramContent → Option ProgramContent → StateContent
state phase v license version answers type_bytes maps last_map programs last_program = record {
  phase = phase;
  text_version = v;
  license = license;
  version = version;
  features = answers;
  type_bytes = type_bytes;
  maps = maps;
  last_map = last_map;
  programs = programs;
  last_program = last_program;
}

-- The state in which the plan was read to its end.
abbrev pub done : TextVersion → PlanContent → StateContent
done v q = state AtEnd v q.license q.version q.features q.type_bytes q.maps None q.programs None

-- Features.

times-append : (f : BtfFeature) (xs ys : List BtfFeature) → times f (xs ++ ys) ≡ times f xs + times f ys
times-append f [] ys = omega arith
times-append f (x ∷ xs) ys = omega (arith, times-append f xs ys)

times_asked : (f : BtfFeature) (answers : Answers) → is_asked answers f ≡ true → 0 < times f (features answers)
times_asked f [] h = cc
times_asked f (a ∷ answers) h =
    (elim (is_same a.0 f) as (λ t. (t || is_asked answers f) ≡ true → 0 < cond t 1 0 + times f (features answers)) [
      | true ↦ λ h. omega arith
      | false ↦ λ h. omega (arith, times_asked f answers h)
    ]) h

pub features-append : (xs ys : Answers) → features (xs ++ ys) ≡ features xs ++ features ys
features-append [] ys = refl
features-append (x ∷ xs) ys = ap (λ fs. x.0 ∷ fs) (features-append xs ys)

same_self : (f : BtfFeature) → is_same f f ≡ true
same_self f = grind (arith, nat_tests)

times_self : (f : BtfFeature) (fs : List BtfFeature) → times f (f ∷ fs) ≡ 1 + times f fs
times_self f fs = rw (same_self f) refl

not_true : (b : Bool) → (b ≡ true → ⊥) → b ≡ false
not_true true h = absurd (h refl)
not_true false h = refl

-- Of distinct features none was asked about before.
not_asked : (before : Answers) (a : BtfFeature × Bool) (after : Answers) → AreDistinct (features (before ++ a ∷ after)) → is_asked before a.0 ≡ false
not_asked before a after d = not_true (is_asked before a.0) (λ h. twice (times_asked a.0 before h) (d.once a.0))
  where
    twice : 0 < times a.0 (features before) → times a.0 (features (before ++ a ∷ after)) ≤ 1 → ⊥
    twice h k =
        let e = ap (times a.0) (features-append before (a ∷ after)) in
        let f = times-append a.0 (features before) (features (a ∷ after)) in
        let g = times_self a.0 (features after) in
        absurd (omega (arith, h, k, e, f, g))

features_steps : (v : TextVersion) (license : List ℕ) (version : Option ℕ) (type_bytes : Option (List ℕ)) (before answers : Answers) (rest : List LineContent) → AreDistinct (features (before ++ answers)) →
    steps (state AtFeatures v license version before type_bytes [] None [] None) (map line_of_answer answers ++ rest)
    ≡ steps (state AtFeatures v license version (before ++ answers) type_bytes [] None [] None) rest
features_steps v license version type_bytes before [] rest d =
    ap (λ (x : Answers). steps (state AtFeatures v license version x type_bytes [] None [] None) rest) (sym (append-nil before))
features_steps v license version type_bytes before (a ∷ answers) rest d =
    let e = append_assoc before (a ∷ []) answers in
    rw (not_asked before a answers d)
    (features_steps v license version type_bytes (before ++ a ∷ []) answers rest (subst (λ (x : Answers). AreDistinct (features x)) (sym e) d)
    ∙ ap (λ (x : Answers). steps (state AtFeatures v license version x type_bytes [] None [] None) rest) e)

-- Lists with a separate last element.

-- The elements before the last one, of a list that is extended.
abbrev pub firsts : {A : Type 0} → List A → Option A → List A → List A
firsts xs last [] = xs
firsts xs last (y ∷ ys) = firsts (with_last xs last) (Some y) ys

abbrev pub last_of : {A : Type 0} → Option A → List A → Option A
last_of last [] = last
last_of last (y ∷ ys) = last_of (Some y) ys

pub with_last-firsts : {A : Type 0} (xs : List A) (last : Option A) (ys : List A) → with_last (firsts xs last ys) (last_of last ys) ≡ with_last xs last ++ ys
with_last-firsts xs last [] = sym (append-nil (with_last xs last))
with_last-firsts xs last (y ∷ ys) = with_last-firsts (with_last xs last) (Some y) ys ∙ append_assoc (with_last xs last) (y ∷ []) ys

-- Names.

-- The names are strictly increasing, and the first is above `last`, if there is one.
abbrev pub RiseFrom : Option (List ℕ) → List (List ℕ) → Type 0
RiseFrom last [] = Unit {0}
RiseFrom last (name ∷ names) = (follows last name ≡ true) × RiseFrom (Some name) names

-- The first name is above the last one before.
abbrev FollowsFirst : Option (List ℕ) → List (List ℕ) → Type 0
FollowsFirst last [] = Unit {0}
FollowsFirst last (name ∷ names) = follows last name ≡ true

rise_sorted : (last : Option (List ℕ)) (names : List (List ℕ)) → AreRising names → FollowsFirst last names → RiseFrom last names
unfolding IsStrictlySortedBy
rise_sorted last [] h f = tt
rise_sorted last (name ∷ names) h f = (f, rise_sorted (Some name) names h.1 (next name names h.0))
  where
    next : (name : List ℕ) (names : List (List ℕ)) → AllByRecursion (λ y. slice_cmp nat_cmp name y ≡ Less) names → FollowsFirst (Some name) names
    next name [] all = tt
    next name (n ∷ ns) all = ap is_lt all.0

pub rising_from_none : (names : List (List ℕ)) → AreRising names → RiseFrom None names
rising_from_none names h = rise_sorted None names h (first names)
  where
    first : (names : List (List ℕ)) → FollowsFirst None names
    first [] = tt
    first (n ∷ ns) = refl

-- Maps.

eq_zero : (n : ℕ) → n ≡ 0 → (n == 0) ≡ true
eq_zero n h = grind (arith, nat_tests)

words_of_again : (is_btf : Bool) (words : MapWords) → AreWordsOf is_btf words → are_words_of is_btf words ≡ true
words_of_again true words h = eq_zero words.id h
words_of_again false words h =
    rw (eq_zero words.map_extra h.0, eq_zero words.btf_key_type_id h.1, eq_zero words.btf_value_type_id h.2) refl

map_steps : (v : TextVersion) (license : List ℕ) (version : Option ℕ) (answers : Answers) (type_bytes : Option (List ℕ)) (maps : List MapContent) (last : Option MapContent) (m : MapContent) (rest : List LineContent) →
    IsSoundMap m → follows (option_map (λ x. x.name) last) m.name ≡ true →
    steps (state AtMaps v license version answers type_bytes maps last [] None) (lines_of_map m ++ rest)
    ≡ steps (state AtMaps v license version answers type_bytes (with_last maps last) (Some m) [] None) rest
map_steps v license version answers type_bytes maps last m rest sound f = by_inner m.inner sound
  where
    bare : MapContent
    bare = map_of m.name m.number m.is_btf m.words m.contents

    at : Option MapContent → StateContent
    at x = state AtMaps v license version answers type_bytes (with_last maps last) x [] None

    by_inner : (inner : Option MapWords) → IsSoundMap (record m { inner = inner }) →
        steps (state AtMaps v license version answers type_bytes maps last [] None) ((Map m.name m.number m.is_btf m.words m.contents ∷ inner_of inner) ++ rest)
        ≡ steps (at (Some (record m { inner = inner }))) rest
    by_inner None s = rw f refl
    by_inner (Some words) s = rw (f, words_of_again m.is_btf words s.inner) refl

maps_steps : (v : TextVersion) (license : List ℕ) (version : Option ℕ) (answers : Answers) (type_bytes : Option (List ℕ)) (maps : List MapContent) (last : Option MapContent) (ms : List MapContent) (rest : List LineContent) →
    All IsSoundMap ms → RiseFrom (option_map (λ x. x.name) last) (map_names ms) →
    steps (state AtMaps v license version answers type_bytes maps last [] None) (flat_map lines_of_map ms ++ rest)
    ≡ steps (state AtMaps v license version answers type_bytes (firsts maps last ms) (last_of last ms) [] None) rest
maps_steps v license version answers type_bytes maps last [] rest sound r = refl
maps_steps v license version answers type_bytes maps last (m ∷ ms) rest sound r =
    ap (steps (state AtMaps v license version answers type_bytes maps last [] None)) (append_assoc (lines_of_map m) (flat_map lines_of_map ms) rest)
    ∙ (map_steps v license version answers type_bytes maps last m (flat_map lines_of_map ms ++ rest) (All-head IsSoundMap m ms sound) r.0
    ∙ maps_steps v license version answers type_bytes (with_last maps last) (Some m) ms rest (All-tail IsSoundMap m ms sound) r.1)

-- Slots.

fits_two : (a b : ℕ) → a < 256 → b < 256 → (i : ℕ) → get_or (a ∷ b ∷ []) i 0 < 256
fits_two a b h k zero = h
fits_two a b h k (suc zero) = k
fits_two a b h k (suc (suc i)) = lit< tt

eight_bytes : (slot : bpf_insn) → length (bytes_of slot) ≡ 8
eight_bytes slot = search rules

slots_first : (bytes rest : List ℕ) → length bytes ≡ 8 → slots_of (bytes ++ rest) ≡ slot_of bytes ∷ slots_of rest
slots_first bytes rest h =
    let count : length (bytes ++ rest) / 8 ≡ suc (length rest / 8) = omega (arith, length-append bytes rest) in
    rw count (ap₂ (λ x y. slot_of x ∷ slots_in y (length rest / 8)) (front bytes h) (back bytes h))
  where
    front : (bytes : List ℕ) → length bytes ≡ 8 → take 8 (bytes ++ rest) ≡ bytes
    front (a ∷ b ∷ c ∷ d ∷ e ∷ f ∷ g ∷ i ∷ []) h = refl
    front bytes h = absurd (omega arith)

    back : (bytes : List ℕ) → length bytes ≡ 8 → drop 8 (bytes ++ rest) ≡ rest
    back (a ∷ b ∷ c ∷ d ∷ e ∷ f ∷ g ∷ i ∷ []) h = refl
    back bytes h = absurd (omega arith)

-- The slots are read from their bytes.
pub slots_again : (slots : List bpf_insn) → All FitsSlot slots → slots_of (slot_bytes slots) ≡ slots
slots_again [] h = refl
slots_again (slot ∷ slots) h =
    let fits = All-head FitsSlot slot slots h in
    slots_first (bytes_of slot) (slot_bytes slots) (eight_bytes slot)
    ∙ ap₂ (λ x y. x ∷ y) fits.again (slots_again slots (All-tail FitsSlot slot slots h))

-- Programs.

-- The phase after the line records.
abbrev after_sources : List bpf_line_info → Phase
after_sources [] = AtFuncs
after_sources (r ∷ records) = AtLines

-- A phase in which a program may begin.
abbrev IsBetween : Phase → Type 0
IsBetween AtMaps = Unit {0}
IsBetween AtFuncs = Unit {0}
IsBetween AtLines = Unit {0}
IsBetween _ = ⊥

abbrev KnowsNone : TextVersion → Option (List ℕ) → Type 0
KnowsNone First tables = tables ≡ None
KnowsNone Second tables = Unit {0}

between_after : (records : List bpf_line_info) → IsBetween (after_sources records)
between_after [] = tt
between_after (r ∷ records) = tt

abbrev AllKnowNone : TextVersion → List ProgramContent → Type 0
AllKnowNone w [] = Unit {0}
AllKnowNone w (p ∷ ps) = KnowsNone w p.tables × AllKnowNone w ps

module _ (v : TextVersion) (license : List ℕ) (version : Option ℕ) (answers : Answers) (type_bytes : Option (List ℕ)) (maps : List MapContent) (last_map : Option MapContent) where
  abbrev at : Phase → List ProgramContent → Option ProgramContent → StateContent
  at phase programs last = state phase v license version answers type_bytes maps last_map programs last

  funcs_steps : (programs : List ProgramContent) (p : ProgramContent) (records : List bpf_func_info) (rest : List LineContent) →
      steps (at AtFuncs programs (Some p)) (map line_of_func records ++ rest)
      ≡ steps (at AtFuncs programs (Some (record p { func_records = p.func_records ++ records }))) rest
  funcs_steps programs p [] rest =
      ap (λ (x : List bpf_func_info). steps (at AtFuncs programs (Some (record p { func_records = x }))) rest) (sym (append-nil p.func_records))
  funcs_steps programs p (r ∷ records) rest =
      funcs_steps programs (record p { func_records = p.func_records ++ r ∷ [] }) records rest
      ∙ ap (λ (x : List bpf_func_info). steps (at AtFuncs programs (Some (record p { func_records = x }))) rest) (append_assoc p.func_records (r ∷ []) records)

  sources_steps : (programs : List ProgramContent) (p : ProgramContent) (records : List bpf_line_info) (rest : List LineContent) →
      steps (at AtLines programs (Some p)) (map line_of_source records ++ rest)
      ≡ steps (at AtLines programs (Some (record p { line_records = p.line_records ++ records }))) rest
  sources_steps programs p [] rest =
      ap (λ (x : List bpf_line_info). steps (at AtLines programs (Some (record p { line_records = x }))) rest) (sym (append-nil p.line_records))
  sources_steps programs p (r ∷ records) rest =
      sources_steps programs (record p { line_records = p.line_records ++ r ∷ [] }) records rest
      ∙ ap (λ (x : List bpf_line_info). steps (at AtLines programs (Some (record p { line_records = x }))) rest) (append_assoc p.line_records (r ∷ []) records)

  all_sources : (programs : List ProgramContent) (p : ProgramContent) (records : List bpf_line_info) (rest : List LineContent) → p.line_records ≡ [] →
      steps (at AtFuncs programs (Some p)) (map line_of_source records ++ rest)
      ≡ steps (at (after_sources records) programs (Some (record p { line_records = records }))) rest
  all_sources programs p [] rest none = ap (λ (x : List bpf_line_info). steps (at AtFuncs programs (Some (record p { line_records = x }))) rest) none
  all_sources programs p (r ∷ records) rest none = from p.line_records none
    where
      from : (before : List bpf_line_info) → before ≡ [] →
          steps (at AtFuncs programs (Some (record p { line_records = before }))) (map line_of_source (r ∷ records) ++ rest)
          ≡ steps (at AtLines programs (Some (record p { line_records = r ∷ records }))) rest
      from [] e = sources_steps programs (record p { line_records = r ∷ [] }) records rest
      from (x ∷ before) e = cc

  begins : (phase : Phase) → IsBetween phase → (programs : List ProgramContent) (last : Option ProgramContent) (name : List ℕ) (section : ProgramSection) → follows (option_map (λ p. p.name) last) name ≡ true →
      step (at phase programs last) (Program name section) ≡ Some (at AtSlots (with_last programs last) (Some (bare_program name section)))
  begins AtMaps b programs last name section f = rw f refl
  begins AtFuncs b programs last name section f = rw f refl
  begins AtLines b programs last name section f = rw f refl
  begins AtHeader b programs last name section f = absurd b
  begins AtLicense b programs last name section f = absurd b
  begins AtVersion b programs last name section f = absurd b
  begins AtFeatures b programs last name section f = absurd b
  begins AtSlots b programs last name section f = absurd b
  begins AtTables b programs last name section f = absurd b
  begins AtEnd b programs last name section f = absurd b

  ends : (phase : Phase) → IsBetween phase → (programs : List ProgramContent) (last : Option ProgramContent) → step (at phase programs last) End ≡ Some (finished (at phase programs last))
  ends AtMaps b programs last = refl
  ends AtFuncs b programs last = refl
  ends AtLines b programs last = refl
  ends AtHeader b programs last = absurd b
  ends AtLicense b programs last = absurd b
  ends AtVersion b programs last = absurd b
  ends AtFeatures b programs last = absurd b
  ends AtSlots b programs last = absurd b
  ends AtTables b programs last = absurd b
  ends AtEnd b programs last = absurd b

  -- The slots, and then the tables if the text has them.
  slots_steps : (w : TextVersion) → v ≡ w → (programs : List ProgramContent) (name : List ℕ) (section : ProgramSection) (bytes : List ℕ) (tables : Option (List ℕ)) (rest : List LineContent) → KnowsNone w tables →
      steps (at AtSlots programs (Some (bare_program name section))) (Slots bytes ∷ (tables_of w tables ++ rest))
      ≡ steps (at AtFuncs programs (Some (record (bare_program name section) { slots = slots_of bytes; tables = tables }))) rest
  slots_steps First e programs name section bytes tables rest k = rw (e, k) refl
  slots_steps Second e programs name section bytes tables rest k = rw e refl

  program_steps : (phase : Phase) → IsBetween phase → (programs : List ProgramContent) (last : Option ProgramContent) (p : ProgramContent) (rest : List LineContent) → FitsProgram p → KnowsNone v p.tables → follows (option_map (λ x. x.name) last) p.name ≡ true →
      steps (at phase programs last) (lines_of_program v p ++ rest)
      ≡ steps (at (after_sources p.line_records) (with_last programs last) (Some p)) rest
  program_steps phase b programs last p rest fits k f =
      let bare = bare_program p.name p.section in
      let slotted = record bare { slots = slots_of (slot_bytes p.slots); tables = p.tables } in
      let funced = record bare { slots = p.slots; tables = p.tables; func_records = p.func_records } in
      let all = with_last programs last in
      let sources = map line_of_source p.line_records in
      ap (option_and_then (λ t. steps t (Slots (slot_bytes p.slots) ∷ ((tables_of v p.tables ++ lines_of_records p) ++ rest)))) (begins phase b programs last p.name p.section f)
      ∙ (ap (λ ls. steps (at AtSlots all (Some bare)) (Slots (slot_bytes p.slots) ∷ ls)) (append_assoc (tables_of v p.tables) (lines_of_records p) rest)
      ∙ (slots_steps v refl all p.name p.section (slot_bytes p.slots) p.tables (lines_of_records p ++ rest) k
      ∙ (ap (λ ls. steps (at AtFuncs all (Some slotted)) ls) (append_assoc (map line_of_func p.func_records) sources rest)
      ∙ (funcs_steps all slotted p.func_records (sources ++ rest)
      ∙ (ap (λ (x : List bpf_insn). steps (at AtFuncs all (Some (record funced { slots = x }))) (sources ++ rest)) (slots_again p.slots fits.slots)
      ∙ all_sources all funced p.line_records rest refl)))))

  programs_steps : (phase : Phase) → IsBetween phase → (programs : List ProgramContent) (last : Option ProgramContent) (ps : List ProgramContent) → All FitsProgram ps → AllKnowNone v ps → RiseFrom (option_map (λ x. x.name) last) (program_names ps) →
      steps (at phase programs last) (flat_map (lines_of_program v) ps ++ End ∷ [])
      ≡ Some (state AtEnd v license version answers type_bytes (with_last maps last_map) None (with_last programs last ++ ps) None)
  programs_steps phase b programs last [] fits k r =
      ap (option_and_then (λ t. steps t [])) (ends phase b programs last)
      ∙ ap (λ (x : List ProgramContent). Some (state AtEnd v license version answers type_bytes (with_last maps last_map) None x None)) (sym (append-nil (with_last programs last)))
  programs_steps phase b programs last (p ∷ ps) fits k r =
      ap (steps (at phase programs last)) (append_assoc (lines_of_program v p) (flat_map (lines_of_program v) ps) (End ∷ []))
      ∙ (program_steps phase b programs last p (flat_map (lines_of_program v) ps ++ End ∷ []) (All-head FitsProgram p ps fits) k.0 r.0
      ∙ (programs_steps (after_sources p.line_records) (between_after p.line_records) (with_last programs last) (Some p) ps (All-tail FitsProgram p ps fits) k.1 r.1
      ∙ ap (λ (x : List ProgramContent). Some (state AtEnd v license version answers type_bytes (with_last maps last_map) None x None)) (append_assoc (with_last programs last) (p ∷ []) ps)))

all_know_none : (v : TextVersion) (q : PlanContent) → AreTablesIn v q → AllKnowNone v q.programs
all_know_none First q h = each q.programs h
  where
    each : (ps : List ProgramContent) → All (λ p. p.tables ≡ None) ps → AllKnowNone First ps
    each [] h = tt
    each (p ∷ ps) h = (All-head (λ x. x.tables ≡ None) p ps h, each ps (All-tail (λ x. x.tables ≡ None) p ps h))
all_know_none Second q h = each q.programs
  where
    each : (ps : List ProgramContent) → AllKnowNone Second ps
    each [] = tt
    each (p ∷ ps) = (tt, each ps)

-- The lines of a plan lead to it.
pub plan_steps : (v : TextVersion) (q : PlanContent) → IsSoundPlan q → FitsPlan q → AreTablesIn v q → steps start (lines_of_plan v q) ≡ Some (done v q)
plan_steps v q sound fits tables =
    let after = flat_map (lines_of_program v) q.programs ++ End ∷ [] in
    features_steps v q.license q.version None [] q.features (Types q.type_bytes ∷ (flat_map lines_of_map q.maps ++ after)) sound.features
    ∙ (maps_steps v q.license q.version q.features q.type_bytes [] None q.maps after sound.maps (rising_from_none (map_names q.maps) sound.map_names)
    ∙ (programs_steps v q.license q.version q.features q.type_bytes (firsts [] None q.maps) (last_of None q.maps) AtMaps tt [] None q.programs fits.programs (all_know_none v q tables) (rising_from_none (program_names q.programs) sound.program_names)
    ∙ ap (λ (x : List MapContent). Some (state AtEnd v q.license q.version q.features q.type_bytes x None q.programs None)) (with_last-firsts [] None q.maps)))
