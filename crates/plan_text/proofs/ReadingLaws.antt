-- Reading a plan line by line.
use Rattle.std.proofs.Common.{◌≡◌, ℕ, ◌+◌, ◌*◌, ◌%◌, ◌<◌, ◌≤◌, Bool, true, false, List, [], ◌∷◌, ◌++◌, length, map, refl, ap, ap₂, sym, ◌∙◌, subst, arith, Option, None, Some, Result, Ok, Err, append_assoc, append-nil, length-append, inl, inr, rules}
use Rattle.std.specs.Prelude.{flat_map, option_and_then, IfOk, IfSome}
use Rattle.std.specs.List.{All}
use Rattle.std.specs.declared.alloc.AllocError.{AllocError}
use Rattle.std.proofs.lemmas.List.{map-append}
use Rattle.std.proofs.lemmas.List.Elements.{All-append, All-head, All-nil, All-tail}
use Rattle.btf_ext.specs.declared.record.bpf_func_info.{bpf_func_info}
use Rattle.btf_ext.specs.declared.record.bpf_line_info.{bpf_line_info}
use Rattle.btf_sanitize.specs.Answers.{Answers}
use Rattle.ebpf_items.specs.declared.instruction.bpf_insn.{bpf_insn}
use Rattle.ebpf_items.specs.Instruction.{bytes_of}
use Rattle.object_file.specs.Version.{IsKnownVersion}
use Rattle.plan_lines.specs.LineReads.{IsReadLine, LinesAreToldApart, LinesAreUnbroken, line_text}
use Rattle.plan_lines.specs.LineViews.{line_view}
use Rattle.plan_lines.specs.Lines.{AreWithin, End, Header, License, LineContent, Map, Program, Slots, Types, Version, IsSoundLine, max_32, numbers_of, word_limits, words_of_line}
use Rattle.plan_lines.specs.WordReading.{IsUnbroken}
use Rattle.plan_lines.specs.Words.{AreBytes, joined, line_onto, slot_bytes, text_of_lines, words_onto}
use Rattle.plan_lines.specs.declared.line.PlanLine.{PlanLine}
use Rattle.plan_lines.specs.declared.line.TextVersion.{TextVersion}
use Rattle.plan_lines.specs.declared.line.TextVersion.TheVariants.{First, Second}
use Rattle.plan_lines.specs.declared.map_words.MapWords.{MapWords}
use Rattle.plan_text.proofs.StateLaws.{IsAtEnd, IsGood, Reached, completes, ended_lines, grows, so_far, start_good}
use Rattle.plan_text.proofs.StepLaws.{done, inner_of, line_of_answer, line_of_func, line_of_source, lines_of_map, lines_of_plan, lines_of_program, lines_of_records, plan_steps, steps, tables_of}
use Rattle.plan_text.proofs.Texts.{text_of_lines-append, words_onto-split}
use Rattle.plan_text.proofs.Unbroken.{not_unbroken, one_line}
use Rattle.plan_text.specs.Content.{FitsFunc, FitsMap, FitsPlan, FitsProgram, FitsSlot, FitsSource, IsPlan, IsSoundMap, IsSoundPlan, IsSoundProgram, MapContent, PlanContent, ProgramContent}
use Rattle.plan_text.specs.declared.reading.PlanReadError.{PlanReadError}
use Rattle.plan_text.specs.declared.reading.PlanReadError.TheVariants as error
use Rattle.plan_text.specs.declared.reading.Phase.{Phase}
use Rattle.plan_text.specs.Machine.{RefusedLine, StateContent, Takes, TakesLine, TookLine, kept_plan, plan_at, start, step}
use Rattle.plan_text.specs.PlanGrammar.{BeginsPlanText, IsTextOf, Spells, end_line, feature_line, func_line, inner_lines, map_lines, plan_lines, program_lines, source_line, tables_lines, text_in}
use Rattle.plan_text.specs.Reading.{AreUnbroken, IsFirstBadLine, IsReadFault, IsReadPlan, ReadsAs, ended}
use Rattle.plan_text.specs.declared.reading.Phase.TheVariants.{AtEnd}

-- The words of the lines of a plan.

inner_words : (inner : Option MapWords) → map words_of_line (inner_of inner) ≡ inner_lines inner
inner_words None = refl
inner_words (Some words) = refl

maps_words : (ms : List MapContent) → map words_of_line (flat_map lines_of_map ms) ≡ flat_map map_lines ms
maps_words [] = refl
maps_words (m ∷ ms) =
    map-append words_of_line (lines_of_map m) (flat_map lines_of_map ms)
    ∙ ap₂ (λ (x y : List (List (List ℕ))). (words_of_line (Map m.name m.number m.is_btf m.words m.contents) ∷ x) ++ y) (inner_words m.inner) (maps_words ms)

tables_words : (v : TextVersion) (tables : Option (List ℕ)) → map words_of_line (tables_of v tables) ≡ tables_lines v tables
tables_words First tables = refl
tables_words Second tables = refl

funcs_words : (rs : List bpf_func_info) → map words_of_line (map line_of_func rs) ≡ map func_line rs
funcs_words [] = refl
funcs_words (r ∷ rs) = ap (λ ls. func_line r ∷ ls) (funcs_words rs)

sources_words : (rs : List bpf_line_info) → map words_of_line (map line_of_source rs) ≡ map source_line rs
sources_words [] = refl
sources_words (r ∷ rs) = ap (λ ls. source_line r ∷ ls) (sources_words rs)

answers_words : (answers : Answers) → map words_of_line (map line_of_answer answers) ≡ map feature_line answers
answers_words [] = refl
answers_words (a ∷ answers) = ap (λ ls. feature_line a ∷ ls) (answers_words answers)

program_words : (v : TextVersion) (p : ProgramContent) → map words_of_line (lines_of_program v p) ≡ program_lines v p
program_words v p =
    ap (λ ls. words_of_line (Program p.name p.section) ∷ words_of_line (Slots (slot_bytes p.slots)) ∷ ls)
    (map-append words_of_line (tables_of v p.tables) (lines_of_records p)
    ∙ ap₂ (λ (x y : List (List (List ℕ))). x ++ y) (tables_words v p.tables)
    (map-append words_of_line (map line_of_func p.func_records) (map line_of_source p.line_records)
    ∙ ap₂ (λ (x y : List (List (List ℕ))). x ++ y) (funcs_words p.func_records) (sources_words p.line_records)))

programs_words : (v : TextVersion) (ps : List ProgramContent) → map words_of_line (flat_map (lines_of_program v) ps) ≡ flat_map (program_lines v) ps
programs_words v [] = refl
programs_words v (p ∷ ps) =
    map-append words_of_line (lines_of_program v p) (flat_map (lines_of_program v) ps)
    ∙ ap₂ (λ (x y : List (List (List ℕ))). x ++ y) (program_words v p) (programs_words v ps)

plan_words : (v : TextVersion) (q : PlanContent) → map words_of_line (lines_of_plan v q) ≡ plan_lines v q
plan_words v q =
    let programs = flat_map (lines_of_program v) q.programs in
    ap (λ ls. words_of_line (Header v) ∷ words_of_line (License q.license) ∷ words_of_line (Version q.version) ∷ ls)
    (map-append words_of_line (map line_of_answer q.features) (Types q.type_bytes ∷ (flat_map lines_of_map q.maps ++ (programs ++ End ∷ [])))
    ∙ ap₂ (λ (x y : List (List (List ℕ))). x ++ words_of_line (Types q.type_bytes) ∷ y) (answers_words q.features)
    (map-append words_of_line (flat_map lines_of_map q.maps) (programs ++ End ∷ [])
    ∙ ap₂ (λ (x y : List (List (List ℕ))). x ++ y) (maps_words q.maps)
    (map-append words_of_line programs (End ∷ []) ∙ ap (λ ls. ls ++ end_line ∷ []) (programs_words v q.programs))))

-- The text of some lines.
abbrev pub lines_text : List LineContent → List ℕ
lines_text lines = text_of_lines (map words_of_line lines)

plan_text : (v : TextVersion) (q : PlanContent) → lines_text (lines_of_plan v q) ≡ text_in v q
unfolding text_in
plan_text v q = ap text_of_lines (plan_words v q)

lines_text-append : (xs ys : List LineContent) → lines_text (xs ++ ys) ≡ lines_text xs ++ lines_text ys
lines_text-append xs ys = ap text_of_lines (map-append words_of_line xs ys) ∙ text_of_lines-append (map words_of_line xs) (map words_of_line ys)

first_text : (line : LineContent) (t : List ℕ) → line_onto (words_of_line line) t ≡ line_text line ++ 10 ∷ t
first_text line t = parts (words_of_line line)
  where
    parts : (words : List (List ℕ)) → line_onto words t ≡ joined words ++ 10 ∷ t
    parts [] = refl
    parts (w ∷ ws) = ap (λ x. w ++ x) (words_onto-split ws (10 ∷ t)) ∙ sym (append_assoc w (words_onto ws []) (10 ∷ t))

-- The lines of a plan are within their limits.

abbrev pub AllSound : List LineContent → Type 0
AllSound [] = Unit {0}
AllSound (line ∷ lines) = IsSoundLine line × AllSound lines

AllSound-append : (xs ys : List LineContent) → AllSound xs → AllSound ys → AllSound (xs ++ ys)
AllSound-append [] ys a b = b
AllSound-append (x ∷ xs) ys a b = (a.0, AllSound-append xs ys a.1 b)

sound_version : (version : Option ℕ) → IsKnownVersion version → IfSome version (λ v. v ≤ max_32) → IsSoundLine (Version version)
sound_version None k h = tt
sound_version (Some v) k h = (h, k)

sound_answers : (answers : Answers) → AllSound (map line_of_answer answers)
sound_answers [] = tt
sound_answers (a ∷ answers) = (tt, sound_answers answers)

sound_types : (type_bytes : Option (List ℕ)) → IfSome type_bytes (λ bytes. 0 < length bytes) → IfSome type_bytes AreBytes → IsSoundLine (Types type_bytes)
sound_types None some h = tt
sound_types (Some bytes) some h = (h, some)

sound_inner : (inner : Option MapWords) → IfSome inner (λ words. AreWithin word_limits (numbers_of words)) → AllSound (inner_of inner)
sound_inner None h = tt
sound_inner (Some words) h = (h, tt)

sound_maps : (ms : List MapContent) → All IsSoundMap ms → All FitsMap ms → AllSound (flat_map lines_of_map ms)
sound_maps [] s f = tt
sound_maps (m ∷ ms) s f =
    let one = All-head IsSoundMap m ms s in
    let fits = All-head FitsMap m ms f in
    AllSound-append (lines_of_map m) (flat_map lines_of_map ms)
    ((fits.name, omega (arith, one.number), fits.words, one.words, fits.contents), sound_inner m.inner fits.inner)
    (sound_maps ms (All-tail IsSoundMap m ms s) (All-tail FitsMap m ms f))

slot_bytes_fit : (slots : List bpf_insn) → All FitsSlot slots → AreBytes (slot_bytes slots)
slot_bytes_fit [] h = All-nil (λ b. b < 256)
slot_bytes_fit (slot ∷ slots) h = All-append (λ b. b < 256) (bytes_of slot) (slot_bytes slots) (All-head FitsSlot slot slots h).bytes (slot_bytes_fit slots (All-tail FitsSlot slot slots h))

eight_bytes : (slot : bpf_insn) → length (bytes_of slot) ≡ 8
eight_bytes slot = search rules

length-slot_bytes : (slots : List bpf_insn) → length (slot_bytes slots) ≡ 8 * length slots
length-slot_bytes [] = refl
length-slot_bytes (slot ∷ slots) = omega (arith, length-append (bytes_of slot) (slot_bytes slots), eight_bytes slot, length-slot_bytes slots)

sound_tables : (v : TextVersion) (p : ProgramContent) → IsSoundProgram p → AllSound (tables_of v p.tables)
sound_tables First p h = tt
sound_tables Second p h = (h.tables, tt)

sound_funcs : (rs : List bpf_func_info) → All FitsFunc rs → AllSound (map line_of_func rs)
sound_funcs [] h = tt
sound_funcs (r ∷ rs) h = (All-head FitsFunc r rs h, sound_funcs rs (All-tail FitsFunc r rs h))

sound_sources : (rs : List bpf_line_info) → All FitsSource rs → AllSound (map line_of_source rs)
sound_sources [] h = tt
sound_sources (r ∷ rs) h = (All-head FitsSource r rs h, sound_sources rs (All-tail FitsSource r rs h))

sound_programs : (v : TextVersion) (ps : List ProgramContent) → All IsSoundProgram ps → All FitsProgram ps → AllSound (flat_map (lines_of_program v) ps)
sound_programs v [] s f = tt
sound_programs v (p ∷ ps) s f =
    let one = All-head IsSoundProgram p ps s in
    let fits = All-head FitsProgram p ps f in
    let whole : length (slot_bytes p.slots) % 8 ≡ 0 = omega (arith, length-slot_bytes p.slots) in
    AllSound-append (lines_of_program v p) (flat_map (lines_of_program v) ps) (
      fits.name,
      (
        (slot_bytes_fit p.slots fits.slots, whole),
        AllSound-append (tables_of v p.tables) (lines_of_records p) (sound_tables v p one)
            (AllSound-append (map line_of_func p.func_records) (map line_of_source p.line_records) (sound_funcs p.func_records fits.func_records) (sound_sources p.line_records fits.line_records)),
      ),
    )
    (sound_programs v ps (All-tail IsSoundProgram p ps s) (All-tail FitsProgram p ps f))

plan_sound : (v : TextVersion) (q : PlanContent) → IsSoundPlan q → FitsPlan q → AllSound (lines_of_plan v q)
plan_sound v q s f = (
  tt,
  (
    (f.license, s.license),
    (
      sound_version q.version s.version f.version,
      AllSound-append (map line_of_answer q.features) (Types q.type_bytes ∷ (flat_map lines_of_map q.maps ++ (flat_map (lines_of_program v) q.programs ++ End ∷ []))) (sound_answers q.features) (
        sound_types q.type_bytes s.type_bytes f.type_bytes,
        AllSound-append (flat_map lines_of_map q.maps) (flat_map (lines_of_program v) q.programs ++ End ∷ []) (sound_maps q.maps s.maps f.maps)
            (AllSound-append (flat_map (lines_of_program v) q.programs) (End ∷ []) (sound_programs v q.programs s.programs f.programs) (tt, tt)),
      ),
    ),
  ),
)

-- Texts that lead to a plan.

-- The rest of a text consists of lines that lead to a plan.
pub record Leads (s : StateContent) (rest : List ℕ) (v : TextVersion) (q : PlanContent) : Type 0 where
  pub rows : List LineContent
  pub sound : AllSound rows
  pub lead : steps s rows ≡ Some (done v q)
  pub spelled : rest ≡ lines_text rows

leads_start : (v : TextVersion) (q : PlanContent) (text : List ℕ) → Spells v q text → Leads start text v q
leads_start v q text h = record {
  rows = lines_of_plan v q;
  sound = plan_sound v q h.sound h.fits;
  lead = plan_steps v q h.sound h.fits h.tables;
  spelled = h.spelled ∙ sym (plan_text v q);
}

not_empty : (line rest : List ℕ) → line ++ 10 ∷ rest ≡ [] → ⊥
not_empty [] rest e = cc
not_empty (x ∷ line) rest e = cc

bind_some : {A B : Type 0} (f : A → Option B) (r : Option A) (y : B) → option_and_then f r ≡ Some y → (x : A) × (r ≡ Some x) × (f x ≡ Some y)
bind_some f None y h = cc
bind_some f (Some x) y h = (x, refl, h)

-- The first line of such a rest leads to a state from which the others lead to the plan.
pub record LeadsOn (s : StateContent) (line others : List ℕ) (v : TextVersion) (q : PlanContent) : Type 0 where
  pub first : LineContent
  pub next : StateContent
  pub sound : IsSoundLine first
  pub text : line ≡ line_text first
  pub steps : step s first ≡ Some next
  pub leads : Leads next others v q

leads_line : LinesAreUnbroken → (s : StateContent) (line others : List ℕ) (v : TextVersion) (q : PlanContent) → IsUnbroken line → Leads s (line ++ 10 ∷ others) v q → LeadsOn s line others v q
leads_line law s line others v q u h = by_rows h.rows h.sound h.lead h.spelled
  where
    by_rows : (rows : List LineContent) → AllSound rows → steps s rows ≡ Some (done v q) → line ++ 10 ∷ others ≡ lines_text rows → LeadsOn s line others v q
    by_rows [] a l e = absurd (not_empty line others e)
    by_rows (r ∷ rows) a l e =
        let t = bind_some (λ x. steps x rows) (step s r) (done v q) l in
        let o = one_line line (line_text r) others (lines_text rows) u (law.each r a.0) (e ∙ first_text r (lines_text rows)) in
        record { first = r; next = t.0; sound = a.0; text = o.0; steps = t.1; leads = record { rows = rows; sound = a.1; lead = t.2; spelled = o.1 } }

-- If no line is left, the plan was read.
leads_end : (s : StateContent) (rest : List ℕ) (v : TextVersion) (q : PlanContent) → IsUnbroken rest → Leads s rest v q → (rest ≡ []) × (s ≡ done v q)
leads_end s rest v q u h = by_rows h.rows h.lead h.spelled
  where
    by_rows : (rows : List LineContent) → steps s rows ≡ Some (done v q) → rest ≡ lines_text rows → (rest ≡ []) × (s ≡ done v q)
    by_rows [] l e = (e, cc)
    by_rows (r ∷ rows) l e = absurd (not_unbroken (line_text r) (lines_text rows) (subst IsUnbroken (e ∙ first_text r (lines_text rows)) u))

some_is : {A : Type 0} (x y : A) → Some x ≡ Some y → x ≡ y
some_is x y e = cc

-- Different plans have different texts.

same_lines : LinesAreUnbroken → LinesAreToldApart → (xs ys : List LineContent) → AllSound xs → AllSound ys → lines_text xs ≡ lines_text ys → xs ≡ ys
same_lines law apart [] [] a b e = refl
same_lines law apart [] (y ∷ ys) a b e = absurd (not_empty (line_text y) (lines_text ys) (sym (e ∙ first_text y (lines_text ys))))
same_lines law apart (x ∷ xs) [] a b e = absurd (not_empty (line_text x) (lines_text xs) (sym (first_text x (lines_text xs)) ∙ e))
same_lines law apart (x ∷ xs) (y ∷ ys) a b e =
    let o = one_line (line_text x) (line_text y) (lines_text xs) (lines_text ys) (law.each x a.0) (law.each y b.0) (sym (first_text x (lines_text xs)) ∙ (e ∙ first_text y (lines_text ys))) in
    ap₂ (λ (l : LineContent) (ls : List LineContent). l ∷ ls) (apart.same x y a.0 b.0 o.0) (same_lines law apart xs ys a.1 b.1 o.1)

-- A text is the text of at most one plan.
pub same_plan : LinesAreUnbroken → LinesAreToldApart → (text : List ℕ) (p q : PlanContent) → IsTextOf p text → IsTextOf q text → p ≡ q
same_plan law apart text p q h k =
    let a = leads_start h.0 p text h.1 in
    let b = leads_start k.0 q text k.1 in
    let e = same_lines law apart a.rows b.rows a.sound b.sound (sym a.spelled ∙ b.spelled) in
    let s : Some (done h.0 p) ≡ Some (done k.0 q) = sym a.lead ∙ (ap (steps start) e ∙ b.lead) in
    ap kept_plan (some_is (done h.0 p) (done k.0 q) s)

-- The part of a text that was read.

-- The rest of a plan's text after `front` leads to that plan.
pub record Knows (s : StateContent) (front : List ℕ) : Type 0 where
  pub each : (v : TextVersion) (q : PlanContent) (tail : List ℕ) → Spells v q (front ++ tail) → Leads s tail v q

pub record IsReading (bytes rest : List ℕ) (lines : ℕ) (s : StateContent) : Type 0 where
  pub before : List (List ℕ)
  pub unbroken : AreUnbroken before
  pub count : lines ≡ length before
  pub split : bytes ≡ ended before ++ rest
  pub text : ended before ≡ lines_text (so_far s.phase s)
  pub good : IsGood s
  pub knows : Knows s (ended before)

pub reading_start : (bytes : List ℕ) → IsReading bytes bytes 0 start
reading_start bytes = record {
  before = [];
  unbroken = tt;
  count = refl;
  split = refl;
  text = refl;
  good = start_good;
  knows = record { each = λ v q tail h. leads_start v q tail h };
}

ended-snoc : (lines : List (List ℕ)) (line : List ℕ) → ended (lines ++ line ∷ []) ≡ ended lines ++ (line ++ 10 ∷ [])
ended-snoc [] line = refl
ended-snoc (l ∷ lines) line = ap (λ x. l ++ 10 ∷ x) (ended-snoc lines line) ∙ sym (append_assoc l (10 ∷ ended lines) (line ++ 10 ∷ []))

unbroken-snoc : (lines : List (List ℕ)) (line : List ℕ) → AreUnbroken lines → IsUnbroken line → AreUnbroken (lines ++ line ∷ [])
unbroken-snoc [] line a u = (u, tt)
unbroken-snoc (l ∷ lines) line a u = (a.0, unbroken-snoc lines line a.1 u)

respell : (v : TextVersion) (q : PlanContent) (s t : List ℕ) → s ≡ t → Spells v q s → Spells v q t
respell v q s t e h = subst (Spells v q) e h

-- A prefix, a line, and the rest.
along : (front line tail : List ℕ) → (front ++ (line ++ 10 ∷ [])) ++ tail ≡ front ++ (line ++ 10 ∷ tail)
along front line tail = append_assoc front (line ++ 10 ∷ []) tail ∙ ap (λ x. front ++ x) (append_assoc line (10 ∷ []) tail)

knows_next : LinesAreUnbroken → (s t : StateContent) (front line : List ℕ) → IsUnbroken line → Knows s front → TookLine s line t → Knows t (front ++ (line ++ 10 ∷ []))
knows_next law s t front line u k took = record {
  each = λ v q tail h.
      let on = leads_line law s line tail v q u (k.each v q (line ++ 10 ∷ tail) (respell v q _ _ (along front line tail) h)) in
      let same : on.next ≡ t = some_is on.next t (sym on.steps ∙ took.only on.first on.sound on.text) in
      subst (λ (x : StateContent). Leads x tail v q) same on.leads;
}

-- One more line.
pub reading_next : LinesAreUnbroken → (bytes rest line others : List ℕ) (lines : ℕ) (s t : StateContent) → IsReading bytes rest lines s → rest ≡ line ++ 10 ∷ others → IsUnbroken line → TookLine s line t → IsReading bytes others (lines + 1) t
reading_next law bytes rest line others lines s t r cut u took =
    let g = grows s took.line t r.good took.sound took.steps in
    let e = ended-snoc r.before line in
    record {
      before = r.before ++ line ∷ [];
      unbroken = unbroken-snoc r.before line r.unbroken u;
      count = omega (arith, r.count, length-append r.before (line ∷ []));
      split = r.split ∙ (ap (λ x. ended r.before ++ x) cut ∙ (sym (along (ended r.before) line others) ∙ ap (λ x. x ++ others) (sym e)));
      text = e ∙ (ap₂ (λ (x y : List ℕ). x ++ (y ++ 10 ∷ [])) r.text took.text
          ∙ (ap (λ x. lines_text (so_far s.phase s) ++ x) (sym (first_text took.line []))
          ∙ (sym (lines_text-append (so_far s.phase s) (took.line ∷ [])) ∙ ap lines_text (sym g.0))));
      good = g.1;
      knows = subst (Knows t) (sym e) (knows_next law s t (ended r.before) line u r.knows took);
    }

-- The lines that were read begin a plan's text.
begins : (s : StateContent) (front : List ℕ) → IsGood s → front ≡ lines_text (so_far s.phase s) → BeginsPlanText front
begins s front g e =
    let c = completes s g in
    let plan = g.plan in (
      lines_text c.0,
      (
        plan_at s,
        (
          s.text_version,
          record {
            sound = plan.sound;
            fits = plan.fits;
            tables = plan.tables;
            spelled = ap (λ x. x ++ lines_text c.0) e ∙ (sym (lines_text-append (so_far s.phase s) c.0) ∙ (ap lines_text c.1 ∙ plan_text s.text_version (plan_at s)));
          },
        ),
      ),
    )

-- No plan's text continues with a line that is refused.
no_more : LinesAreUnbroken → (s : StateContent) (front line : List ℕ) → IsUnbroken line → Knows s front → RefusedLine s line → BeginsPlanText (front ++ (line ++ 10 ∷ [])) → ⊥
no_more law s front line u k refused h =
    let tail = h.0 in
    let q = h.1.0 in
    let v = h.1.1.0 in
    let on = leads_line law s line tail v q u (k.each v q (line ++ 10 ∷ tail) (respell v q _ _ (along front line tail) h.1.1.1)) in
    let none : None ≡ Some on.next = sym (refused.none on.first on.sound on.text) ∙ on.steps in
    cc

pub bad_line : LinesAreUnbroken → (bytes rest line others : List ℕ) (lines : ℕ) (s : StateContent) → IsReading bytes rest lines s → rest ≡ line ++ 10 ∷ others → IsUnbroken line → RefusedLine s line → IsFirstBadLine bytes (lines + 1)
bad_line law bytes rest line others lines s r cut u refused =
    let front = ended r.before in
    let bad = no_more law s front line u r.knows refused in
    record {
      before = r.before;
      rest = rest;
      split = r.split;
      unbroken = r.unbroken;
      number = ap (λ n. n + 1) r.count;
      begins = begins s front r.good r.text;
      stops = inr (record { line = line; others = others; cut = cut; unbroken = u; bad = bad });
      none = λ h. bad (others, (h.0, (h.1.0, respell h.1.0 h.0 bytes ((front ++ (line ++ 10 ∷ [])) ++ others) (r.split ∙ (ap (λ x. front ++ x) cut ∙ sym (along front line others))) h.1.1)));
    }

-- The text ends before the plan does.
pub bad_end : (bytes rest : List ℕ) (lines : ℕ) (s : StateContent) → IsReading bytes rest lines s → IsUnbroken rest → ((rest ≡ []) → (s.phase ≡ AtEnd) → ⊥) → IsFirstBadLine bytes (lines + 1)
bad_end bytes rest lines s r u no_end = record {
  before = r.before;
  rest = rest;
  split = r.split;
  unbroken = r.unbroken;
  number = ap (λ n. n + 1) r.count;
  begins = begins s (ended r.before) r.good r.text;
  stops = inl u;
  none = λ h.
      let e = leads_end s rest h.1.0 h.0 u (r.knows.each h.1.0 h.0 rest (respell h.1.0 h.0 bytes (ended r.before ++ rest) r.split h.1.1)) in
      no_end e.0 (ap (λ (x : StateContent). x.phase) e.1);
}

-- At the end the plan has all maps and programs.
kept_is : (s : StateContent) → IsAtEnd s → kept_plan s ≡ plan_at s
kept_is s h = by_last s.last_map s.last_program h.map h.program
  where
    by_last : (m : Option MapContent) (p : Option ProgramContent) → m ≡ None → p ≡ None → kept_plan s ≡ plan_at (record s { last_map = m; last_program = p })
    by_last None None e f = refl
    by_last (Some m) p e f = cc
    by_last None (Some p) e f = cc

at_end : (s : StateContent) → IsGood s → s.phase ≡ AtEnd → IsAtEnd s
at_end s g e = from s.phase e g.reached
  where
    from : (phase : Phase) → phase ≡ AtEnd → Reached phase s → IsAtEnd s
    from AtEnd e r = r
    from phase e r = cc

kept_sound : (bytes rest : List ℕ) (lines : ℕ) (s : StateContent) → IsReading bytes rest lines s → s.phase ≡ AtEnd → IsPlan (kept_plan s)
kept_sound bytes rest lines s r e = subst IsPlan (sym (kept_is s (at_end s r.good e))) (record { sound = r.good.plan.sound; fits = r.good.plan.fits })

-- The whole text is that of the plan.
found : (bytes rest : List ℕ) (lines : ℕ) (s : StateContent) → IsReading bytes rest lines s → rest ≡ [] → s.phase ≡ AtEnd → IsTextOf (kept_plan s) bytes
found bytes rest lines s r none e =
    let plan = r.good.plan in
    subst (λ (q : PlanContent). IsTextOf q bytes) (sym (kept_is s (at_end s r.good e))) (
      s.text_version,
      record {
        sound = plan.sound;
        fits = plan.fits;
        tables = plan.tables;
        spelled = r.split ∙ (ap (λ x. ended r.before ++ x) none ∙ (append-nil (ended r.before) ∙ (r.text ∙ (ap lines_text (ended_lines s e) ∙ plan_text s.text_version (plan_at s)))));
      },
    )

-- A plan with this text is the plan that was read.
only_this : (bytes rest : List ℕ) (lines : ℕ) (s : StateContent) (q : PlanContent) → IsReading bytes rest lines s → IsUnbroken rest → IsTextOf q bytes → kept_plan s ≡ q
only_this bytes rest lines s q r u h =
    let e = leads_end s rest h.0 q u (r.knows.each h.0 q rest (respell h.0 q bytes (ended r.before ++ rest) r.split h.1)) in
    ap kept_plan e.1

-- A text that was read to its end.
pub is_read : (bytes rest : List ℕ) (lines : ℕ) (s : StateContent) → IsReading bytes rest lines s → IsUnbroken rest → rest ≡ [] → s.phase ≡ AtEnd → IsReadPlan bytes (kept_plan s)
is_read bytes rest lines s r u none e = record {
  sound = kept_sound bytes rest lines s r e;
  text = found bytes rest lines s r none e;
  only = λ other h. only_this bytes rest lines s other r u h;
}

-- The step of a line given by its bytes.

pub took : (s t : StateContent) (bytes : List ℕ) (read : PlanLine) (r : Result Bool AllocError) → IsReadLine bytes (Ok read) → IfOk r (λ ok. Takes (step s (line_view read)) ok t) → IfOk r (TakesLine s bytes t)
took s t bytes read (Err e) is h = tt
took s t bytes read (Ok true) is h = record {
  line = line_view read;
  sound = is.taken.0;
  text = is.taken.1;
  steps = h;
  only = λ other sound text. ap (step s) (sym (is.only other sound text)) ∙ h;
}
took s t bytes read (Ok false) is h = record { none = λ other sound text. ap (step s) (sym (is.only other sound text)) ∙ h }

-- The whole text.

-- If the bytes are a plan's text and aren't read, the only error is out of memory.
pub not_as : (bytes : List ℕ) (e : PlanReadError) (q : PlanContent) → IsReadFault bytes e → IsTextOf q bytes → ReadsAs (Err e) q
not_as bytes (error.Line n) q fault h = fault.none (q, h)
not_as bytes error.OutOfMemory q fault h = tt
