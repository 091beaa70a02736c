-- The lines that lead to a state, and the plan of these lines.
use Rattle.std.proofs.Common.{◌≡◌, ℕ, zero, suc, ◌+◌, ◌*◌, ◌/◌, ◌^◌, ◌<◌, ◌≤◌, Bool, true, false, cond, List, [], ◌∷◌, ◌++◌, length, get_or, map, refl, ap, ap₂, sym, ◌∙◌, subst, arith, lit<, Option, None, Some, append_assoc, append-nil}
use Rattle.std.specs.Prelude.{flat_map, ◌==◌, ◌||◌, ◌&&◌, is_none, IfSome}
use Rattle.std.specs.Cmp.Lexicographic.{nat_list_cmp_total, slice_cmp}
use Rattle.std.specs.Int.{w16, w32, from_le_bytes, to_le_bytes}
use Rattle.std.specs.List.{All, AllByRecursion}
use Rattle.std.specs.List.Sorted.{IsStrictlySortedBy}
use Rattle.std.specs.Option.{option_map}
use Rattle.std.specs.Ordering.{is_lt, nat_cmp}
use Rattle.std.specs.declared.cmp.Ordering.{Ordering}
use Rattle.std.specs.declared.cmp.Ordering.TheVariants.{Less, Equal, Greater}
use Rattle.std.proofs.lemmas.Bool.Decides.{nat_tests}
use Rattle.std.proofs.lemmas.Int.{of_z-to_z}
use Rattle.std.proofs.lemmas.List.{map-append}
use Rattle.std.proofs.lemmas.List.Elements.{All-cons, All-drop, All-head, All-nil, All-push, All-tail, All-take}
use Rattle.std.proofs.lemmas.Nat.{le_bytes_2, le_bytes_4}
use Rattle.btf_ext.specs.declared.record.bpf_func_info.{bpf_func_info}
use Rattle.btf_ext.specs.declared.record.bpf_line_info.{bpf_line_info}
use Rattle.btf_records.specs.declared.feature.BtfFeature.{BtfFeature}
use Rattle.btf_sanitize.specs.Answers.{Answers, AreDistinct, features, is_same, feature_number, times}
use Rattle.ebpf_items.specs.Instruction.{bytes_of, slot_of, slots_in, slots_of}
use Rattle.object_file.specs.Version.{IsKnownVersion}
use Rattle.plan_lines.specs.LineReading.{are_words_of}
use Rattle.plan_lines.specs.Lines.{AreWordsOf, End, Feature, Func, Header, Inner, IsName, License, LineContent, Map, Program, Slots, Source, Tables, Types, Version, IsSoundLine, max_32}
use Rattle.plan_lines.specs.Words.{AreBytes, slot_bytes}
use Rattle.plan_lines.specs.declared.line.TextVersion.{TextVersion}
use Rattle.plan_lines.specs.declared.line.TextVersion.TheVariants.{First, Second}
use Rattle.plan_lines.specs.declared.map_words.MapWords.{MapWords}
use Rattle.plan_text.specs.Content.{AreRising, AreTypeBytes, FitsFunc, FitsMap, FitsPlan, FitsProgram, FitsSlot, FitsSource, IsSoundMap, IsSoundPlan, IsSoundProgram, MapContent, PlanContent, ProgramContent, map_names, program_names}
use Rattle.plan_text.specs.Machine.{StateContent, at_program, bare_program, begin_program, finished, follows, func_of, holding, is_asked, last_map_name, map_of, may_hold, plan_at, source_of, start, step, step_end, step_feature, step_func, step_header, step_inner, step_license, step_map, step_program, step_slots, step_source, step_tables, step_types, step_version, with_last, with_source}
use Rattle.plan_text.specs.PlanGrammar.{AreTablesIn}
use Rattle.plan_text.proofs.StepLaws.{features-append, inner_of, line_of_answer, line_of_func, line_of_source, lines_of_map, lines_of_plan, lines_of_program, lines_of_records, tables_of}
use Rattle.plan_text.specs.declared.reading.Phase.{Phase}
use Rattle.plan_text.specs.declared.reading.Phase.TheVariants.{AtHeader, AtLicense, AtVersion, AtFeatures, AtMaps, AtSlots, AtTables, AtFuncs, AtLines, AtEnd}
use Rattle.program_kinds.specs.declared.program_section.ProgramSection.{ProgramSection}

-- The lines that lead to a state.

abbrev asked_lines : StateContent → List LineContent
asked_lines s = Header s.text_version ∷ License s.license ∷ Version s.version ∷ map line_of_answer s.features

abbrev typed_lines : StateContent → List LineContent
typed_lines s = asked_lines s ++ Types s.type_bytes ∷ []

abbrev mapped_lines : StateContent → List LineContent
mapped_lines s = typed_lines s ++ flat_map lines_of_map (with_last s.maps s.last_map)

abbrev begun : Option ProgramContent → List LineContent
begun None = []
begun (Some p) = Program p.name p.section ∷ []

abbrev slotted : Option ProgramContent → List LineContent
slotted None = []
slotted (Some p) = Program p.name p.section ∷ Slots (slot_bytes p.slots) ∷ []

abbrev pub so_far : Phase → StateContent → List LineContent
so_far AtHeader s = []
so_far AtLicense s = Header s.text_version ∷ []
so_far AtVersion s = Header s.text_version ∷ License s.license ∷ []
so_far AtFeatures s = asked_lines s
so_far AtMaps s = mapped_lines s
so_far AtSlots s = mapped_lines s ++ (flat_map (lines_of_program s.text_version) s.programs ++ begun s.last_program)
so_far AtTables s = mapped_lines s ++ (flat_map (lines_of_program s.text_version) s.programs ++ slotted s.last_program)
so_far AtFuncs s = mapped_lines s ++ flat_map (lines_of_program s.text_version) (with_last s.programs s.last_program)
so_far AtLines s = mapped_lines s ++ flat_map (lines_of_program s.text_version) (with_last s.programs s.last_program)
so_far AtEnd s = mapped_lines s ++ (flat_map (lines_of_program s.text_version) (with_last s.programs s.last_program) ++ End ∷ [])

-- The invariant of a state in each phase.

pub record HasNoPrograms (s : StateContent) : Type 0 where
  pub programs : s.programs ≡ []
  pub last : s.last_program ≡ None

pub record HasNoMaps (s : StateContent) : Type 0 where
  pub maps : s.maps ≡ []
  pub last : s.last_map ≡ None
  pub others : HasNoPrograms s

pub record HasNoFeatures (s : StateContent) : Type 0 where
  pub features : s.features ≡ []
  pub others : HasNoMaps s

-- The last program has only its name and kind, or also slots.
abbrev IsBegun : Option ProgramContent → Type 0
IsBegun None = ⊥
IsBegun (Some p) = p ≡ bare_program p.name p.section

abbrev IsSlotted : Option ProgramContent → Type 0
IsSlotted None = ⊥
IsSlotted (Some p) = p ≡ record (bare_program p.name p.section) { slots = p.slots }

-- Without a separate last element the list is empty.
abbrev HasLast : {A : Type 0} → List A → Option A → Type 0
HasLast xs None = xs ≡ []
HasLast xs (Some x) = Unit {0}

pub record IsAtMaps (s : StateContent) : Type 0 where
  pub maps : HasLast s.maps s.last_map
  pub others : HasNoPrograms s

abbrev HasProgram : Option ProgramContent → Type 0
HasProgram None = ⊥
HasProgram (Some p) = Unit {0}

abbrev HasNoLines : Option ProgramContent → Type 0
HasNoLines None = ⊥
HasNoLines (Some p) = p.line_records ≡ []

pub record IsAtTables (s : StateContent) : Type 0 where
  pub last : IsSlotted s.last_program
  pub second : s.text_version ≡ Second

pub record IsAtEnd (s : StateContent) : Type 0 where
  pub map : s.last_map ≡ None
  pub program : s.last_program ≡ None

abbrev pub Reached : Phase → StateContent → Type 0
Reached AtHeader s = HasNoFeatures s
Reached AtLicense s = HasNoFeatures s
Reached AtVersion s = HasNoFeatures s
Reached AtFeatures s = HasNoMaps s
Reached AtMaps s = IsAtMaps s
Reached AtSlots s = IsBegun s.last_program
Reached AtTables s = IsAtTables s
Reached AtFuncs s = HasNoLines s.last_program
Reached AtLines s = HasProgram s.last_program
Reached AtEnd s = IsAtEnd s

-- A plan within the limits of a version of the text.
pub record IsGoodPlan (v : TextVersion) (q : PlanContent) : Type 0 where
  pub sound : IsSoundPlan q
  pub fits : FitsPlan q
  pub tables : AreTablesIn v q

pub record IsGood (s : StateContent) : Type 0 where
  pub plan : IsGoodPlan s.text_version (plan_at s)
  pub reached : Reached s.phase s

-- One more line leads to a state that again satisfies the invariant.
abbrev pub Grows : StateContent → LineContent → StateContent → Type 0
Grows s line t = (so_far t.phase t ≡ so_far s.phase s ++ line ∷ []) × IsGood t

some_is : {A : Type 0} (x y : A) → Some x ≡ Some y → x ≡ y
some_is x y e = cc

guard_some : {A : Type 0} (b : Bool) (r : Option A) (y : A) → cond b r None ≡ Some y → (b ≡ true) × (r ≡ Some y)
guard_some true r y h = (refl, h)
guard_some false r y h = cc

guard_none : {A : Type 0} (b : Bool) (r : Option A) (y : A) → cond b None r ≡ Some y → (b ≡ false) × (r ≡ Some y)
guard_none false r y h = (refl, h)
guard_none true r y h = cc

map_some : {A B : Type 0} (f : A → B) (o : Option A) (y : B) → option_map f o ≡ Some y → (x : A) × (o ≡ Some x) × (f x ≡ y)
map_some f None y h = cc
map_some f (Some x) y h = (x, refl, cc)

-- The invariant of the state after a step.
stepped : (s : StateContent) (line : LineContent) (t u : StateContent) → Some t ≡ Some u → Grows s line t → Grows s line u
stepped s line t u e g = subst (Grows s line) (some_is t u e) g

-- Names.

less_is : (o : Ordering) → is_lt o ≡ true → o ≡ Less
less_is Less h = refl
less_is Equal h = cc
less_is Greater h = cc

-- Each name is below this one.
abbrev AreBelow : List ℕ → List (List ℕ) → Type 0
AreBelow name names = AllByRecursion (λ n. slice_cmp nat_cmp n name ≡ Less) names

below_trans : (a b : List ℕ) (names : List (List ℕ)) → slice_cmp nat_cmp a b ≡ Less → AreBelow a names → AreBelow b names
below_trans a b [] h all = tt
below_trans a b (n ∷ names) h all = (nat_list_cmp_total.trans n a b all.0 h, below_trans a b names h all.1)

rising_push : (names : List (List ℕ)) (name : List ℕ) → AreRising names → AreBelow name names → AreRising (names ++ name ∷ [])
unfolding IsStrictlySortedBy
rising_push [] name r b = (tt, tt)
rising_push (n ∷ names) name r b = (above names r.0, rising_push names name r.1 b.1)
  where
    above : (ns : List (List ℕ)) → AllByRecursion (λ y. slice_cmp nat_cmp n y ≡ Less) ns → AllByRecursion (λ y. slice_cmp nat_cmp n y ≡ Less) (ns ++ name ∷ [])
    above [] all = (b.0, tt)
    above (x ∷ xs) all = (all.0, above xs all.1)

below_push : (names : List (List ℕ)) (m name : List ℕ) → AreBelow name names → slice_cmp nat_cmp m name ≡ Less → AreBelow name (names ++ m ∷ [])
below_push [] m name b h = (h, tt)
below_push (n ∷ names) m name b h = (b.0, below_push names m name b.1 h)

below_last : (names : List (List ℕ)) (last : List ℕ) → AreRising (names ++ last ∷ []) → AreBelow last names
unfolding IsStrictlySortedBy
below_last [] last r = tt
below_last (n ∷ names) last r = (end_of names r.0, below_last names last r.1)
  where
    end_of : (ns : List (List ℕ)) → AllByRecursion (λ y. slice_cmp nat_cmp n y ≡ Less) (ns ++ last ∷ []) → slice_cmp nat_cmp n last ≡ Less
    end_of [] all = all.0
    end_of (x ∷ xs) all = end_of xs all.1

rising_one : (name : List ℕ) → AreRising (name ∷ [])
unfolding IsStrictlySortedBy
rising_one name = (tt, tt)

-- One more name, above the last one.
rising_next : {A : Type 0} (f : A → List ℕ) (xs : List A) (last : Option A) (y : A) → HasLast xs last → AreRising (map f (with_last xs last)) → follows (option_map f last) (f y) ≡ true → AreRising (map f (with_last xs last ++ y ∷ []))
rising_next {A} f xs None y e r h = subst (λ (ys : List A). AreRising (map f (ys ++ y ∷ []))) (sym e) (rising_one (f y))
rising_next f xs (Some x) y e r h =
    let m = map-append f xs (x ∷ []) in
    let r2 : AreRising (map f xs ++ f x ∷ []) = subst AreRising m r in
    let lt : slice_cmp nat_cmp (f x) (f y) ≡ Less = less_is (slice_cmp nat_cmp (f x) (f y)) h in
    let below : AreBelow (f y) (map f xs ++ f x ∷ []) = below_push (map f xs) (f x) (f y) (below_trans (f x) (f y) (map f xs) lt (below_last (map f xs) (f x) r2)) lt in
    subst AreRising (sym (map-append f (xs ++ x ∷ []) (y ∷ []) ∙ ap (λ ns. ns ++ f y ∷ []) m)) (rising_push (map f xs ++ f x ∷ []) (f y) r2 below)

-- The names stay the same where the last element is changed with its name kept.
same_names : {A : Type 0} (f : A → List ℕ) (xs : List A) (x y : A) → f x ≡ f y → map f (xs ++ x ∷ []) ≡ map f (xs ++ y ∷ [])
same_names f [] x y e = ap (λ n. n ∷ []) e
same_names f (z ∷ xs) x y e = ap (λ ns. f z ∷ ns) (same_names f xs x y e)

-- All elements but the last.
all_before : {A : Type 0} (P : A → Type 0) (xs : List A) (x : A) → All P (xs ++ x ∷ []) → All P xs
all_before P [] x h = All-nil P
all_before P (y ∷ xs) x h = All-cons P y xs (All-head P y (xs ++ x ∷ []) h) (all_before P xs x (All-tail P y (xs ++ x ∷ []) h))

the_last : {A : Type 0} (P : A → Type 0) (xs : List A) (x : A) → All P (xs ++ x ∷ []) → P x
the_last P [] x h = All-head P x [] h
the_last P (y ∷ xs) x h = the_last P xs x (All-tail P y (xs ++ x ∷ []) h)

change_last : {A : Type 0} (P : A → Type 0) (xs : List A) (x y : A) → All P (xs ++ x ∷ []) → P y → All P (xs ++ y ∷ [])
change_last P xs x y h p = All-push P xs y (all_before P xs x h) p

flat_map-snoc : {A : Type 0} (f : A → List LineContent) (xs : List A) (x : A) → flat_map f (xs ++ x ∷ []) ≡ flat_map f xs ++ f x
flat_map-snoc f [] x = append-nil (f x)
flat_map-snoc f (y ∷ xs) x = ap (λ ls. f y ++ ls) (flat_map-snoc f xs x) ∙ sym (append_assoc (f y) (flat_map f xs) (f x))

-- The first lines.

no_programs : (s : StateContent) → s.programs ≡ [] → s.last_program ≡ None → with_last s.programs s.last_program ≡ []
no_programs s e f = ap₂ (λ (x : List ProgramContent) (y : Option ProgramContent). with_last x y) e f

no_maps : (s : StateContent) → s.maps ≡ [] → s.last_map ≡ None → with_last s.maps s.last_map ≡ []
no_maps s e f = ap₂ (λ (x : List MapContent) (y : Option MapContent). with_last x y) e f

no_tables : (v : TextVersion) (q : PlanContent) → q.programs ≡ [] → AreTablesIn v q
no_tables First q e = subst (All (λ p. p.tables ≡ None)) (sym e) (All-nil (λ p. p.tables ≡ None))
no_tables Second q e = tt

grows_header : (phase : Phase) (s : StateContent) (v : TextVersion) (t : StateContent) → IsGood (record s { phase = phase }) → step_header phase (record s { phase = phase }) v ≡ Some t → Grows (record s { phase = phase }) (Header v) t
grows_header AtHeader s v t g e =
    stepped (record s { phase = AtHeader }) (Header v) (record s { phase = AtLicense; text_version = v }) t e (
      refl,
      record {
        plan = record { sound = g.plan.sound; fits = g.plan.fits; tables = no_tables v (plan_at s) (no_programs s g.reached.others.others.programs g.reached.others.others.last) };
        reached = record { features = g.reached.features; others = record { maps = g.reached.others.maps; last = g.reached.others.last; others = record { programs = g.reached.others.others.programs; last = g.reached.others.others.last } } };
      },
    )
grows_header phase s v t g e = cc

grows_license : (phase : Phase) (s : StateContent) (bytes : List ℕ) (t : StateContent) → IsGood (record s { phase = phase }) → IsSoundLine (License bytes) → step_license phase (record s { phase = phase }) bytes ≡ Some t → Grows (record s { phase = phase }) (License bytes) t
grows_license AtLicense s bytes t g l e =
    let sound = g.plan.sound in
    let fits = g.plan.fits in
    stepped (record s { phase = AtLicense }) (License bytes) (record s { phase = AtVersion; license = bytes }) t e (
      refl,
      record {
        plan = record {
          sound = record { license = l.1; version = sound.version; features = sound.features; type_bytes = sound.type_bytes; maps = sound.maps; map_names = sound.map_names; programs = sound.programs; program_names = sound.program_names };
          fits = record { license = l.0; version = fits.version; type_bytes = fits.type_bytes; maps = fits.maps; programs = fits.programs };
          tables = no_tables s.text_version (plan_at (record s { license = bytes })) (no_programs s g.reached.others.others.programs g.reached.others.others.last);
        };
        reached = record { features = g.reached.features; others = record { maps = g.reached.others.maps; last = g.reached.others.last; others = record { programs = g.reached.others.others.programs; last = g.reached.others.others.last } } };
      },
    )
grows_license phase s bytes t g l e = cc

known_version : (version : Option ℕ) → IsSoundLine (Version version) → IsKnownVersion version × IfSome version (λ v. v ≤ max_32)
known_version None h = (tt, tt)
known_version (Some v) h = (h.1, h.0)

grows_version : (phase : Phase) (s : StateContent) (version : Option ℕ) (t : StateContent) → IsGood (record s { phase = phase }) → IsSoundLine (Version version) → step_version phase (record s { phase = phase }) version ≡ Some t → Grows (record s { phase = phase }) (Version version) t
grows_version AtVersion s version t g l e =
    let sound = g.plan.sound in
    let fits = g.plan.fits in
    let k = known_version version l in
    stepped (record s { phase = AtVersion }) (Version version) (record s { phase = AtFeatures; version = version }) t e (
      ap (λ (fs : Answers). Header s.text_version ∷ License s.license ∷ Version version ∷ map line_of_answer fs) g.reached.features,
      record {
        plan = record {
          sound = record { license = sound.license; version = k.0; features = sound.features; type_bytes = sound.type_bytes; maps = sound.maps; map_names = sound.map_names; programs = sound.programs; program_names = sound.program_names };
          fits = record { license = fits.license; version = k.1; type_bytes = fits.type_bytes; maps = fits.maps; programs = fits.programs };
          tables = no_tables s.text_version (plan_at (record s { version = version })) (no_programs s g.reached.others.others.programs g.reached.others.others.last);
        };
        reached = record { maps = g.reached.others.maps; last = g.reached.others.last; others = record { programs = g.reached.others.others.programs; last = g.reached.others.others.last } };
      },
    )
grows_version phase s version t g l e = cc

-- Features.

times_none : (f : BtfFeature) (answers : Answers) → is_asked answers f ≡ false → times f (features answers) ≡ 0
times_none f [] h = refl
times_none f (a ∷ answers) h =
    (elim (is_same a.0 f) as (λ t. (t || is_asked answers f) ≡ false → cond t 1 0 + times f (features answers) ≡ 0) [
      | true ↦ λ h. cc
      | false ↦ λ h. omega (arith, times_none f answers h)
    ]) h

times_more : (f g : BtfFeature) (fs : List BtfFeature) → times f (fs ++ g ∷ []) ≡ times f fs + cond (is_same g f) 1 0
times_more f g [] = omega arith
times_more f g (x ∷ fs) = omega (arith, times_more f g fs)

same_place : (f g : BtfFeature) → is_same f g ≡ true → (fs : List BtfFeature) → times g fs ≡ times f fs
same_place f g h [] = refl
same_place f g h (x ∷ fs) =
    let e : feature_number f ≡ feature_number g = grind (arith, nat_tests) in
    ap₂ (λ (a b : ℕ). a + b) (ap (λ (n : ℕ). cond (feature_number x == n) 1 0) (sym e)) (same_place f g h fs)

distinct_with : (f : BtfFeature) (fs : List BtfFeature) → AreDistinct fs → times f fs ≡ 0 → AreDistinct (fs ++ f ∷ [])
distinct_with f fs d z = record {
  once = λ g.
      rw (times_more g f fs) (
      (elim (is_same f g) as (λ t. (t ≡ true → times g fs ≡ times f fs) → times g fs + cond t 1 0 ≤ 1) [
        | true ↦ λ e. let k : times g fs ≡ 0 = e refl ∙ z in omega arith
        | false ↦ λ e. let k : times g fs ≤ 1 = d.once g in omega arith
      ]) (λ h. same_place f g h fs));
}

grows_feature : (phase : Phase) (s : StateContent) (f : BtfFeature) (b : Bool) (t : StateContent) → IsGood (record s { phase = phase }) → step_feature phase (record s { phase = phase }) f b ≡ Some t → Grows (record s { phase = phase }) (Feature f b) t
grows_feature AtFeatures s f b t g e =
    let sound = g.plan.sound in
    let p = guard_none (is_asked s.features f) _ t e in
    let asked = distinct_with f (features s.features) sound.features (times_none f s.features p.0) in
    stepped (record s { phase = AtFeatures }) (Feature f b) (record s { phase = AtFeatures; features = s.features ++ (f, b) ∷ [] }) t p.1 (
      ap (λ ls. Header s.text_version ∷ License s.license ∷ Version s.version ∷ ls) (map-append line_of_answer s.features ((f, b) ∷ [])),
      record {
        plan = record {
          sound = record { license = sound.license; version = sound.version; features = subst AreDistinct (sym (features-append s.features ((f, b) ∷ []))) asked; type_bytes = sound.type_bytes; maps = sound.maps; map_names = sound.map_names; programs = sound.programs; program_names = sound.program_names };
          fits = record { license = g.plan.fits.license; version = g.plan.fits.version; type_bytes = g.plan.fits.type_bytes; maps = g.plan.fits.maps; programs = g.plan.fits.programs };
          tables = no_tables s.text_version (plan_at (record s { features = s.features ++ (f, b) ∷ [] })) (no_programs s g.reached.others.programs g.reached.others.last);
        };
        reached = record { maps = g.reached.maps; last = g.reached.last; others = record { programs = g.reached.others.programs; last = g.reached.others.last } };
      },
    )
grows_feature phase s f b t g e = cc

type_bytes_fit : (type_bytes : Option (List ℕ)) → IsSoundLine (Types type_bytes) → AreTypeBytes type_bytes × IfSome type_bytes AreBytes
type_bytes_fit None h = (tt, tt)
type_bytes_fit (Some bytes) h = (h.1, h.0)

grows_types : (phase : Phase) (s : StateContent) (type_bytes : Option (List ℕ)) (t : StateContent) → IsGood (record s { phase = phase }) → IsSoundLine (Types type_bytes) → step_types phase (record s { phase = phase }) type_bytes ≡ Some t → Grows (record s { phase = phase }) (Types type_bytes) t
grows_types AtFeatures s type_bytes t g l e =
    let sound = g.plan.sound in
    let fits = g.plan.fits in
    let k = type_bytes_fit type_bytes l in
    let lines = asked_lines s ++ Types type_bytes ∷ [] in
    stepped (record s { phase = AtFeatures }) (Types type_bytes) (record s { phase = AtMaps; type_bytes = type_bytes }) t e (
      ap (λ (ms : List MapContent). lines ++ flat_map lines_of_map ms) (no_maps s g.reached.maps g.reached.last) ∙ append-nil lines,
      record {
        plan = record {
          sound = record { license = sound.license; version = sound.version; features = sound.features; type_bytes = k.0; maps = sound.maps; map_names = sound.map_names; programs = sound.programs; program_names = sound.program_names };
          fits = record { license = fits.license; version = fits.version; type_bytes = k.1; maps = fits.maps; programs = fits.programs };
          tables = no_tables s.text_version (plan_at (record s { type_bytes = type_bytes })) (no_programs s g.reached.others.programs g.reached.others.last);
        };
        reached = record { maps = none s.last_map g.reached.maps g.reached.last; others = record { programs = g.reached.others.programs; last = g.reached.others.last } };
      },
    )
  where
    none : (last : Option MapContent) → s.maps ≡ [] → last ≡ None → HasLast s.maps last
    none None e f = e
    none (Some m) e f = tt
grows_types phase s type_bytes t g l e = cc

-- Maps.

-- A plan with other maps.
with_maps : (v : TextVersion) (q : PlanContent) (maps : List MapContent) → IsGoodPlan v q → All IsSoundMap maps → All FitsMap maps → AreRising (map_names maps) → IsGoodPlan v (record q { maps = maps })
with_maps v q maps g sound fits rising = record {
  sound = record { license = g.sound.license; version = g.sound.version; features = g.sound.features; type_bytes = g.sound.type_bytes; maps = sound; map_names = rising; programs = g.sound.programs; program_names = g.sound.program_names };
  fits = record { license = g.fits.license; version = g.fits.version; type_bytes = g.fits.type_bytes; maps = fits; programs = g.fits.programs };
  tables = same v g.tables;
}
  where
    same : (w : TextVersion) → AreTablesIn w q → AreTablesIn w (record q { maps = maps })
    same First h = h
    same Second h = tt

grows_map : (phase : Phase) (s : StateContent) (name : List ℕ) (number : ℕ) (is_btf : Bool) (words : MapWords) (contents : List ℕ) (t : StateContent) → IsGood (record s { phase = phase }) → IsSoundLine (Map name number is_btf words contents) → step_map phase (record s { phase = phase }) (map_of name number is_btf words contents) ≡ Some t → Grows (record s { phase = phase }) (Map name number is_btf words contents) t
grows_map AtMaps s name number is_btf words contents t g l e =
    let m = map_of name number is_btf words contents in
    let maps = with_last s.maps s.last_map in
    let p = guard_some (follows (last_map_name s) name) _ t e in
    let sound : IsSoundMap m = record { number = omega (arith, l.1); words = l.3; inner = tt } in
    let fits : FitsMap m = record { name = l.0; words = l.2; inner = tt; contents = l.4 } in
    stepped (record s { phase = AtMaps }) (Map name number is_btf words contents) (record s { phase = AtMaps; maps = maps; last_map = Some m }) t p.1 (
      ap (λ ls. typed_lines s ++ ls) (flat_map-snoc lines_of_map maps m) ∙ sym (append_assoc (typed_lines s) (flat_map lines_of_map maps) (Map name number is_btf words contents ∷ [])),
      record {
        plan = with_maps s.text_version (plan_at s) (maps ++ m ∷ []) g.plan (All-push IsSoundMap maps m g.plan.sound.maps sound) (All-push FitsMap maps m g.plan.fits.maps fits)
            (rising_next (λ x. x.name) s.maps s.last_map m g.reached.maps g.plan.sound.map_names p.0);
        reached = record { maps = tt; others = record { programs = g.reached.others.programs; last = g.reached.others.last } };
      },
    )
grows_map phase s name number is_btf words contents t g l e = cc

both_true : (a b : Bool) → (a && b) ≡ true → (a ≡ true) × (b ≡ true)
both_true true true h = (refl, refl)
both_true true false h = cc
both_true false b h = cc

none_is : {A : Type 0} (o : Option A) → is_none o ≡ true → o ≡ None
none_is None h = refl
none_is (Some x) h = cc

zero_is : (n : ℕ) → (n == 0) ≡ true → n ≡ 0
zero_is n h = grind (arith, nat_tests)

words_of_is : (is_btf : Bool) (words : MapWords) → are_words_of is_btf words ≡ true → AreWordsOf is_btf words
words_of_is true words h = zero_is words.id h
words_of_is false words h =
    let p = both_true ((words.map_extra == 0) && (words.btf_key_type_id == 0)) (words.btf_value_type_id == 0) h in
    let q = both_true (words.map_extra == 0) (words.btf_key_type_id == 0) p.0 in
    (zero_is words.map_extra q.0, zero_is words.btf_key_type_id q.1, zero_is words.btf_value_type_id p.1)

grows_inner : (phase : Phase) (s : StateContent) (last : Option MapContent) (words : MapWords) (t : StateContent) → IsGood (record s { phase = phase; last_map = last }) → IsSoundLine (Inner words) → step_inner phase (record s { phase = phase; last_map = last }) words ≡ Some t → Grows (record s { phase = phase; last_map = last }) (Inner words) t
grows_inner AtMaps s None words t g l e = cc
grows_inner AtMaps s (Some m) words t g l e =
    let p = map_some (λ (x : MapContent). record s { phase = AtMaps; last_map = Some x }) (holding m words) t e in
    let q = guard_some (may_hold m words) (Some (record m { inner = Some words })) p.0 p.1 in
    let r = both_true (is_none m.inner) (are_words_of m.is_btf words) q.0 in
    let none = none_is m.inner r.0 in
    let n : MapContent = record m { inner = Some words } in
    let old = the_last IsSoundMap s.maps m g.plan.sound.maps in
    let fitted = the_last FitsMap s.maps m g.plan.fits.maps in
    let sound : IsSoundMap n = record { number = old.number; words = old.words; inner = words_of_is m.is_btf words r.1 } in
    let fits : FitsMap n = record { name = fitted.name; words = fitted.words; inner = l; contents = fitted.contents } in
    let head = Map m.name m.number m.is_btf m.words m.contents in
    let here = record s { phase = AtMaps; last_map = Some m } in
    let there = record s { phase = AtMaps; last_map = Some n } in
    let before = typed_lines s ++ flat_map lines_of_map s.maps in
    let lines : mapped_lines there ≡ mapped_lines here ++ Inner words ∷ [] =
    ap (λ ls. typed_lines s ++ ls) (flat_map-snoc lines_of_map s.maps n)
    ∙ (ap (λ ls. typed_lines s ++ (flat_map lines_of_map s.maps ++ ((head ∷ ls) ++ Inner words ∷ []))) (sym (ap inner_of none))
    ∙ (regroup (typed_lines s) (flat_map lines_of_map s.maps) (lines_of_map m) (Inner words ∷ [])
    ∙ ap (λ ls. (typed_lines s ++ ls) ++ Inner words ∷ []) (sym (flat_map-snoc lines_of_map s.maps m)))) in
    stepped here (Inner words) there t (ap (λ (x : MapContent). Some (record s { phase = AtMaps; last_map = Some x })) (some_is n p.0 q.1) ∙ ap Some p.2) (
      lines,
      record {
        plan = with_maps s.text_version (plan_at here) (s.maps ++ n ∷ []) g.plan (change_last IsSoundMap s.maps m n g.plan.sound.maps sound) (change_last FitsMap s.maps m n g.plan.fits.maps fits)
            (subst AreRising (same_names (λ x. x.name) s.maps m n refl) g.plan.sound.map_names);
        reached = record { maps = tt; others = record { programs = g.reached.others.programs; last = g.reached.others.last } };
      },
    )
  where
    regroup : (a b c d : List LineContent) → a ++ (b ++ (c ++ d)) ≡ (a ++ (b ++ c)) ++ d
    regroup a b c d = simp append_assoc
grows_inner phase s last words t g l e = cc

-- Programs.

-- A plan with other programs.
with_programs : (v : TextVersion) (q : PlanContent) (programs : List ProgramContent) → IsGoodPlan v q → All IsSoundProgram programs → All FitsProgram programs → AreRising (program_names programs) → AreTablesIn v (record q { programs = programs }) → IsGoodPlan v (record q { programs = programs })
with_programs v q programs g sound fits rising tables = record {
  sound = record { license = g.sound.license; version = g.sound.version; features = g.sound.features; type_bytes = g.sound.type_bytes; maps = g.sound.maps; map_names = g.sound.map_names; programs = sound; program_names = rising };
  fits = record { license = g.fits.license; version = g.fits.version; type_bytes = g.fits.type_bytes; maps = g.fits.maps; programs = fits };
  tables = tables;
}

tables_push : (v : TextVersion) (q : PlanContent) (p : ProgramContent) → AreTablesIn v q → p.tables ≡ None → AreTablesIn v (record q { programs = q.programs ++ p ∷ [] })
tables_push First q p h e = All-push (λ x. x.tables ≡ None) q.programs p h e
tables_push Second q p h e = tt

bare_fits : (name : List ℕ) (section : ProgramSection) → IsName name → FitsProgram (bare_program name section)
bare_fits name section h = record {
  name = h;
  slots = All-nil FitsSlot;
  func_records = All-nil FitsFunc;
  line_records = All-nil FitsSource;
}

-- A program begins after others.
begins_after : (phase : Phase) (s : StateContent) (name : List ℕ) (section : ProgramSection) (t : StateContent) → IsGoodPlan s.text_version (plan_at s) → HasLast s.programs s.last_program → IsName name → begin_program (record s { phase = phase }) (bare_program name section) ≡ Some t → so_far phase (record s { phase = phase }) ≡ mapped_lines s ++ flat_map (lines_of_program s.text_version) (with_last s.programs s.last_program) → Grows (record s { phase = phase }) (Program name section) t
begins_after phase s name section t g h l e lines =
    let p = bare_program name section in
    let all = with_last s.programs s.last_program in
    let f = flat_map (lines_of_program s.text_version) all in
    let c = guard_some (follows (option_map (λ x. x.name) s.last_program) name) _ t e in
    stepped (record s { phase = phase }) (Program name section) (record s { phase = AtSlots; programs = all; last_program = Some p }) t c.1 (
      sym (append_assoc (mapped_lines s) f (Program name section ∷ [])) ∙ ap (λ ls. ls ++ Program name section ∷ []) (sym lines),
      record {
        plan = with_programs s.text_version (plan_at s) (all ++ p ∷ []) g (All-push IsSoundProgram all p g.sound.programs (record { tables = tt })) (All-push FitsProgram all p g.fits.programs (bare_fits name section l))
            (rising_next (λ x. x.name) s.programs s.last_program p h g.sound.program_names c.0) (tables_push s.text_version (plan_at s) p g.tables refl);
        reached = refl;
      },
    )

has_last : (programs : List ProgramContent) (last : Option ProgramContent) → programs ≡ [] → HasLast programs last
has_last programs None e = e
has_last programs (Some p) e = tt

no_lines_last : (programs : List ProgramContent) (last : Option ProgramContent) → HasNoLines last → HasLast programs last
no_lines_last programs None h = absurd h
no_lines_last programs (Some p) h = tt

program_last : (programs : List ProgramContent) (last : Option ProgramContent) → HasProgram last → HasLast programs last
program_last programs None h = absurd h
program_last programs (Some p) h = tt

grows_program : (phase : Phase) (s : StateContent) (name : List ℕ) (section : ProgramSection) (t : StateContent) → IsGood (record s { phase = phase }) → IsName name → step_program phase (record s { phase = phase }) (bare_program name section) ≡ Some t → Grows (record s { phase = phase }) (Program name section) t
grows_program AtMaps s name section t g l e =
    begins_after AtMaps s name section t g.plan (has_last s.programs s.last_program g.reached.others.programs) l e
    (sym (ap (λ (ps : List ProgramContent). mapped_lines s ++ flat_map (lines_of_program s.text_version) ps) (no_programs s g.reached.others.programs g.reached.others.last) ∙ append-nil (mapped_lines s)))
grows_program AtFuncs s name section t g l e = begins_after AtFuncs s name section t g.plan (no_lines_last s.programs s.last_program g.reached) l e refl
grows_program AtLines s name section t g l e = begins_after AtLines s name section t g.plan (program_last s.programs s.last_program g.reached) l e refl
grows_program phase s name section t g l e = cc

-- The bytes of slots.

fits_two : (a b : ℕ) → a < 256 → b < 256 → (i : ℕ) → get_or (a ∷ b ∷ []) i 0 < 256
fits_two a b h k zero = h
fits_two a b h k (suc zero) = k
fits_two a b h k (suc (suc i)) = lit< tt

fits_four : (a b c d : ℕ) → a < 256 → b < 256 → c < 256 → d < 256 → (i : ℕ) → get_or (a ∷ b ∷ c ∷ d ∷ []) i 0 < 256
fits_four a b c d h k l m zero = h
fits_four a b c d h k l m (suc zero) = k
fits_four a b c d h k l m (suc (suc i)) = fits_two c d l m i

-- Eight bytes, read as a slot and written again.
eight_again : (a b c d e f g h : ℕ) → AreBytes (a ∷ b ∷ c ∷ d ∷ e ∷ f ∷ g ∷ h ∷ []) → bytes_of (slot_of (a ∷ b ∷ c ∷ d ∷ e ∷ f ∷ g ∷ h ∷ [])) ≡ a ∷ b ∷ c ∷ d ∷ e ∷ f ∷ g ∷ h ∷ []
eight_again a b c d e f g h fits =
    let c_fits : c < 256 = fits 2 0 (lit< tt) in
    let d_fits : d < 256 = fits 3 0 (lit< tt) in
    let e_fits : e < 256 = fits 4 0 (lit< tt) in
    let f_fits : f < 256 = fits 5 0 (lit< tt) in
    let g_fits : g < 256 = fits 6 0 (lit< tt) in
    let h_fits : h < 256 = fits 7 0 (lit< tt) in
    let off_fits : from_le_bytes w16 (c ∷ d ∷ []) < 2 ^ 16 = omega arith in
    let imm_fits : from_le_bytes w32 (e ∷ f ∷ g ∷ h ∷ []) < 2 ^ 32 = omega arith in
    let off = ap (to_le_bytes w16) (of_z-to_z w16 (from_le_bytes w16 (c ∷ d ∷ [])) off_fits) ∙ le_bytes_2 (c ∷ d ∷ []) (from_le_bytes w16 (c ∷ d ∷ [])) refl (fits_two c d c_fits d_fits) refl in
    let imm = ap (to_le_bytes w32) (of_z-to_z w32 (from_le_bytes w32 (e ∷ f ∷ g ∷ h ∷ [])) imm_fits) ∙ le_bytes_4 (e ∷ f ∷ g ∷ h ∷ []) (from_le_bytes w32 (e ∷ f ∷ g ∷ h ∷ [])) refl (fits_four e f g h e_fits f_fits g_fits h_fits) refl in
    ap (λ o. a ∷ b ∷ o) (ap₂ (λ x y. x ++ y) off imm)

-- The bytes are those of their slots, and each slot is encoded by its bytes.
pub record AreSlotsOf (n : ℕ) (bytes : List ℕ) : Type 0 where
  pub bytes_are : slot_bytes (slots_in bytes n) ≡ bytes
  pub fit : All FitsSlot (slots_in bytes n)

slots_are : (n : ℕ) (bytes : List ℕ) → AreBytes bytes → length bytes ≡ 8 * n → AreSlotsOf n bytes
slots_are zero [] fits h = record { bytes_are = refl; fit = All-nil FitsSlot }
slots_are zero (b ∷ bytes) fits h = absurd (omega arith)
slots_are (suc n) (a ∷ b ∷ c ∷ d ∷ e ∷ f ∷ g ∷ i ∷ rest) fits h =
    let eight = a ∷ b ∷ c ∷ d ∷ e ∷ f ∷ g ∷ i ∷ [] in
    let first : AreBytes eight = All-take (λ x. x < 256) 8 (a ∷ b ∷ c ∷ d ∷ e ∷ f ∷ g ∷ i ∷ rest) fits in
    let others : AreBytes rest = All-drop (λ x. x < 256) 8 (a ∷ b ∷ c ∷ d ∷ e ∷ f ∷ g ∷ i ∷ rest) fits in
    let r = slots_are n rest others (omega arith) in
    let again = eight_again a b c d e f g i first in
    record {
      bytes_are = ap₂ (λ x y. x ++ y) again r.bytes_are;
      fit = All-cons FitsSlot (slot_of eight) (slots_in rest n) (record { bytes = subst AreBytes (sym again) first; again = ap slot_of again }) r.fit;
    }
slots_are (suc n) [] fits h = absurd (omega arith)
slots_are (suc n) (a ∷ []) fits h = absurd (omega arith)
slots_are (suc n) (a ∷ b ∷ []) fits h = absurd (omega arith)
slots_are (suc n) (a ∷ b ∷ c ∷ []) fits h = absurd (omega arith)
slots_are (suc n) (a ∷ b ∷ c ∷ d ∷ []) fits h = absurd (omega arith)
slots_are (suc n) (a ∷ b ∷ c ∷ d ∷ e ∷ []) fits h = absurd (omega arith)
slots_are (suc n) (a ∷ b ∷ c ∷ d ∷ e ∷ f ∷ []) fits h = absurd (omega arith)
slots_are (suc n) (a ∷ b ∷ c ∷ d ∷ e ∷ f ∷ g ∷ []) fits h = absurd (omega arith)

slots_of_are : (bytes : List ℕ) → IsSoundLine (Slots bytes) → AreSlotsOf (length bytes / 8) bytes
slots_of_are bytes l = slots_are (length bytes / 8) bytes l.0 (omega (arith, l.1))

-- The lines of a program.

-- A plan whose last program is changed, with its name kept.
with_last_program : (v : TextVersion) (s : StateContent) (p n : ProgramContent) → IsGoodPlan v (plan_at (record s { last_program = Some p })) → p.name ≡ n.name → IsSoundProgram n → FitsProgram n → (v ≡ First → n.tables ≡ None) → IsGoodPlan v (plan_at (record s { last_program = Some n }))
with_last_program v s p n g e sound fits none =
    with_programs v (plan_at (record s { last_program = Some p })) (s.programs ++ n ∷ []) g (change_last IsSoundProgram s.programs p n g.sound.programs sound) (change_last FitsProgram s.programs p n g.fits.programs fits)
    (subst AreRising (same_names (λ x. x.name) s.programs p n e) g.sound.program_names) (tables v g.tables none)
  where
    tables : (w : TextVersion) → AreTablesIn w (plan_at (record s { last_program = Some p })) → (w ≡ First → n.tables ≡ None) → AreTablesIn w (record (plan_at (record s { last_program = Some p })) { programs = s.programs ++ n ∷ [] })
    tables First h none = change_last (λ x. x.tables ≡ None) s.programs p n h (none refl)
    tables Second h none = tt

-- In a text of the first version the last program has no tables.
no_tables_last : (v : TextVersion) (s : StateContent) (p : ProgramContent) → AreTablesIn v (plan_at (record s { last_program = Some p })) → v ≡ First → p.tables ≡ None
no_tables_last First s p h e = the_last (λ x. x.tables ≡ None) s.programs p h
no_tables_last Second s p h e = cc

regroup_four : (a b c d : List LineContent) → a ++ (b ++ (c ++ d)) ≡ (a ++ (b ++ c)) ++ d
regroup_four a b c d = simp append_assoc

-- The lines of the last program.
last_lines : (s : StateContent) (p : ProgramContent) → mapped_lines s ++ flat_map (lines_of_program s.text_version) (s.programs ++ p ∷ []) ≡ mapped_lines s ++ (flat_map (lines_of_program s.text_version) s.programs ++ lines_of_program s.text_version p)
last_lines s p = ap (λ ls. mapped_lines s ++ ls) (flat_map-snoc (lines_of_program s.text_version) s.programs p)

-- One more line of a program.
last_grows : (s : StateContent) (p : ProgramContent) (front : List LineContent) (line : LineContent) → lines_of_program s.text_version p ≡ front ++ line ∷ [] → mapped_lines s ++ flat_map (lines_of_program s.text_version) (s.programs ++ p ∷ []) ≡ (mapped_lines s ++ (flat_map (lines_of_program s.text_version) s.programs ++ front)) ++ line ∷ []
last_grows s p front line e =
    last_lines s p
    ∙ (ap (λ ls. mapped_lines s ++ (flat_map (lines_of_program s.text_version) s.programs ++ ls)) e
    ∙ regroup_four (mapped_lines s) (flat_map (lines_of_program s.text_version) s.programs) front (line ∷ []))

grows_slots : (phase : Phase) (v : TextVersion) (s : StateContent) (last : Option ProgramContent) (bytes : List ℕ) (t : StateContent) → IsGood (record s { phase = phase; text_version = v; last_program = last }) → IsSoundLine (Slots bytes) → step_slots phase (record s { phase = phase; text_version = v; last_program = last }) bytes ≡ Some t → Grows (record s { phase = phase; text_version = v; last_program = last }) (Slots bytes) t
grows_slots AtSlots v s None bytes t g l e = cc
grows_slots AtSlots First s (Some p) bytes t g l e =
    let are = slots_of_are bytes l in
    let n : ProgramContent = record p { slots = slots_of bytes } in
    let here = record s { phase = AtSlots; text_version = First; last_program = Some p } in
    let there = record s { phase = AtFuncs; text_version = First; last_program = Some n } in
    let bare : n ≡ record (bare_program p.name p.section) { slots = slots_of bytes } = ap (λ (x : ProgramContent). record x { slots = slots_of bytes }) g.reached in
    let lines : lines_of_program First n ≡ (Program p.name p.section ∷ []) ++ Slots bytes ∷ [] =
    ap (lines_of_program First) bare ∙ ap (λ b. Program p.name p.section ∷ Slots b ∷ []) are.bytes_are in
    let old = the_last FitsProgram s.programs p g.plan.fits.programs in
    stepped here (Slots bytes) there t e (
      last_grows there n (Program p.name p.section ∷ []) (Slots bytes) lines,
      record {
        plan = with_last_program First here p n g.plan refl (record { tables = (the_last IsSoundProgram s.programs p g.plan.sound.programs).tables }) (record { name = old.name; slots = are.fit; func_records = old.func_records; line_records = old.line_records }) (no_tables_last First here p g.plan.tables);
        reached = ap (λ (x : ProgramContent). x.line_records) g.reached;
      },
    )
grows_slots AtSlots Second s (Some p) bytes t g l e =
    let are = slots_of_are bytes l in
    let n : ProgramContent = record p { slots = slots_of bytes } in
    let here = record s { phase = AtSlots; text_version = Second; last_program = Some p } in
    let there = record s { phase = AtTables; text_version = Second; last_program = Some n } in
    let front = flat_map (lines_of_program Second) s.programs in
    let old = the_last FitsProgram s.programs p g.plan.fits.programs in
    stepped here (Slots bytes) there t e (
      ap (λ b. mapped_lines there ++ (front ++ Program p.name p.section ∷ Slots b ∷ [])) are.bytes_are ∙ regroup_four (mapped_lines there) front (Program p.name p.section ∷ []) (Slots bytes ∷ []),
      record {
        plan = with_last_program Second here p n g.plan refl (record { tables = (the_last IsSoundProgram s.programs p g.plan.sound.programs).tables }) (record { name = old.name; slots = are.fit; func_records = old.func_records; line_records = old.line_records }) (no_tables_last Second here p g.plan.tables);
        reached = record { last = ap (λ (x : ProgramContent). record x { slots = slots_of bytes }) g.reached; second = refl };
      },
    )
grows_slots phase v s last bytes t g l e = cc

not_first : (v : TextVersion) → v ≡ Second → v ≡ First → ⊥
not_first v e f = let k : Second ≡ First = sym e ∙ f in cc

grows_tables : (phase : Phase) (s : StateContent) (last : Option ProgramContent) (tables : Option (List ℕ)) (t : StateContent) → IsGood (record s { phase = phase; last_program = last }) → IsSoundLine (Tables tables) → step_tables phase (record s { phase = phase; last_program = last }) tables ≡ Some t → Grows (record s { phase = phase; last_program = last }) (Tables tables) t
grows_tables AtTables s None tables t g l e = cc
grows_tables AtTables s (Some p) tables t g l e =
    let n : ProgramContent = record p { tables = tables } in
    let here = record s { phase = AtTables; last_program = Some p } in
    let there = record s { phase = AtFuncs; last_program = Some n } in
    let bare : n ≡ record (bare_program p.name p.section) { slots = p.slots; tables = tables } = ap (λ (x : ProgramContent). record x { tables = tables }) g.reached.last in
    let lines : lines_of_program s.text_version n ≡ (Program p.name p.section ∷ Slots (slot_bytes p.slots) ∷ []) ++ Tables tables ∷ [] =
    ap (λ (w : TextVersion). lines_of_program w n) g.reached.second ∙ ap (lines_of_program Second) bare in
    let old = the_last FitsProgram s.programs p g.plan.fits.programs in
    stepped here (Tables tables) there t e (
      last_grows there n (Program p.name p.section ∷ Slots (slot_bytes p.slots) ∷ []) (Tables tables) lines,
      record {
        plan = with_last_program s.text_version here p n g.plan refl (record { tables = l }) (record { name = old.name; slots = old.slots; func_records = old.func_records; line_records = old.line_records }) (λ f. absurd (not_first s.text_version g.reached.second f));
        reached = ap (λ (x : ProgramContent). x.line_records) g.reached.last;
      },
    )
grows_tables phase s last tables t g l e = cc

grows_func : (phase : Phase) (s : StateContent) (last : Option ProgramContent) (r : bpf_func_info) (t : StateContent) → IsGood (record s { phase = phase; last_program = last }) → FitsFunc r → step_func phase (record s { phase = phase; last_program = last }) r ≡ Some t → Grows (record s { phase = phase; last_program = last }) (line_of_func r) t
grows_func AtFuncs s None r t g l e = cc
grows_func AtFuncs s (Some p) r t g l e =
    let here = record s { phase = AtFuncs; last_program = Some p } in
    let n : ProgramContent = record p { func_records = p.func_records ++ r ∷ [] } in
    let there = record s { phase = AtFuncs; last_program = Some n } in
    let front = Program p.name p.section ∷ Slots (slot_bytes p.slots) ∷ [] in
    let tables = tables_of s.text_version p.tables in
    let records : map line_of_func (p.func_records ++ r ∷ []) ++ map line_of_source p.line_records ≡ (map line_of_func p.func_records ++ map line_of_source p.line_records) ++ line_of_func r ∷ [] =
    ap (λ ls. ls ++ map line_of_source p.line_records) (map-append line_of_func p.func_records (r ∷ [])) ∙ swapped (map line_of_func p.func_records) (line_of_func r) p.line_records g.reached in
    let lines : lines_of_program s.text_version n ≡ lines_of_program s.text_version p ++ line_of_func r ∷ [] =
    ap (λ ls. Program p.name p.section ∷ Slots (slot_bytes p.slots) ∷ (tables ++ ls)) records
    ∙ ap (λ ls. Program p.name p.section ∷ Slots (slot_bytes p.slots) ∷ ls) (sym (append_assoc tables (lines_of_records p) (line_of_func r ∷ []))) in
    let old = the_last FitsProgram s.programs p g.plan.fits.programs in
    stepped here (line_of_func r) there t e (
      last_grows there n (lines_of_program s.text_version p) (line_of_func r) lines ∙ ap (λ ls. ls ++ line_of_func r ∷ []) (sym (last_lines there p)),
      record {
        plan = with_last_program s.text_version here p n g.plan refl (record { tables = (the_last IsSoundProgram s.programs p g.plan.sound.programs).tables }) (record { name = old.name; slots = old.slots; func_records = All-push FitsFunc p.func_records r old.func_records l; line_records = old.line_records }) (no_tables_last s.text_version here p g.plan.tables);
        reached = g.reached;
      },
    )
  where
    swapped : (a : List LineContent) (b : LineContent) (sources : List bpf_line_info) → sources ≡ [] → (a ++ b ∷ []) ++ map line_of_source sources ≡ (a ++ map line_of_source sources) ++ b ∷ []
    swapped a b [] h = append-nil (a ++ b ∷ []) ∙ ap (λ ls. ls ++ b ∷ []) (sym (append-nil a))
    swapped a b (x ∷ sources) h = cc
grows_func phase s last r t g l e = cc

-- One more line record.
source_more : (phase : Phase) (s : StateContent) (p : ProgramContent) (r : bpf_line_info) (t : StateContent) → IsGoodPlan s.text_version (plan_at (record s { last_program = Some p })) → FitsSource r → at_program (record s { phase = phase; last_program = Some p }) AtLines (with_source r) ≡ Some t → so_far phase (record s { phase = phase; last_program = Some p }) ≡ mapped_lines s ++ flat_map (lines_of_program s.text_version) (s.programs ++ p ∷ []) → Grows (record s { phase = phase; last_program = Some p }) (line_of_source r) t
source_more phase s p r t g l e so =
    let here = record s { phase = phase; last_program = Some p } in
    let n : ProgramContent = record p { line_records = p.line_records ++ r ∷ [] } in
    let there = record s { phase = AtLines; last_program = Some n } in
    let tables = tables_of s.text_version p.tables in
    let funcs = map line_of_func p.func_records in
    let records : funcs ++ map line_of_source (p.line_records ++ r ∷ []) ≡ lines_of_records p ++ line_of_source r ∷ [] =
    ap (λ ls. funcs ++ ls) (map-append line_of_source p.line_records (r ∷ [])) ∙ sym (append_assoc funcs (map line_of_source p.line_records) (line_of_source r ∷ [])) in
    let lines : lines_of_program s.text_version n ≡ lines_of_program s.text_version p ++ line_of_source r ∷ [] =
    ap (λ ls. Program p.name p.section ∷ Slots (slot_bytes p.slots) ∷ (tables ++ ls)) records
    ∙ ap (λ ls. Program p.name p.section ∷ Slots (slot_bytes p.slots) ∷ ls) (sym (append_assoc tables (lines_of_records p) (line_of_source r ∷ []))) in
    let old = the_last FitsProgram s.programs p g.fits.programs in
    stepped here (line_of_source r) there t e (
      last_grows there n (lines_of_program s.text_version p) (line_of_source r) lines ∙ ap (λ ls. ls ++ line_of_source r ∷ []) (sym (last_lines there p) ∙ sym so),
      record {
        plan = with_last_program s.text_version here p n g refl (record { tables = (the_last IsSoundProgram s.programs p g.sound.programs).tables }) (record { name = old.name; slots = old.slots; func_records = old.func_records; line_records = All-push FitsSource p.line_records r old.line_records l }) (no_tables_last s.text_version here p g.tables);
        reached = tt;
      },
    )

grows_source : (phase : Phase) (s : StateContent) (last : Option ProgramContent) (r : bpf_line_info) (t : StateContent) → IsGood (record s { phase = phase; last_program = last }) → FitsSource r → step_source phase (record s { phase = phase; last_program = last }) r ≡ Some t → Grows (record s { phase = phase; last_program = last }) (line_of_source r) t
grows_source AtFuncs s None r t g l e = cc
grows_source AtFuncs s (Some p) r t g l e = source_more AtFuncs s p r t g.plan l e refl
grows_source AtLines s None r t g l e = cc
grows_source AtLines s (Some p) r t g l e = source_more AtLines s p r t g.plan l e refl
grows_source phase s last r t g l e = cc

-- The last line.
ends_after : (phase : Phase) (s : StateContent) (t : StateContent) → IsGoodPlan s.text_version (plan_at s) → Some (finished (record s { phase = phase })) ≡ Some t → so_far phase (record s { phase = phase }) ≡ mapped_lines s ++ flat_map (lines_of_program s.text_version) (with_last s.programs s.last_program) → Grows (record s { phase = phase }) End t
ends_after phase s t g e lines =
    let f = flat_map (lines_of_program s.text_version) (with_last s.programs s.last_program) in
    stepped (record s { phase = phase }) End (finished (record s { phase = phase })) t e
    (sym (append_assoc (mapped_lines s) f (End ∷ [])) ∙ ap (λ ls. ls ++ End ∷ []) (sym lines), record { plan = g; reached = record { map = refl; program = refl } })

grows_end : (phase : Phase) (s : StateContent) (t : StateContent) → IsGood (record s { phase = phase }) → step_end phase (record s { phase = phase }) ≡ Some t → Grows (record s { phase = phase }) End t
grows_end AtMaps s t g e =
    ends_after AtMaps s t g.plan e
    (sym (ap (λ (ps : List ProgramContent). mapped_lines s ++ flat_map (lines_of_program s.text_version) ps) (no_programs s g.reached.others.programs g.reached.others.last) ∙ append-nil (mapped_lines s)))
grows_end AtFuncs s t g e = ends_after AtFuncs s t g.plan e refl
grows_end AtLines s t g e = ends_after AtLines s t g.plan e refl
grows_end phase s t g e = cc

-- A line that is taken is one more of the lines that lead to the state.
pub grows : (s : StateContent) (line : LineContent) (t : StateContent) → IsGood s → IsSoundLine line → step s line ≡ Some t → Grows s line t
grows s (Header v) t g l e = grows_header s.phase s v t g e
grows s (License bytes) t g l e = grows_license s.phase s bytes t g l e
grows s (Version version) t g l e = grows_version s.phase s version t g l e
grows s (Feature f b) t g l e = grows_feature s.phase s f b t g e
grows s (Types type_bytes) t g l e = grows_types s.phase s type_bytes t g l e
grows s (Map name number is_btf words contents) t g l e = grows_map s.phase s name number is_btf words contents t g l e
grows s (Inner words) t g l e = grows_inner s.phase s s.last_map words t g l e
grows s (Program name section) t g l e = grows_program s.phase s name section t g l e
grows s (Slots bytes) t g l e = grows_slots s.phase s.text_version s s.last_program bytes t g l e
grows s (Tables tables) t g l e = grows_tables s.phase s s.last_program tables t g l e
grows s (Func slot id) t g l e = grows_func s.phase s s.last_program (func_of slot id) t g l e
grows s (Source slot file row column) t g l e = grows_source s.phase s s.last_program (source_of slot file row column) t g l e
grows s End t g l e = grows_end s.phase s t g e

distinct_none : AreDistinct []
distinct_none = record { once = λ f. omega arith }

rising_none : AreRising []
unfolding IsStrictlySortedBy
rising_none = tt

pub start_good : IsGood start
start_good = record {
  plan = record {
    sound = record { license = refl; version = tt; features = distinct_none; type_bytes = tt; maps = All-nil IsSoundMap; map_names = rising_none; programs = All-nil IsSoundProgram; program_names = rising_none };
    fits = record { license = All-nil (λ b. b < 256); version = tt; type_bytes = tt; maps = All-nil FitsMap; programs = All-nil FitsProgram };
    tables = tt;
  };
  reached = record { features = refl; others = record { maps = refl; last = refl; others = record { programs = refl; last = refl } } };
}

-- Every state leads to a plan.

-- Lines that complete the lines of a plan.
abbrev pub Completes : StateContent → Type 0
Completes s = (rest : List LineContent) × (so_far s.phase s ++ rest ≡ lines_of_plan s.text_version (plan_at s))

abbrev after_maps : StateContent → List LineContent
after_maps s = flat_map (lines_of_program s.text_version) (with_last s.programs s.last_program) ++ End ∷ []

typed_regroup : (a b c d : List LineContent) (x : LineContent) → ((a ++ x ∷ []) ++ b) ++ (c ++ d) ≡ a ++ x ∷ (b ++ (c ++ d))
typed_regroup a b c d x = simp append_assoc

mapped : (s : StateContent) → mapped_lines s ++ after_maps s ≡ lines_of_plan s.text_version (plan_at s)
mapped s = typed_regroup (asked_lines s) (flat_map lines_of_map (with_last s.maps s.last_map)) (flat_map (lines_of_program s.text_version) (with_last s.programs s.last_program)) (End ∷ []) (Types s.type_bytes)

program_regroup : (m a b c d : List LineContent) → (m ++ (a ++ b)) ++ (c ++ d) ≡ m ++ ((a ++ (b ++ c)) ++ d)
program_regroup m a b c d = simp append_assoc

-- The remaining lines of the last program.
in_program : (s : StateContent) (p : ProgramContent) (front rest : List LineContent) → s.last_program ≡ Some p → lines_of_program s.text_version p ≡ front ++ rest → (mapped_lines s ++ (flat_map (lines_of_program s.text_version) s.programs ++ front)) ++ (rest ++ End ∷ []) ≡ lines_of_plan s.text_version (plan_at s)
in_program s p front rest e lines =
    program_regroup (mapped_lines s) (flat_map (lines_of_program s.text_version) s.programs) front rest (End ∷ [])
    ∙ (ap (λ ls. mapped_lines s ++ ((flat_map (lines_of_program s.text_version) s.programs ++ ls) ++ End ∷ [])) (sym lines)
    ∙ (ap (λ ls. mapped_lines s ++ (ls ++ End ∷ [])) (sym (flat_map-snoc (lines_of_program s.text_version) s.programs p) ∙ ap (λ (o : Option ProgramContent). flat_map (lines_of_program s.text_version) (with_last s.programs o)) (sym e))
    ∙ mapped s))

completes_at : (phase : Phase) (s : StateContent) (last : Option ProgramContent) → IsGood (record s { phase = phase; last_program = last }) → Completes (record s { phase = phase; last_program = last })
completes_at AtHeader s last g = (lines_of_plan s.text_version (plan_at (record s { last_program = last })), refl)
completes_at AtLicense s last g = (_, refl)
completes_at AtVersion s last g = (_, refl)
completes_at AtFeatures s last g = (_, refl)
completes_at AtMaps s last g = (after_maps (record s { last_program = last }), mapped (record s { last_program = last }))
completes_at AtSlots s None g = absurd g.reached
completes_at AtSlots s (Some p) g =
    let here = record s { last_program = Some p } in
    (_, in_program here p (Program p.name p.section ∷ []) (Slots (slot_bytes p.slots) ∷ (tables_of s.text_version p.tables ++ lines_of_records p)) refl refl)
completes_at AtTables s None g = absurd g.reached.last
completes_at AtTables s (Some p) g =
    let here = record s { last_program = Some p } in
    (_, in_program here p (Program p.name p.section ∷ Slots (slot_bytes p.slots) ∷ []) (tables_of s.text_version p.tables ++ lines_of_records p) refl refl)
completes_at AtFuncs s last g = (End ∷ [], append_assoc (mapped_lines (record s { last_program = last })) _ (End ∷ []) ∙ mapped (record s { last_program = last }))
completes_at AtLines s last g = (End ∷ [], append_assoc (mapped_lines (record s { last_program = last })) _ (End ∷ []) ∙ mapped (record s { last_program = last }))
completes_at AtEnd s last g = ([], append-nil (so_far AtEnd (record s { last_program = last })) ∙ mapped (record s { last_program = last }))

pub completes : (s : StateContent) → IsGood s → Completes s
completes s g = completes_at s.phase s s.last_program g

-- The lines that lead to the end are those of the plan.
pub ended_lines : (s : StateContent) → s.phase ≡ AtEnd → so_far s.phase s ≡ lines_of_plan s.text_version (plan_at s)
ended_lines s e = ap (λ x. so_far x s) e ∙ mapped s
