-- The function of each program is inserted with it.
use Rattle.std.proofs.Common.{◌≡◌, ℕ, Bool, true, false, cond, List, [], ◌∷◌, Option, Some, None, Result, Ok, Err, refl, ap}
use Rattle.std.specs.Prelude.{OnOk, fold, is_some, unwrap_or, if◌then◌else◌}
use Rattle.std.specs.BTreeMap.{insert_entry, is_at}
use Rattle.std.proofs.lemmas.Cmp.{nat_cmp_total}
use Rattle.std.specs.Cmp.Lexicographic.{slice_cmp}
use Rattle.std.specs.Map.{lookup}
use Rattle.std.specs.Option.{option_map_or}
use Rattle.std.specs.Ordering.{is_eq, match_ordering, nat_cmp, ordering_reverse}
use Rattle.std.specs.declared.cmp.Ordering.{Ordering}
use Rattle.std.specs.declared.cmp.Ordering.TheVariants.{Less, Equal, Greater}
use Rattle.elf64.specs.Sections.{Section}
use Rattle.elf64.specs.Symbols.{Symbol}
use Rattle.btf_ext.specs.Extensions.{Extension}
use Rattle.object_file.specs.Symbols.{symbols_in}
use Rattle.object_parts.specs.Content.{FunctionContent, HaveFunctions, ProgramContent, has_function, key_cmp}
use Rattle.object_parse.specs.Functions.{with_functions, with_section_programs}
use Rattle.object_parse.specs.Programs.{function_of, is_function, is_program, program_kind, program_of, with_function, with_program, with_program_functions, with_programs}
use Rattle.object_parse.specs.SectionInfos.{SectionInfo, info_of}
use Rattle.object_parse.specs.TextSections.{Place, is_text_section, places_of, text_function_of, with_text_function, with_text_functions}
use Rattle.program_kinds.specs.declared.program_section.ProgramSection.{ProgramSection}

abbrev Keyed : Type 0
Keyed = List ((ℕ × ℕ) × FunctionContent)

abbrev Named : Type 0
Named = List (List ℕ × ProgramContent)

own-order : (o : Ordering) → o ≡ ordering_reverse o → o ≡ Equal
own-order Less h = absurd (cc)
own-order Equal h = refl
own-order Greater h = absurd (cc)

own-number : (n : ℕ) → nat_cmp n n ≡ Equal
own-number n = own-order (nat_cmp n n) (nat_cmp_total.antisymm n n)

own-key : (k : ℕ × ℕ) → key_cmp k k ≡ Equal
own-key k = rw (own-number k.0, own-number k.1) refl

first-found : (eq : Bool) (key : ℕ × ℕ) (f : FunctionContent) (es : Keyed) → eq ≡ true → is_some (cond eq (Some f) (lookup (is_at (key_cmp key)) es)) ≡ true
first-found true key f es h = refl
first-found false key f es h = absurd (cc)

either-found : (eq : Bool) (key : ℕ × ℕ) (f g : FunctionContent) (es fs : Keyed) → is_some (cond eq (Some f) (lookup (is_at (key_cmp key)) es)) ≡ true → (has_function es key ≡ true → has_function fs key ≡ true) → is_some (cond eq (Some g) (lookup (is_at (key_cmp key)) fs)) ≡ true
either-found true key f g es fs had later = refl
either-found false key f g es fs had later = later had

rest-found : (eq : Bool) (key : ℕ × ℕ) (f : FunctionContent) (es : Keyed) → has_function es key ≡ true → is_some (cond eq (Some f) (lookup (is_at (key_cmp key)) es)) ≡ true
rest-found true key f es had = refl
rest-found false key f es had = had

-- An entry is still found after any insertion.
kept-by : (o : Ordering) (key k : ℕ × ℕ) (f : FunctionContent) (e : (ℕ × ℕ) × FunctionContent) (es : Keyed) → has_function (e ∷ es) key ≡ true → (has_function es key ≡ true → has_function (insert_entry key_cmp es k f) key ≡ true) → has_function (match_ordering o ((k, f) ∷ e ∷ es) ((e.0, f) ∷ es) (e ∷ insert_entry key_cmp es k f)) key ≡ true
kept-by Less key k f e es had later = rest-found (is_eq (key_cmp key k)) key f (e ∷ es) had
kept-by Equal key k f e es had later = either-found (is_eq (key_cmp key e.0)) key e.1 f es es had (λ h. h)
kept-by Greater key k f e es had later = either-found (is_eq (key_cmp key e.0)) key e.1 e.1 es (insert_entry key_cmp es k f) had later

kept : (key k : ℕ × ℕ) (f : FunctionContent) (es : Keyed) → has_function es key ≡ true → has_function (insert_entry key_cmp es k f) key ≡ true
kept key k f [] had = absurd (cc)
kept key k f (e ∷ es) had = kept-by (key_cmp k e.0) key k f e es had (kept key k f es)

-- An inserted entry is found.
entered-by : (o : Ordering) (k : ℕ × ℕ) (f : FunctionContent) (e : (ℕ × ℕ) × FunctionContent) (es : Keyed) → key_cmp k e.0 ≡ o → has_function (insert_entry key_cmp es k f) k ≡ true → has_function (match_ordering o ((k, f) ∷ e ∷ es) ((e.0, f) ∷ es) (e ∷ insert_entry key_cmp es k f)) k ≡ true
entered-by Less k f e es is later = first-found (is_eq (key_cmp k k)) k f (e ∷ es) (ap is_eq (own-key k))
entered-by Equal k f e es is later = first-found (is_eq (key_cmp k e.0)) k f es (ap is_eq is)
entered-by Greater k f e es is later = rest-found (is_eq (key_cmp k e.0)) k e.1 (insert_entry key_cmp es k f) later

entered : (k : ℕ × ℕ) (f : FunctionContent) (es : Keyed) → has_function (insert_entry key_cmp es k f) k ≡ true
entered k f [] = first-found (is_eq (key_cmp k k)) k f [] (ap is_eq (own-key k))
entered k f (e ∷ es) = entered-by (key_cmp k e.0) k f e es refl (entered k f es)

-- ---- Programs and their functions

none-needed : (fs : Keyed) → HaveFunctions [] fs
unfolding HaveFunctions
none-needed fs = tt

one-more : (e : List ℕ × ProgramContent) (ps : Named) (fs : Keyed) → has_function fs (e.1.section_index, e.1.address) ≡ true → HaveFunctions ps fs → HaveFunctions (e ∷ ps) fs
unfolding HaveFunctions
one-more e ps fs is have = (is, have)

first-has : (e : List ℕ × ProgramContent) (ps : Named) (fs : Keyed) → HaveFunctions (e ∷ ps) fs → has_function fs (e.1.section_index, e.1.address) ≡ true
unfolding HaveFunctions
first-has e ps fs have = have.0

others-have : (e : List ℕ × ProgramContent) (ps : Named) (fs : Keyed) → HaveFunctions (e ∷ ps) fs → HaveFunctions ps fs
unfolding HaveFunctions
others-have e ps fs have = have.1

function-more : (ps : Named) (fs : Keyed) (k : ℕ × ℕ) (f : FunctionContent) → HaveFunctions ps fs → HaveFunctions ps (insert_entry key_cmp fs k f)
function-more [] fs k f have = none-needed (insert_entry key_cmp fs k f)
function-more (e ∷ ps) fs k f have =
    one-more e ps (insert_entry key_cmp fs k f) (kept (e.1.section_index, e.1.address) k f fs (first-has e ps fs have)) (function-more ps fs k f (others-have e ps fs have))

program-by : (o : Ordering) (name : List ℕ) (p : ProgramContent) (e : List ℕ × ProgramContent) (ps : Named) (fs : Keyed) → has_function fs (p.section_index, p.address) ≡ true → HaveFunctions (e ∷ ps) fs → HaveFunctions (insert_entry (slice_cmp nat_cmp) ps name p) fs → HaveFunctions (match_ordering o ((name, p) ∷ e ∷ ps) ((e.0, p) ∷ ps) (e ∷ insert_entry (slice_cmp nat_cmp) ps name p)) fs
program-by Less name p e ps fs is have later = one-more (name, p) (e ∷ ps) fs is have
program-by Equal name p e ps fs is have later = one-more (e.0, p) ps fs is (others-have e ps fs have)
program-by Greater name p e ps fs is have later = one-more e (insert_entry (slice_cmp nat_cmp) ps name p) fs (first-has e ps fs have) later

program-more : (name : List ℕ) (p : ProgramContent) (ps : Named) (fs : Keyed) → has_function fs (p.section_index, p.address) ≡ true → HaveFunctions ps fs → HaveFunctions (insert_entry (slice_cmp nat_cmp) ps name p) fs
program-more name p [] fs is have = one-more (name, p) [] fs is have
program-more name p (e ∷ ps) fs is have = program-by (slice_cmp nat_cmp name e.0) name p e ps fs is have (program-more name p ps fs is (others-have e ps fs have))

-- ---- Symbols, sections, files

symbol-by : (test : Bool) (name : List ℕ) (p : ProgramContent) (k : ℕ × ℕ) (f : FunctionContent) (ps : Named) (fs : Keyed) → (p.section_index, p.address) ≡ k → HaveFunctions ps fs → HaveFunctions (if test then insert_entry (slice_cmp nat_cmp) ps name p else ps) (if test then insert_entry key_cmp fs k f else fs)
symbol-by true name p k f ps fs is have =
    program-more name p ps (insert_entry key_cmp fs k f) (rw is (entered k f fs)) (function-more ps fs k f have)
symbol-by false name p k f ps fs is have = have

symbols-by : (license : List ℕ) (version : Option ℕ) (info : SectionInfo) (section : Section) (kind : ProgramSection) (ss : List Symbol) (ps : Named) (fs : Keyed) → HaveFunctions ps fs → HaveFunctions (fold (with_program license version section kind) ps ss) (fold (with_function info section) fs ss)
symbols-by license version info section kind [] ps fs have = have
symbols-by license version info section kind (s ∷ ss) ps fs have =
    symbols-by license version info section kind ss (with_program license version section kind ps s) (with_function info section fs s)
    (symbol-by (is_function s) (unwrap_or s.name []) (program_of license version section kind s) (section.index, s.address) (function_of info section s) ps fs refl have)

functions-by : (info : SectionInfo) (section : Section) (ss : List Symbol) (ps : Named) (fs : Keyed) → HaveFunctions ps fs → HaveFunctions ps (fold (with_function info section) fs ss)
functions-by info section [] ps fs have = have
functions-by info section (s ∷ ss) ps fs have = functions-by info section ss ps (with_function info section fs s) (by (is_function s))
  where
    by : (test : Bool) → HaveFunctions ps (if test then insert_entry key_cmp fs (section.index, s.address) (function_of info section s) else fs)
    by true = function-more ps fs (section.index, s.address) (function_of info section s) have
    by false = have

kinds-by : (license : List ℕ) (version : Option ℕ) (info : SectionInfo) (symbols : List Symbol) (section : Section) (kind : Option ProgramSection) (ps : Named) (fs : Keyed) → HaveFunctions ps fs → HaveFunctions (option_map_or (λ k. fold (with_program license version section k) ps (symbols_in symbols section.index)) kind ps) (with_program_functions info symbols fs section)
kinds-by license version info symbols section None ps fs have = functions-by info section (symbols_in symbols section.index) ps fs have
kinds-by license version info symbols section (Some kind) ps fs have = symbols-by license version info section kind (symbols_in symbols section.index) ps fs have

places-by : (info : SectionInfo) (section : Section) (places : List Place) (ps : Named) (fs : Keyed) → HaveFunctions ps fs → HaveFunctions ps (fold (with_text_function info section) fs places)
places-by info section [] ps fs have = have
places-by info section (place ∷ places) ps fs have = places-by info section places ps (with_text_function info section fs place) (by place.symbol)
  where
    by : (symbol : Option Symbol) → HaveFunctions ps (option_map_or (λ s. insert_entry key_cmp fs (section.index, s.address) (text_function_of info section place.offset s)) symbol fs)
    by None = have
    by (Some s) = function-more ps fs (section.index, s.address) (text_function_of info section place.offset s) have

section-by : (license : List ℕ) (version : Option ℕ) (extension : Option Extension) (symbols : List Symbol) (section : Section) (program text : Bool) (ps : Named) (fs : Keyed) → HaveFunctions ps fs → HaveFunctions (if program then with_programs license version symbols ps section else ps) (if program then with_program_functions (info_of extension section) symbols fs section else (if text then with_text_functions (info_of extension section) symbols fs section else fs))
section-by license version extension symbols section true text ps fs have = kinds-by license version (info_of extension section) symbols section (program_kind section) ps fs have
section-by license version extension symbols section false true ps fs have = places-by (info_of extension section) section (places_of symbols section) ps fs have
section-by license version extension symbols section false false ps fs have = have

-- Each program has its function after one more section.
pub complete_after : {T E : Type 0} (r : Result T E) (license : List ℕ) (version : Option ℕ) (extension : Option Extension) (symbols : List Symbol) (section : Section) (ps qs : Named) (fs gs : Keyed) → OnOk r (qs ≡ with_section_programs license version symbols ps section) → OnOk r (gs ≡ with_functions extension symbols fs section) → HaveFunctions ps fs → OnOk r (HaveFunctions qs gs)
complete_after (Ok x) license version extension symbols section ps qs fs gs programs functions have =
    rw (programs, functions) (section-by license version extension symbols section (is_program section) (is_text_section section) ps fs have)
complete_after (Err e) license version extension symbols section ps qs fs gs programs functions have = tt
