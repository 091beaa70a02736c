-- Functions stay functions where a table is rewritten.
use Rattle.std.proofs.Common.{◌≡◌, ◌≢◌, ℕ, ◌-◌, ◌==◌, Bool, true, false, List, [], ◌∷◌, ◌++◌, map, zero, suc, Some, None, refl, sym, ap, ◌∙◌, subst}
use Rattle.std.proofs.lemmas.List.Folds.{list_any-append}
use Rattle.std.specs.Prelude.{Option, unwrap_or, if◌then◌else◌, flat_map, not, ◌&&◌, ◌||◌, slice_get, is_some}
use Rattle.std.specs.List.{list_any}
use Rattle.std.specs.Option.{option_map_or}
use Rattle.btf_storage.specs.Ids.{record_of_id}
use Rattle.btf_records.specs.declared.feature.BtfFeature.{BtfFeature}
use Rattle.btf_records.specs.declared.feature.BtfFeature.TheVariants as feature
use Rattle.btf_records.specs.declared.functions.Func.{Func}
use Rattle.btf_records.specs.declared.types.BtfType.{BtfType}
use Rattle.btf_records.specs.declared.types.BtfType.TheVariants as types
use Rattle.btf_encoding.specs.Records.{without_fallback}
use Rattle.btf_sanitize.specs.Additions.{Added}
use Rattle.btf_sanitize.specs.Answers.{Answers, answer_to, features, granted, is_same, noted, noted_all}
use Rattle.btf_sanitize.specs.Kept.{Becomes, Keeps}
use Rattle.btf_sanitize.specs.Needs.{AreQuestions, needs_of}
use Rattle.btf_sanitize.specs.Rewritten.{rewritten, rewritten_func}
use Rattle.btf_sanitize.specs.Facts.{Facts}
use Rattle.btf_tables.specs.GrownTables.{TextsStay}
use Rattle.btf_rewrite.specs.Sanitizing.{StepStays, facts_in, ksyms_in, stepped}
use Rattle.btf_tables.specs.Sections.{without_fallbacks}
use Rattle.btf_tables.specs.Tables.{Table, type_by_id}
use Rattle.string_table.specs.Texts.{text_at}
use Rattle.load_plan.specs.NamedFunctions.{is_named_function, names_function_in}
use Rattle.load_plan.specs.RewrittenFunctions.{FunctionsStay, IsFunctionOf, IsRewrittenUnder, NamesSame, is_denied}

-- The type with an id that names a function is a function with a name.
named_text : (table : Table) (id : ℕ) (f : Func) (o : Option (List ℕ)) → type_by_id table id ≡ Some (types.Func f) → text_at table.strings f.name_offset ≡ o → is_some o ≡ true → (name : List ℕ) × IsFunctionOf table id name
named_text table id f (Some name) here text h = (name, record { func = f; here = here; text = text })
named_text table id f None here text h = absurd (cc)

named_type : (table : Table) (id : ℕ) (o : Option BtfType) → type_by_id table id ≡ o → option_map_or (is_named_function table.strings) o false ≡ true → (name : List ℕ) × IsFunctionOf table id name
named_type table id (Some (types.Func f)) here h = named_text table id f (text_at table.strings f.name_offset) here refl h
named_type table id (Some (types.Unknown)) here h = absurd (cc)
named_type table id (Some (types.Fwd t)) here h = absurd (cc)
named_type table id (Some (types.Const t)) here h = absurd (cc)
named_type table id (Some (types.Volatile t)) here h = absurd (cc)
named_type table id (Some (types.Restrict t)) here h = absurd (cc)
named_type table id (Some (types.Ptr t)) here h = absurd (cc)
named_type table id (Some (types.Typedef t)) here h = absurd (cc)
named_type table id (Some (types.Int t)) here h = absurd (cc)
named_type table id (Some (types.Float t)) here h = absurd (cc)
named_type table id (Some (types.Enum t)) here h = absurd (cc)
named_type table id (Some (types.Enum64 t)) here h = absurd (cc)
named_type table id (Some (types.Array t)) here h = absurd (cc)
named_type table id (Some (types.Struct t)) here h = absurd (cc)
named_type table id (Some (types.Union t)) here h = absurd (cc)
named_type table id (Some (types.FuncProto t)) here h = absurd (cc)
named_type table id (Some (types.Var t)) here h = absurd (cc)
named_type table id (Some (types.DataSec t)) here h = absurd (cc)
named_type table id (Some (types.DeclTag t)) here h = absurd (cc)
named_type table id (Some (types.TypeTag t)) here h = absurd (cc)
named_type table id None here h = absurd (cc)

-- The type with an id is a function of the same name.
record IsFuncNamed (ts : List BtfType) (id offset : ℕ) : Type 0 where
  func : Func
  here : record_of_id ts id ≡ Some (types.Func func)
  name : func.name_offset ≡ offset

either_func : (ts : List BtfType) (id : ℕ) (b : Bool) (f g : Func) → record_of_id ts id ≡ Some (if b then types.Func f else types.Func g) → f.name_offset ≡ g.name_offset → IsFuncNamed ts id g.name_offset
either_func ts id true f g h e = record { func = f; here = h; name = e }
either_func ts id false f g h e = record { func = g; here = h; name = refl }

-- The step on externs keeps functions.
step_stays : (ksyms : Option (ℕ × Option ℕ)) (table : Table) (id : ℕ) (f : Func) → StepStays ksyms table → record_of_id table.types id ≡ Some (types.Func f) → IsFuncNamed (stepped ksyms table).types id f.name_offset
step_stays None table id f step h = record { func = f; here = h; name = refl }
step_stays (Some ids) table id f step h = either_func (stepped (Some ids) table).types id _ (record f { vlen = 1 }) f (step.each id (types.Func f) h) refl

-- The rule of functions keeps them where functions are granted.
if_granted : {A : Type 0} (b : Bool) (x y : A) → b ≡ true → (if not b then x else y) ≡ y
if_granted true x y h = refl
if_granted false x y h = absurd (cc)

granted_rule : (known : Facts) (ts : List BtfType) (id : ℕ) (f : Func) (added_before : Added) → record_of_id ts id ≡ Some (rewritten known added_before (types.Func f)) → known.grants feature.Func ≡ true → IsFuncNamed ts id f.name_offset
granted_rule known ts id f added_before here granted = either_func ts id _ (record f { vlen = 0 }) f (here ∙ ap Some (if_granted (known.grants feature.Func) _ _ granted)) refl

rule_stays : (known : Facts) (ts : List BtfType) (id : ℕ) (f : Func) → Keeps known ts → record_of_id known.types id ≡ Some (types.Func f) → known.grants feature.Func ≡ true → IsFuncNamed ts id f.name_offset
rule_stays known ts id f keeps h granted =
    let becomes = keeps.each id (types.Func f) h in granted_rule known ts id f becomes.added_before becomes.here granted

-- A question that was noted stays noted.
abbrev is_func : BtfFeature → Bool
is_func x = is_same x feature.Func

keeps_under : (asked : List BtfFeature) (g : BtfFeature) (b : Bool) → list_any is_func asked ≡ true → list_any is_func (if b then asked else asked ++ g ∷ []) ≡ true
keeps_under asked g true h = h
keeps_under asked g false h = list_any-append is_func asked (g ∷ []) ∙ ap (λ b. b || list_any is_func (g ∷ [])) h

noted_keeps : (asked : List BtfFeature) (g : BtfFeature) → list_any is_func asked ≡ true → list_any is_func (noted asked g) ≡ true
noted_keeps asked g h = keeps_under asked g (list_any (λ x. is_same x g) asked) h

all_keep : (asked fs : List BtfFeature) → list_any is_func asked ≡ true → list_any is_func (noted_all asked fs) ≡ true
all_keep asked [] h = h
all_keep asked (f ∷ fs) h = all_keep (noted asked f) fs (noted_keeps asked f h)

or_true : (b : Bool) → (b || true) ≡ true
or_true true = refl
or_true false = refl

has_under : (asked : List BtfFeature) (b : Bool) → list_any is_func asked ≡ b → list_any is_func (if b then asked else asked ++ feature.Func ∷ []) ≡ true
has_under asked true h = h
has_under asked false h = list_any-append is_func asked (feature.Func ∷ []) ∙ or_true (list_any is_func asked)

noted_has : (asked : List BtfFeature) → list_any is_func (noted asked feature.Func) ≡ true
noted_has asked = has_under asked (list_any is_func asked) refl

noted_then : (asked fs gs : List BtfFeature) → noted_all asked (fs ++ gs) ≡ noted_all (noted_all asked fs) gs
noted_then asked [] gs = refl
noted_then asked (f ∷ fs) gs = noted_then (noted asked f) fs gs

-- The first need of a record is a question.
asked_first : (h : BtfType → List BtfFeature) (asked rest : List BtfFeature) (ts : List BtfType) (i : ℕ) (t : BtfType) → slice_get ts i ≡ Some t → h t ≡ feature.Func ∷ rest → list_any is_func (noted_all asked (flat_map h ts)) ≡ true
asked_first h asked rest [] i t here e = absurd (cc)
asked_first h asked rest (y ∷ ys) zero t here e =
    let same : y ≡ t = cc in
    let needs : h y ≡ feature.Func ∷ rest = ap h same ∙ e in
    ap (λ fs. list_any is_func (noted_all asked (fs ++ flat_map h ys))) needs ∙ all_keep (noted asked feature.Func) (rest ++ flat_map h ys) (noted_has asked)
asked_first h asked rest (y ∷ ys) (suc i) t here e =
    ap (list_any is_func) (noted_then asked (h y) (flat_map h ys)) ∙ asked_first h (noted_all asked (h y)) rest ys i t here e

-- A question that wasn't denied is granted.
not_denied : (b : Bool) → not b ≡ false → b ≡ true
not_denied true h = refl
not_denied false h = absurd (cc)

granted_under : (b v rest : Bool) (o : Option Bool) → (b || rest) ≡ true → option_map_or not (if b then Some v else o) false ≡ false → (rest ≡ true → option_map_or not o false ≡ false → unwrap_or o false ≡ true) → unwrap_or (if b then Some v else o) false ≡ true
granted_under true v rest o any denied later = not_denied v denied
granted_under false v rest o any denied later = later any denied

granted_where : (answers : Answers) → list_any is_func (features answers) ≡ true → is_denied answers ≡ false → granted answers feature.Func ≡ true
granted_where [] any denied = absurd (cc)
granted_where (a ∷ others) any denied = granted_under (is_same a.0 feature.Func) a.1 (list_any is_func (features others)) (answer_to others feature.Func) any denied (granted_where others)

-- Records by id.
placed_under : (b : Bool) (o : Option BtfType) (f : Func) → (if b then Some types.Unknown else o) ≡ Some (types.Func f) → o ≡ Some (types.Func f)
placed_under true o f h = absurd (cc)
placed_under false o f h = h

mapped : (g : BtfType → BtfType) (ts : List BtfType) (i : ℕ) (t : BtfType) → slice_get ts i ≡ Some t → slice_get (map g ts) i ≡ Some (g t)
mapped g [] i t h = absurd (cc)
mapped g (y ∷ ys) zero t h = let same : y ≡ t = cc in ap (λ x. Some (g x)) same
mapped g (y ∷ ys) (suc i) t h = mapped g ys i t h

mapped_under : (b : Bool) (ts : List BtfType) (i : ℕ) (f : Func) → (if b then Some types.Unknown else slice_get ts i) ≡ Some (types.Func f) → (if b then Some types.Unknown else slice_get (map without_fallback ts) i) ≡ Some (types.Func f)
mapped_under true ts i f h = h
mapped_under false ts i f h = mapped without_fallback ts i (types.Func f) h

-- Functions are granted where some type of the table is a function.
granted_at : (strings : List ℕ) (ts : List BtfType) (answers : Answers) (id : ℕ) (f : Func) → AreQuestions strings ts answers → record_of_id ts id ≡ Some (types.Func f) → is_denied answers ≡ false → granted answers feature.Func ≡ true
granted_at strings ts answers id f questions here denied =
    granted_where answers (ap (list_any is_func) questions.asked ∙ asked_first (needs_of (granted answers) strings) [] _ ts (id - 1) (types.Func f) (placed_under (id == 0) (slice_get ts (id - 1)) f here) refl) denied

stays_named : (answers : Answers) (sizes offsets : List ℕ → Option ℕ) (ksyms : Option (ℕ × Option ℕ)) (table new : Table) (id : ℕ) → IsRewrittenUnder answers sizes offsets ksyms table new → is_denied answers ≡ false → names_function_in id table ≡ true → NamesSame table (without_fallbacks new) id
stays_named answers sizes offsets ksyms table new id under denied named =
    let one = named_type table id (type_by_id table id) refl named in
    let stepped_one = step_stays ksyms table id one.1.func under.step one.1.here in
    let is_granted = granted_at (stepped ksyms table).strings (stepped ksyms table).types answers id stepped_one.func under.asked stepped_one.here denied in
    let new_one = rule_stays (facts_in answers sizes offsets (stepped ksyms table)) new.types id stepped_one.func under.keeps stepped_one.here is_granted in
    record {
      name = one.0;
      before = one.1;
      after = record {
        func = new_one.func;
        here = mapped_under (id == 0) new.types (id - 1) new_one.func new_one.here;
        text = ap (text_at new.strings) (new_one.name ∙ stepped_one.name) ∙ under.texts.stay one.1.func.name_offset one.0 one.1.text;
      };
    }

pub functions_stay : FunctionsStay
functions_stay = record { each = stays_named }
