-- Records that stay as they are.
use Rattle.std.proofs.Common.{◌≡◌, ℕ, ◌+◌, ◌≤◌, ◌==◌, ◌⊎◌, inr, ◌&&◌, ◌||◌, Bool, true, false, not, cond, List, [], ◌∷◌, ◌++◌, Some, None, drop, length, refl, ap, sym, ◌∙◌, arith, append-nil}
use Rattle.std.specs.List.{list_any, slice_get}
use Rattle.std.proofs.lemmas.Bool.{eqb-true}
use Rattle.std.proofs.lemmas.Bool.Decides.{nat_tests}
use Rattle.btf_records.specs.declared.feature.BtfFeature.TheVariants as feature
use Rattle.btf_records.specs.declared.item.BtfParam.{BtfParam}
use Rattle.btf_records.specs.declared.scalars.Enum.{Enum}
use Rattle.btf_records.specs.declared.types.BtfType.{BtfType}
use Rattle.btf_records.specs.declared.types.BtfType.TheVariants as types
use Rattle.btf_sanitize.specs.Additions.{Added, next_offset}
use Rattle.btf_sanitize.specs.Facts.{Facts}
use Rattle.btf_sanitize.specs.Names.{is_nameless, named_params, param_texts}
use Rattle.btf_sanitize.specs.Stays.{StaysAlone, stays}
use Rattle.std.specs.List.{flat_map}
use Rattle.std.proofs.lemmas.List.{drop_all}
use Rattle.btf_encoding.specs.Records.{count_of, record_bytes}
use Rattle.btf_storage.specs.Growth.{TooMany}
use Rattle.btf_storage.specs.Layout.{RecordList}
use Rattle.btf_records.specs.Fields.{params_of}
use Rattle.btf_records.specs.declared.error.BtfError.{BtfError}
use Rattle.btf_records.specs.declared.error.BtfError.TheVariants.{InvalidTypeInfo}
use Rattle.btf_sanitize.specs.Rewritten.{rewritten}
use Rattle.btf_sanitize.specs.Sanitized.{NextFault}
use Rattle.btf_storage.proofs.Left.{left_none, left_some, past_length}
use Rattle.btf_sanitize.proofs.Passes.{too_many_next}

first_true : (a b : Bool) → (a && b) ≡ true → a ≡ true
first_true true b h = refl
first_true false b h = h

not_one : (a b : Bool) → (a && not b) ≡ true → b ≡ false
not_one true true h = sym h
not_one true false h = refl
not_one false b h = absurd cc

is_not : (n : ℕ) → (n == 1) ≡ false → n ≡ 1 → ⊥
is_not n other is = grind (arith, nat_tests, other, is)

enum_same : (t : Enum) (granted flag : Bool) → t.info.flag ≡ flag → (granted || not flag) ≡ true → cond granted (types.Enum t) (types.Enum (record t { info = record t.info { flag = false } })) ≡ types.Enum t
enum_same t true flag e h = refl
enum_same t false true e h = absurd cc
enum_same t false false e h = ap (λ f. types.Enum (record t { info = record t.info { flag = f } })) (sym e)

any_false : (a b : Bool) → (a || b) ≡ false → b ≡ false
any_false true b h = absurd cc
any_false false b h = h

this_false : (a b : Bool) → (a || b) ≡ false → a ≡ false
this_false true b h = absurd cc
this_false false b h = refl

all_named : (index offset : ℕ) (ps : List BtfParam) → list_any is_nameless ps ≡ false → named_params index offset ps ≡ ps
all_named index offset [] h = refl
all_named index offset (p ∷ ps) h = rw (this_false (is_nameless p) (list_any is_nameless ps) h) (ap (λ l. p ∷ l) (all_named (index + 1) offset ps (any_false (is_nameless p) (list_any is_nameless ps) h)))

no_texts : (index : ℕ) (ps : List BtfParam) → list_any is_nameless ps ≡ false → param_texts index ps ≡ []
no_texts index [] h = refl
no_texts index (p ∷ ps) h = rw (this_false (is_nameless p) (list_any is_nameless ps) h) (no_texts (index + 1) ps (any_false (is_nameless p) (list_any is_nameless ps) h))

pub stays_alone : (known : Facts) (t : BtfType) → stays known t ≡ true → StaysAlone known t
stays_alone known types.Unknown h = record { same = λ a. refl; nothing = λ a. refl; faultless = record { none = λ e f. f } }
stays_alone known (types.Fwd t) h = record { same = λ a. refl; nothing = λ a. refl; faultless = record { none = λ e f. f } }
stays_alone known (types.Const t) h = record { same = λ a. refl; nothing = λ a. refl; faultless = record { none = λ e f. f } }
stays_alone known (types.Volatile t) h = record { same = λ a. refl; nothing = λ a. refl; faultless = record { none = λ e f. f } }
stays_alone known (types.Restrict t) h = record { same = λ a. refl; nothing = λ a. refl; faultless = record { none = λ e f. f } }
stays_alone known (types.Typedef t) h = record { same = λ a. refl; nothing = λ a. refl; faultless = record { none = λ e f. f } }
stays_alone known (types.Int t) h = record { same = λ a. refl; nothing = λ a. refl; faultless = record { none = λ e f. f } }
stays_alone known (types.Array t) h = record { same = λ a. refl; nothing = λ a. refl; faultless = record { none = λ e f. f } }
stays_alone known (types.Struct t) h = record { same = λ a. refl; nothing = λ a. refl; faultless = record { none = λ e f. f } }
stays_alone known (types.Union t) h = record { same = λ a. refl; nothing = λ a. refl; faultless = record { none = λ e f. f } }
stays_alone known (types.Var t) h = record { same = λ a. rw h refl; nothing = λ a. refl; faultless = record { none = λ e f. f } }
stays_alone known (types.Float t) h = record { same = λ a. rw h refl; nothing = λ a. refl; faultless = record { none = λ e f. f } }
stays_alone known (types.DeclTag t) h = record { same = λ a. rw h refl; nothing = λ a. refl; faultless = record { none = λ e f. f } }
stays_alone known (types.TypeTag t) h = record { same = λ a. rw h refl; nothing = λ a. refl; faultless = record { none = λ e f. f } }
stays_alone known (types.Enum64 t) h = record { same = λ a. rw h refl; nothing = λ a. rw h refl; faultless = record { none = λ e f. f } }
stays_alone known (types.Ptr t) h = record { same = λ a. ap (λ n. types.Ptr (record t { name_offset = n })) (sym (eqb-true t.name_offset 0 h)); nothing = λ a. refl; faultless = record { none = λ e f. f } }
stays_alone known (types.Enum t) h = record { same = λ a. enum_same t (known.grants feature.Enum64) t.info.flag refl h; nothing = λ a. refl; faultless = record { none = λ e f. f } }
stays_alone known (types.Func t) h =
    let granted : known.grants feature.Func ≡ true = first_true (known.grants feature.Func) (not (t.vlen == 1)) h in
    let other : (t.vlen == 1) ≡ false = not_one (known.grants feature.Func) (t.vlen == 1) h in
    record {
      same = λ a. rw (granted, other) refl;
      nothing = λ a. refl;
      faultless = record { none = λ e f. is_not t.vlen other f.1 };
    }
stays_alone known (types.FuncProto t) h =
    let granted : known.grants feature.Func ≡ true = first_true (known.grants feature.Func) (not (list_any is_nameless t.params)) h in
    let named : list_any is_nameless t.params ≡ false = not_one (known.grants feature.Func) (list_any is_nameless t.params) h in
    record {
      same = λ a. rw granted (ap (λ ps. types.FuncProto (record t { params = ps })) (all_named 0 (next_offset a) t.params named));
      nothing = λ a. rw granted (ap (λ texts. record a { texts = texts }) (ap (λ l. a.texts ++ l) (no_texts 0 t.params named) ∙ append-nil a.texts));
      faultless = record { none = λ e f. f };
    }
stays_alone known (types.DataSec t) h = absurd cc

-- ---- The search for a parameter without a name

pub nameless_here : (ps : List BtfParam) (i : ℕ) (p : BtfParam) (wanted : Bool) → list_any is_nameless (drop i ps) ≡ wanted → slice_get ps i ≡ Some p → is_nameless p ≡ true → true ≡ wanted
nameless_here ps i p wanted left here is = rw (left_some ps i p here, is) at left

pub named_here : (ps : List BtfParam) (i : ℕ) (p : BtfParam) (wanted : Bool) → list_any is_nameless (drop i ps) ≡ wanted → slice_get ps i ≡ Some p → is_nameless p ≡ false → list_any is_nameless (drop (i + 1) ps) ≡ wanted
named_here ps i p wanted left here is = rw (left_some ps i p here, is) at left

pub none_here : (ps : List BtfParam) (i : ℕ) (wanted : Bool) → list_any is_nameless (drop i ps) ≡ wanted → slice_get ps i ≡ None → list_any is_nameless (drop (i + 1) ps) ≡ wanted
none_here ps i wanted left past = ap (list_any is_nameless) (drop_all (i + 1) ps (omega (arith, past_length ps i past)) ∙ sym (left_none ps i past)) ∙ left

-- A function prototype has as many parameters as its count.
few_params : (t : BtfType) → length (params_of t) ≤ count_of t
few_params types.Unknown = omega arith
few_params (types.Fwd t) = omega arith
few_params (types.Const t) = omega arith
few_params (types.Volatile t) = omega arith
few_params (types.Restrict t) = omega arith
few_params (types.Ptr t) = omega arith
few_params (types.Typedef t) = omega arith
few_params (types.Func t) = omega arith
few_params (types.Int t) = omega arith
few_params (types.Float t) = omega arith
few_params (types.Enum t) = omega arith
few_params (types.Array t) = omega arith
few_params (types.Struct t) = omega arith
few_params (types.Union t) = omega arith
few_params (types.FuncProto t) = omega arith
few_params (types.Var t) = omega arith
few_params (types.DataSec t) = omega arith
few_params (types.DeclTag t) = omega arith
few_params (types.TypeTag t) = omega arith
few_params (types.Enum64 t) = omega arith

pub all_are_named : (t : BtfType) (i : ℕ) (wanted : Bool) → list_any is_nameless (drop i (params_of t)) ≡ wanted → count_of t ≤ i → false ≡ wanted
all_are_named t i wanted left past = sym (ap (list_any is_nameless) (drop_all i (params_of t) (omega (arith, past, few_params t)))) ∙ left

-- ---- A copy that makes the table too large

pub refused_copy : (known : Facts) (done : RecordList) (a : Added) (t : BtfType) (e : BtfError) → rewritten known a t ≡ t → (e ≡ InvalidTypeInfo) × (TooMany (length (flat_map (record_bytes done.order) (done.types ++ t ∷ []))) ⊎ TooMany (length done.types + 1)) → NextFault known done a t e
refused_copy known done a t e same many = inr (inr (many.0, rw same (too_many_next done.order done.types t [] (done.types ++ t ∷ []) refl many.1)))
