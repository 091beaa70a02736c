-- The records of a table rewritten one after the other, and the result.
use Rattle.std.proofs.Common.{◌≡◌, ℕ, suc, ◌+◌, ◌<◌, ◌≤◌, ◌^◌, true, false, cond, List, [], ◌∷◌, ◌++◌, ◌⊎◌, inl, inr, Any, Some, None, is_some, drop, take, length, Result, Ok, Err, refl, ap, sym, ◌∙◌, subst, arith, append_assoc, append-nil, length-append}
use Rattle.std.specs.List.{All, flat_map, slice_get}
use Rattle.std.specs.Result.{IfErr, IsErrAnd}
use Rattle.std.proofs.lemmas.Grind.{flat_map-append}
use Rattle.std.proofs.lemmas.List.{take_all}
use Rattle.std.proofs.lemmas.List.Elements.{All-more}
use Rattle.std.proofs.lemmas.Option.{get_or_from_slice_get, slice_get_within}
use Rattle.btf_encoding.specs.Records.{record_bytes}
use Rattle.btf_storage.specs.Growth.{AreFew, AreTooMany, TooMany}
use Rattle.btf_storage.specs.Layout.{RecordList}
use Rattle.btf_records.specs.declared.error.BtfError.{BtfError}
use Rattle.btf_records.specs.declared.error.BtfError.TheVariants.{InvalidTypeInfo}
use Rattle.btf_records.specs.declared.feature.BtfFeature.TheVariants as feature
use Rattle.btf_records.specs.declared.functions.FuncProto.{FuncProto}
use Rattle.btf_records.specs.declared.types.BtfType.{BtfType}
use Rattle.btf_records.specs.declared.types.BtfType.TheVariants as types
use Rattle.btf_records.specs.declared.variables.DataSec.{DataSec}
use Rattle.btf_records.specs.declared.words.Endianness.{Endianness}
use Rattle.btf_sanitize.specs.Additions.{Added, next_id, next_offset, small_int, static_var, with_filler, with_filler_int, with_filler_var, with_new_placeholder, with_placeholder, with_renamed, with_text, with_texts}
use Rattle.btf_sanitize.specs.Facts.{Facts, name_at}
use Rattle.btf_sanitize.specs.Faults.{IsTooMuch, KindFault}
use Rattle.btf_sanitize.specs.Names.{filler_int_name, filler_name, has_byte, param_texts, placeholder_name, replaced}
use Rattle.btf_sanitize.specs.Rewritten.{after, after_all, after_enum64, after_granted, after_section, after_func_proto, all_rewritten, is_filled, rewritten, with_new_name}
use Rattle.btf_sanitize.specs.Sanitized.{AnyFault, IsOverfull, NextFault, SanitizingFault, all_added, at_first, sanitized_strings, sanitized_types}
use Rattle.btf_storage.proofs.Left.{left_none, left_some, past_length}
use Rattle.btf_sanitize.proofs.Faultless.{none_of_any, none_of_either}
use Rattle.btf_storage.specs.Faultless.{IsFaultless}

-- ---- Additions only grow

pub record IsAtLeast (a b : Added) : Type 0 where
  pub texts : next_offset a ≤ next_offset b
  pub types : a.type_count + length a.types ≤ b.type_count + length b.types
  pub after_strings : b.string_len ≡ a.string_len
  pub after_types : b.type_count ≡ a.type_count

least_itself : (a : Added) → IsAtLeast a a
least_itself a = record { texts = omega arith; types = omega arith; after_strings = refl; after_types = refl }

least_then : (a b c : Added) → IsAtLeast a b → IsAtLeast b c → IsAtLeast a c
least_then a b c h k = record {
  texts = omega (arith, h.texts, k.texts);
  types = omega (arith, h.types, k.types);
  after_strings = k.after_strings ∙ h.after_strings;
  after_types = k.after_types ∙ h.after_types;
}

least_texts : (texts : List ℕ) (a : Added) → IsAtLeast a (with_texts texts a)
least_texts texts a = record { texts = omega (arith, length-append a.texts texts); types = omega arith; after_strings = refl; after_types = refl }

least_renamed : (from to : ℕ) (name : List ℕ) (a : Added) → IsAtLeast a (with_renamed from to name a)
least_renamed from to name a = elim (has_byte from name) as (λ b. IsAtLeast a (cond b (with_text (replaced from to name) a) a)) [
  | true ↦ least_texts (replaced from to name ++ 0 ∷ []) a
  | false ↦ least_itself a
]

least_new_placeholder : (a : Added) → IsAtLeast a (with_new_placeholder a)
least_new_placeholder a = record {
  texts = omega (arith, length-append a.texts (placeholder_name ++ 0 ∷ []));
  types = omega (arith, length-append a.types (small_int (next_offset a) ∷ []));
  after_strings = refl;
  after_types = refl;
}

least_placeholder : (a : Added) → IsAtLeast a (with_placeholder a)
least_placeholder a = elim (is_some a.placeholder) as (λ b. IsAtLeast a (cond b a (with_new_placeholder a))) [
  | true ↦ least_itself a
  | false ↦ least_new_placeholder a
]

least_filler_int : (a : Added) → IsAtLeast a (with_filler_int a)
least_filler_int a = record {
  texts = omega (arith, length-append a.texts (filler_int_name ++ 0 ∷ []));
  types = omega (arith, length-append a.types (small_int (next_offset a) ∷ []));
  after_strings = refl;
  after_types = refl;
}

least_filler_var : (int : ℕ) (a : Added) → IsAtLeast a (with_filler_var int a)
least_filler_var int a = record {
  texts = omega (arith, length-append a.texts (filler_name ++ 0 ∷ []));
  types = omega (arith, length-append a.types (static_var (next_offset a) int ∷ []));
  after_strings = refl;
  after_types = refl;
}

pub least_filler : (a : Added) → IsAtLeast a (with_filler a)
least_filler a = elim (is_some a.filler) as (λ b. IsAtLeast a (cond b a (with_filler_var (next_id a) (with_filler_int a)))) [
  | true ↦ least_itself a
  | false ↦ least_then a (with_filler_int a) (with_filler_var (next_id a) (with_filler_int a)) (least_filler_int a) (least_filler_var (next_id a) (with_filler_int a))
]

least_granted : (known : Facts) (a : Added) (t : DataSec) → IsAtLeast a (after_granted known a t)
least_granted known a t = elim (is_filled known t) as (λ b. IsAtLeast a (cond b (with_filler (with_new_name known a t)) (with_new_name known a t))) [
  | true ↦ least_then a (with_new_name known a t) (with_filler (with_new_name known a t)) (least_renamed 47 46 (name_at known t.name_offset) a) (least_filler (with_new_name known a t))
  | false ↦ least_renamed 47 46 (name_at known t.name_offset) a
]

least_section : (known : Facts) (a : Added) (t : DataSec) → IsAtLeast a (after_section known a t)
least_section known a t = elim (known.grants feature.DataSec) as (λ b. IsAtLeast a (cond b (after_granted known a t) (with_renamed 46 95 (name_at known t.name_offset) a))) [
  | true ↦ least_granted known a t
  | false ↦ least_renamed 46 95 (name_at known t.name_offset) a
]

least_func_proto : (known : Facts) (a : Added) (t : FuncProto) → IsAtLeast a (after_func_proto known a t)
least_func_proto known a t = elim (known.grants feature.Func) as (λ b. IsAtLeast a (cond b (with_texts (param_texts 0 t.params) a) a)) [
  | true ↦ least_texts (param_texts 0 t.params) a
  | false ↦ least_itself a
]

least_enum64 : (known : Facts) (a : Added) → IsAtLeast a (after_enum64 known a)
least_enum64 known a = elim (known.grants feature.Enum64) as (λ b. IsAtLeast a (cond b a (with_placeholder a))) [
  | true ↦ least_itself a
  | false ↦ least_placeholder a
]

pub least_after : (known : Facts) (a : Added) (t : BtfType) → IsAtLeast a (after known a t)
least_after known a types.Unknown = least_itself a
least_after known a (types.Fwd t) = least_itself a
least_after known a (types.Const t) = least_itself a
least_after known a (types.Volatile t) = least_itself a
least_after known a (types.Restrict t) = least_itself a
least_after known a (types.Ptr t) = least_itself a
least_after known a (types.Typedef t) = least_itself a
least_after known a (types.Func t) = least_itself a
least_after known a (types.Int t) = least_itself a
least_after known a (types.Float t) = least_itself a
least_after known a (types.Enum t) = least_itself a
least_after known a (types.Array t) = least_itself a
least_after known a (types.Struct t) = least_itself a
least_after known a (types.Union t) = least_itself a
least_after known a (types.FuncProto t) = least_func_proto known a t
least_after known a (types.Var t) = least_itself a
least_after known a (types.DataSec t) = least_section known a t
least_after known a (types.DeclTag t) = least_itself a
least_after known a (types.TypeTag t) = least_itself a
least_after known a (types.Enum64 t) = least_enum64 known a

least_all : (known : Facts) (a : Added) (ts : List BtfType) → IsAtLeast a (after_all known a ts)
least_all known a [] = least_itself a
least_all known a (t ∷ ts) = least_then a (after known a t) (after_all known (after known a t) ts) (least_after known a t) (least_all known (after known a t) ts)

too_much_stays : (a b : Added) (e : BtfError) → IsAtLeast a b → IsTooMuch a e → IsTooMuch b e
too_much_stays a b InvalidTypeInfo h (inl texts) = inl (omega (arith, h.texts, texts))
too_much_stays a b InvalidTypeInfo h (inr types) = inr (omega (arith, h.types, types))
too_much_stays a b _ h none = none

-- ---- The first records

pub record HavePassed (known : Facts) (order : Endianness) (start : Added) (i : ℕ) (a : Added) (done : List BtfType) : Type 0 where
  pub made : done ++ all_rewritten known a (drop i known.types) ≡ all_rewritten known start known.types
  pub added : after_all known a (drop i known.types) ≡ after_all known start known.types
  pub each : All (λ t. IsFaultless (KindFault known t)) (take i known.types)
  pub few : AreFew order done

pub none_passed : (known : Facts) (order : Endianness) (start : Added) (done : List BtfType) → done ≡ [] → HavePassed known order start 0 start done
none_passed known order start done empty = rw empty (record {
  made = refl;
  added = refl;
  each = λ k d lt. omega (arith, lt);
  few = record { bytes = omega arith; count = omega arith };
})

pub one_more_passed : (known : Facts) (order : Endianness) (start a : Added) (i : ℕ) (done : List BtfType) (t r : BtfType) (b : Added) → HavePassed known order start i a done → slice_get known.types i ≡ Some t → r ≡ rewritten known a t → b ≡ after known a t → IsFaultless (KindFault known t) → AreFew order (done ++ r ∷ []) → HavePassed known order start (i + 1) b (done ++ r ∷ [])
one_more_passed known order start a i done t r b before here is added_before faultless few =
    let left = left_some known.types i t here in
    record {
      made = append_assoc done (r ∷ []) _ ∙ (rw (is, added_before) (ap (λ l. done ++ all_rewritten known a l) (sym left) ∙ before.made));
      added = rw added_before (ap (after_all known a) (sym left) ∙ before.added);
      each = All-more (λ x. IsFaultless (KindFault known x)) known.types i t (slice_get_within known.types i t here) before.each (rw (get_or_from_slice_get known.types i t t here) faultless);
      few = few;
    }

-- A fault of the next record is a fault of the table.
fault_here : (known : Facts) (i : ℕ) (t : BtfType) (e : BtfError) → slice_get known.types i ≡ Some t → KindFault known t e → Any (λ x. KindFault known x e) known.types
fault_here known i t e here fault = (i, t, slice_get_within known.types i t here, get_or_from_slice_get known.types i t t here, fault)

too_much_here : (known : Facts) (order : Endianness) (start a : Added) (i : ℕ) (done : List BtfType) (t : BtfType) (e : BtfError) → HavePassed known order start i a done → slice_get known.types i ≡ Some t → IsTooMuch (after known a t) e → IsTooMuch (after_all known start known.types) e
too_much_here known order start a i done t e before here much =
    too_much_stays (after known a t) (after_all known start known.types) e (subst (IsAtLeast (after known a t)) (sym (ap (after_all known a) (left_some known.types i t here)) ∙ before.added) (least_all known (after known a t) (drop (i + 1) known.types))) much

pub too_many_more : (order : Endianness) (front rest : List BtfType) → AreTooMany order front → AreTooMany order (front ++ rest)
too_many_more order front rest (inl bytes) = inl (omega (arith, bytes, ap length (flat_map-append (record_bytes order) front rest), length-append (flat_map (record_bytes order) front) (flat_map (record_bytes order) rest)))
too_many_more order front rest (inr count) = inr (omega (arith, count, length-append front rest))

too_many_here : (known : Facts) (order : Endianness) (start a : Added) (i : ℕ) (done : List BtfType) (t : BtfType) → HavePassed known order start i a done → slice_get known.types i ≡ Some t → AreTooMany order (done ++ rewritten known a t ∷ []) → AreTooMany order (all_rewritten known start known.types)
too_many_here known order start a i done t before here many =
    let rest = all_rewritten known (after known a t) (drop (i + 1) known.types) in
    subst (AreTooMany order) (append_assoc done (rewritten known a t ∷ []) rest ∙ (ap (λ l. done ++ all_rewritten known a l) (sym (left_some known.types i t here)) ∙ before.made)) (too_many_more order (done ++ rewritten known a t ∷ []) rest many)

-- If the next record can't be rewritten, the table can't.
pub refused_here : (known : Facts) (done : RecordList) (start a : Added) (i : ℕ) (t : BtfType) (e : BtfError) → HavePassed known done.order start i a done.types → slice_get known.types i ≡ Some t → NextFault known done a t e → AnyFault known done.order start e
refused_here known done start a i t e before here (inl kind) = inl (fault_here known i t e here kind)
refused_here known done start a i t e before here (inr (inl much)) = inr (inl (too_much_here known done.order start a i done.types t e before here much))
refused_here known done start a i t e before here (inr (inr many)) = inr (inr (many.0, too_many_here known done.order start a i done.types t before here many.1))

-- ---- All records

pub all_are_made : (known : Facts) (order : Endianness) (start a : Added) (i : ℕ) (done : List BtfType) → HavePassed known order start i a done → slice_get known.types i ≡ None → done ≡ all_rewritten known start known.types
all_are_made known order start a i done passed past = sym (append-nil done) ∙ (ap (λ l. done ++ all_rewritten known a l) (sym (left_none known.types i past)) ∙ passed.made)

pub all_are_added : (known : Facts) (order : Endianness) (start a : Added) (i : ℕ) (done : List BtfType) → HavePassed known order start i a done → slice_get known.types i ≡ None → a ≡ after_all known start known.types
all_are_added known order start a i done passed past = ap (after_all known a) (sym (left_none known.types i past)) ∙ passed.added

pub all_are_faultless : (known : Facts) (order : Endianness) (start a : Added) (i : ℕ) (done : List BtfType) → HavePassed known order start i a done → slice_get known.types i ≡ None → IsFaultless (λ e. Any (λ t. KindFault known t e) known.types)
all_are_faultless known order start a i done passed past = none_of_any (KindFault known) known.types (subst (All (λ t. IsFaultless (KindFault known t))) (take_all i known.types (past_length known.types i past)) passed.each)

-- An error that is passed on.
pub passed_on : {T : Type 0} (result : Result T BtfError) (e : BtfError) (P : BtfError → Type 0) → IsErrAnd result (λ f. f ≡ e) → P e → IfErr result P
passed_on (Ok value) e P h p = tt
passed_on (Err f) e P h p = subst P (sym h) p

-- If the types with the next one are too many, all types are too many.
pub too_many_next : (order : Endianness) (done : List BtfType) (t : BtfType) (rest all : List BtfType) → done ++ t ∷ rest ≡ all → TooMany (length (flat_map (record_bytes order) (done ++ t ∷ []))) ⊎ TooMany (length done + 1) → AreTooMany order all
too_many_next order done t rest all same many =
    let front : AreTooMany order (done ++ t ∷ []) = elim many [ inl m ↦ inl m | inr m ↦ inr (omega (arith, m, length-append done (t ∷ []))) ] in
    subst (AreTooMany order) (append_assoc done (t ∷ []) rest ∙ same) (too_many_more order (done ++ t ∷ []) rest front)

-- ---- The whole table

length_rewritten : (known : Facts) (a : Added) (ts : List BtfType) → length (all_rewritten known a ts) ≡ length ts
length_rewritten known a [] = refl
length_rewritten known a (t ∷ ts) = ap suc (length_rewritten known (after known a t) ts)

overfull : (order : Endianness) (known : Facts) (e : BtfError) → IsTooMuch (all_added known) e → IsOverfull order known e
overfull order known InvalidTypeInfo (inl texts) =
    let least = least_all known (at_first known) known.types in
    inl (omega (arith, texts, least.after_strings, length-append known.strings (all_added known).texts))
overfull order known InvalidTypeInfo (inr count) =
    let least = least_all known (at_first known) known.types in
    inr (inr (omega (arith, count, least.after_types, length-append (all_rewritten known (at_first known) known.types) (all_added known).types, length_rewritten known (at_first known) known.types)))
overfull order known _ none = none

pub refused_all : (order : Endianness) (known : Facts) (e : BtfError) → AnyFault known order (at_first known) e → SanitizingFault order known e
refused_all order known e (inl any) = inl any
refused_all order known e (inr (inl much)) = inr (overfull order known e much)
refused_all order known e (inr (inr many)) = inr (subst (IsOverfull order known) (sym many.0) (inr (too_many_more order (all_rewritten known (at_first known) known.types) (all_added known).types many.1)))

pub refused_added : (order : Endianness) (known : Facts) (e : BtfError) → (e ≡ InvalidTypeInfo) × AreTooMany order (sanitized_types known) → SanitizingFault order known e
refused_added order known e many = inr (subst (IsOverfull order known) (sym many.0) (inr many.1))

not_overfull : (order : Endianness) (known : Facts) → AreFew order (sanitized_types known) → length (sanitized_strings known) < 2 ^ 32 → (e : BtfError) → IsOverfull order known e → ⊥
not_overfull order known few short InvalidTypeInfo (inl strings) = omega (arith, strings, short)
not_overfull order known few short InvalidTypeInfo (inr (inl bytes)) = omega (arith, bytes, few.bytes)
not_overfull order known few short InvalidTypeInfo (inr (inr count)) = omega (arith, count, few.count)
not_overfull order known few short _ none = none

pub faultless_all : (order : Endianness) (known : Facts) → IsFaultless (λ e. Any (λ t. KindFault known t e) known.types) → AreFew order (sanitized_types known) → (all_added known).string_len + length (all_added known).texts < 2 ^ 32 → IsFaultless (SanitizingFault order known)
faultless_all order known kinds few short =
    let least = least_all known (at_first known) known.types in
    none_of_either (λ e. Any (λ t. KindFault known t e) known.types) (IsOverfull order known) kinds (record { none = not_overfull order known few (omega (arith, short, least.after_strings, length-append known.strings (all_added known).texts)) })
