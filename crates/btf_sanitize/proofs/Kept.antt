-- Each record keeps its id, and the rewritten records need only granted features.
use Rattle.std.proofs.Common.{◌≡◌, ℕ, zero, suc, ◌-◌, ◌==◌, ◌&&◌, Bool, true, false, not, cond, List, [], ◌∷◌, ◌++◌, Some, is_some, drop, length, map, refl, ap, sym, ◌∙◌, subst, arith}
use Rattle.std.specs.List.{slice_get}
use Rattle.std.proofs.Math.Seq.{drop-append_seam}
use Rattle.std.proofs.lemmas.Bool.Decides.{nat_tests}
use Rattle.btf_records.specs.declared.feature.BtfFeature.{BtfFeature}
use Rattle.btf_records.specs.declared.feature.BtfFeature.TheVariants as feature
use Rattle.btf_records.specs.declared.functions.Func.{Func}
use Rattle.btf_records.specs.declared.types.BtfType.{BtfType}
use Rattle.btf_records.specs.declared.types.BtfType.TheVariants as types
use Rattle.btf_records.specs.declared.variables.DataSec.{DataSec}
use Rattle.string_table.specs.Texts.{text_at}
use Rattle.btf_sanitize.specs.Additions.{Added, next_id, next_offset, small_int, static_var, with_filler, with_filler_int, with_filler_var, with_new_placeholder, with_placeholder, with_renamed, with_text, with_texts}
use Rattle.btf_storage.specs.Ids.{record_of_id}
use Rattle.btf_sanitize.specs.Facts.{Facts, name_at}
use Rattle.btf_sanitize.specs.Kept.{AllGranted, Becomes, EachGranted, Keeps, needed_after}
use Rattle.btf_sanitize.specs.Names.{has_byte, param_texts, replaced}
use Rattle.btf_sanitize.specs.Needs.{stays_global}
use Rattle.btf_sanitize.specs.Rewritten.{after, after_all, after_section, after_enum64, all_rewritten, granted_section, is_filled, placed, rewritten, rewritten_func, rewritten_section, section_struct, sized, with_new_name}
use Rattle.btf_sanitize.specs.Sanitized.{all_added, at_first, sanitized_types}
use Rattle.btf_sanitize.proofs.Stays.{stays_alone}

-- ---- Rewritten records need only granted features

by_test : (grants : BtfFeature → Bool) (t : BtfType) (test : Bool) (x y : BtfType) → (test ≡ true → AllGranted grants (needed_after t x)) → (test ≡ false → AllGranted grants (needed_after t y)) → AllGranted grants (needed_after t (cond test x y))
by_test grants t true x y h k = h refl
by_test grants t false x y h k = k refl

not_true : (b : Bool) → not b ≡ false → b ≡ true
not_true true e = refl
not_true false e = sym e

-- If a global function isn't made static, global functions are granted.
stays_granted : (one stays granted : Bool) → (one && not (stays && granted)) ≡ false → one ≡ true → granted ≡ true
stays_granted true true true e h = refl
stays_granted true true false e h = sym e
stays_granted true false true e h = refl
stays_granted true false false e h = sym e
stays_granted false stays granted e h = absurd cc

needs_global : (grants : BtfFeature → Bool) (one : Bool) → (one ≡ true → grants feature.FuncGlobal ≡ true) → AllGranted grants (cond one (feature.FuncGlobal ∷ []) [])
needs_global grants true h = (h refl, tt)
needs_global grants false h = tt

granted_func : (known : Facts) (a : Added) (t : Func) → AllGranted known.grants (needed_after (types.Func t) (rewritten_func known t))
granted_func known a t =
    by_test known.grants (types.Func t) (not (known.grants feature.Func)) _ _
    (λ denied. tt)
    (λ granted. by_test known.grants (types.Func t) ((t.vlen == 1) && not (stays_global (text_at known.strings t.name_offset) t.vlen && known.grants feature.FuncGlobal)) _ _
    (λ static. (not_true (known.grants feature.Func) granted, tt))
    (λ stays. (not_true (known.grants feature.Func) granted, needs_global known.grants (t.vlen == 1) (stays_granted (t.vlen == 1) (stays_global (text_at known.strings t.name_offset) t.vlen) (known.grants feature.FuncGlobal) stays))))

needs_zero : (grants : BtfFeature → Bool) (empty unsized : Bool) → (empty ≡ true → unsized ≡ true → grants feature.DataSecZero ≡ true) → AllGranted grants (cond (empty && unsized) (feature.DataSecZero ∷ []) [])
needs_zero grants true true h = (h refl refl, tt)
needs_zero grants true false h = tt
needs_zero grants false unsized h = tt

length_map : {X Y : Type 0} (f : X → Y) (xs : List X) → length (map f xs) ≡ length xs
length_map f [] = refl
length_map f (x ∷ xs) = ap suc (length_map f xs)

sized_entries : (known : Facts) (t : DataSec) (b : Bool) → (t.size == 0) ≡ b → (length (sized known t).entries == 0) ≡ (length t.entries == 0)
sized_entries known t true e = rw e (ap (λ n. n == 0) (length_map (placed known) t.entries))
sized_entries known t false e = rw e refl

not_filled : (unsized empty granted : Bool) → ((unsized && empty) && not granted) ≡ false → empty ≡ true → unsized ≡ true → granted ≡ true
not_filled true true true e h k = refl
not_filled true true false e h k = sym e
not_filled true false granted e h k = absurd cc
not_filled false empty granted e h k = absurd cc

granted_by : (known : Facts) (a : Added) (t : DataSec) (b : Bool) → is_filled known t ≡ b → known.grants feature.DataSec ≡ true → AllGranted known.grants (needed_after (types.DataSec t) (types.DataSec (granted_section known a t)))
granted_by known a t true e granted = rw e (granted, tt)
granted_by known a t false e granted =
    rw e (
      granted,
      needs_zero known.grants (length (sized known t).entries == 0) (t.size == 0) (λ empty unsized.
          not_filled (t.size == 0) (length t.entries == 0) (known.grants feature.DataSecZero) e (sym (sized_entries known t (t.size == 0) refl) ∙ empty) unsized),
    )

granted_section_left : (known : Facts) (a : Added) (t : DataSec) → AllGranted known.grants (needed_after (types.DataSec t) (rewritten_section known a t))
granted_section_left known a t =
    by_test known.grants (types.DataSec t) (known.grants feature.DataSec) (types.DataSec (granted_section known a t)) (types.Struct (section_struct known a t))
    (λ granted. granted_by known a t (is_filled known t) refl granted)
    (λ denied. tt)

needs_enum64 : (grants : BtfFeature → Bool) (flag : Bool) → grants feature.Enum64 ≡ true → AllGranted grants (cond flag (feature.Enum64 ∷ []) [])
needs_enum64 grants true h = (h, tt)
needs_enum64 grants false h = tt

granted_left : (known : Facts) (a : Added) (t : BtfType) → AllGranted known.grants (needed_after t (rewritten known a t))
granted_left known a types.Unknown = tt
granted_left known a (types.Fwd t) = tt
granted_left known a (types.Const t) = tt
granted_left known a (types.Volatile t) = tt
granted_left known a (types.Restrict t) = tt
granted_left known a (types.Ptr t) = tt
granted_left known a (types.Typedef t) = tt
granted_left known a (types.Func t) = granted_func known a t
granted_left known a (types.Int t) = tt
granted_left known a (types.Float t) = by_test known.grants (types.Float t) (known.grants feature.Float) _ _ (λ h. (h, tt)) (λ h. tt)
granted_left known a (types.Enum t) = by_test known.grants (types.Enum t) (known.grants feature.Enum64) _ _ (λ h. needs_enum64 known.grants t.info.flag h) (λ h. tt)
granted_left known a (types.Array t) = tt
granted_left known a (types.Struct t) = tt
granted_left known a (types.Union t) = tt
granted_left known a (types.FuncProto t) = by_test known.grants (types.FuncProto t) (not (known.grants feature.Func)) _ _ (λ h. tt) (λ h. (not_true (known.grants feature.Func) h, tt))
granted_left known a (types.Var t) = by_test known.grants (types.Var t) (known.grants feature.DataSec) _ _ (λ h. (h, tt)) (λ h. tt)
granted_left known a (types.DataSec t) = granted_section_left known a t
granted_left known a (types.DeclTag t) = by_test known.grants (types.DeclTag t) (known.grants feature.DeclTag) _ _ (λ h. (h, tt)) (λ h. tt)
granted_left known a (types.TypeTag t) = by_test known.grants (types.TypeTag t) (known.grants feature.TypeTag) _ _ (λ h. (h, tt)) (λ h. tt)
granted_left known a (types.Enum64 t) = by_test known.grants (types.Enum64 t) (known.grants feature.Enum64) _ _ (λ h. (h, tt)) (λ h. tt)

-- ---- Appended types need only granted features

each_granted_more : (grants : BtfFeature → Bool) (rs : List BtfType) (r : BtfType) → EachGranted grants rs → AllGranted grants (needed_after r r) → EachGranted grants (rs ++ r ∷ [])
each_granted_more grants [] r all one = (one, tt)
each_granted_more grants (x ∷ rs) r all one = (all.0, each_granted_more grants rs r all.1 one)

AddedGranted : Facts → Added → Type 0
AddedGranted known a = EachGranted known.grants a.types

by_choice : (known : Facts) (test : Bool) (a b : Added) → EachGranted known.grants a.types → EachGranted known.grants b.types → EachGranted known.grants (cond test a b).types
by_choice known true a b h k = h
by_choice known false a b h k = k

renamed_granted : (known : Facts) (from to : ℕ) (name : List ℕ) (a : Added) → EachGranted known.grants a.types → EachGranted known.grants (with_renamed from to name a).types
renamed_granted known from to name a h = by_choice known (has_byte from name) (with_text (replaced from to name) a) a h h

filler_granted : (known : Facts) (a : Added) → known.grants feature.DataSec ≡ true → EachGranted known.grants a.types → EachGranted known.grants (with_filler a).types
filler_granted known a granted h =
    by_choice known (is_some a.filler) a (with_filler_var (next_id a) (with_filler_int a)) h
    (each_granted_more known.grants (with_filler_int a).types (static_var (next_offset (with_filler_int a)) (next_id a)) (each_granted_more known.grants a.types (small_int (next_offset a)) h tt) (granted, tt))

section_granted : (known : Facts) (a : Added) (t : DataSec) (b : Bool) → known.grants feature.DataSec ≡ b → EachGranted known.grants a.types → EachGranted known.grants (after_section known a t).types
section_granted known a t true e h =
    let renamed = renamed_granted known 47 46 (name_at known t.name_offset) a h in
    rw e (by_choice known (is_filled known t) (with_filler (with_new_name known a t)) (with_new_name known a t) (filler_granted known (with_new_name known a t) e renamed) renamed)
section_granted known a t false e h = rw e (renamed_granted known 46 95 (name_at known t.name_offset) a h)

enum64_granted : (known : Facts) (a : Added) → EachGranted known.grants a.types → EachGranted known.grants (after_enum64 known a).types
enum64_granted known a h =
    by_choice known (known.grants feature.Enum64) a (with_placeholder a) h
    (by_choice known (is_some a.placeholder) a (with_new_placeholder a) h (each_granted_more known.grants a.types (small_int (next_offset a)) h tt))

after_granted_left : (known : Facts) (a : Added) (t : BtfType) → EachGranted known.grants a.types → EachGranted known.grants (after known a t).types
after_granted_left known a types.Unknown h = h
after_granted_left known a (types.Fwd t) h = h
after_granted_left known a (types.Const t) h = h
after_granted_left known a (types.Volatile t) h = h
after_granted_left known a (types.Restrict t) h = h
after_granted_left known a (types.Ptr t) h = h
after_granted_left known a (types.Typedef t) h = h
after_granted_left known a (types.Func t) h = h
after_granted_left known a (types.Int t) h = h
after_granted_left known a (types.Float t) h = h
after_granted_left known a (types.Enum t) h = h
after_granted_left known a (types.Array t) h = h
after_granted_left known a (types.Struct t) h = h
after_granted_left known a (types.Union t) h = h
after_granted_left known a (types.FuncProto t) h = by_choice known (known.grants feature.Func) (with_texts (param_texts 0 t.params) a) a h h
after_granted_left known a (types.Var t) h = h
after_granted_left known a (types.DataSec t) h = section_granted known a t (known.grants feature.DataSec) refl h
after_granted_left known a (types.DeclTag t) h = h
after_granted_left known a (types.TypeTag t) h = h
after_granted_left known a (types.Enum64 t) h = enum64_granted known a h

all_granted_left : (known : Facts) (a : Added) (ts : List BtfType) → EachGranted known.grants a.types → EachGranted known.grants (after_all known a ts).types
all_granted_left known a [] h = h
all_granted_left known a (t ∷ ts) h = all_granted_left known (after known a t) ts (after_granted_left known a t h)

-- ---- Each record keeps its id

length_all : (known : Facts) (a : Added) (ts : List BtfType) → length (all_rewritten known a ts) ≡ length ts
length_all known a [] = refl
length_all known a (t ∷ ts) = ap suc (length_all known (after known a t) ts)

record BecomesAt (known : Facts) (done : List BtfType) (i : ℕ) (t : BtfType) : Type 0 where
  added_before : Added
  here : slice_get done i ≡ Some (rewritten known added_before t)

becomes_at : (known : Facts) (a : Added) (ts rest : List BtfType) (i : ℕ) (t : BtfType) → slice_get ts i ≡ Some t → BecomesAt known (all_rewritten known a ts ++ rest) i t
becomes_at known a [] rest i t h = absurd cc
becomes_at known a (x ∷ ts) rest zero t h = let same : x ≡ t = cc in record { added_before = a; here = rw same refl }
becomes_at known a (x ∷ ts) rest (suc i) t h =
    let there = becomes_at known (after known a x) ts rest i t h in
    record { added_before = there.added_before; here = there.here }

at_suc : (ts : List BtfType) (i : ℕ) → record_of_id ts (suc i) ≡ slice_get ts i
at_suc ts i =
    let other : (suc i == 0) ≡ false = grind (arith, nat_tests) in
    let same : suc i - 1 ≡ i = omega arith in
    rw (other, same) refl

becomes : (known : Facts) (id : ℕ) (t : BtfType) → record_of_id known.types id ≡ Some t → Becomes known (sanitized_types known) id t
becomes known zero t h = let same : types.Unknown ≡ t = cc in record { added_before = at_first known; here = rw (sym same) refl; granted = rw (sym same) tt }
becomes known (suc i) t h =
    let at : slice_get known.types i ≡ Some t = sym (at_suc known.types i) ∙ h in
    let there = becomes_at known (at_first known) known.types (all_added known).types i t at in
    record { added_before = there.added_before; here = at_suc (sanitized_types known) i ∙ there.here; granted = granted_left known there.added_before t }

pub kept : (known : Facts) → Keeps known (sanitized_types known)
kept known =
    let dropped : drop (length known.types) (sanitized_types known) ≡ (all_added known).types = ap (λ n. drop n (sanitized_types known)) (sym (length_all known (at_first known) known.types)) ∙ drop-append_seam (all_rewritten known (at_first known) known.types) (all_added known).types in
    record {
      each = becomes known;
      left = λ id t here same. (becomes known id t here).here ∙ ap Some ((stays_alone known t same).same (becomes known id t here).added_before);
      added = subst (EachGranted known.grants) (sym dropped) (all_granted_left known (at_first known) known.types tt);
    }

-- The rewritten types of a table keep its records.
pub keeps : (known : Facts) (types : List BtfType) → types ≡ sanitized_types known → Keeps known types
keeps known types same = subst (Keeps known) (sym same) (kept known)
