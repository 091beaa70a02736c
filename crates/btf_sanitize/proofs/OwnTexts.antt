-- A lower bound of the bytes that rewritten names of sections add.
use Rattle.std.proofs.Common.{◌≡◌, ℕ, ◌+◌, ◌≤◌, Bool, true, false, cond, List, [], ◌∷◌, ◌++◌, length, nat_eq, arith, length-append, inl, inr, Some, drop, ap}
use Rattle.std.specs.List.{slice_get}
use Rattle.std.proofs.lemmas.List.{length-map}
use Rattle.btf_storage.specs.Growth.{TooMany}
use Rattle.btf_records.specs.declared.error.BtfError.TheVariants.{InvalidTypeInfo}
use Rattle.btf_records.specs.declared.feature.BtfFeature.TheVariants as feature
use Rattle.btf_records.specs.declared.types.BtfType.{BtfType}
use Rattle.btf_records.specs.declared.types.BtfType.TheVariants as types
use Rattle.btf_records.specs.declared.variables.DataSec.{DataSec}
use Rattle.btf_records.specs.declared.words.Endianness.{Endianness}
use Rattle.btf_sanitize.specs.Additions.{Added, next_offset, with_filler, with_renamed, with_text}
use Rattle.btf_sanitize.specs.Facts.{Facts, name_at}
use Rattle.btf_sanitize.specs.Names.{has_byte, replaced}
use Rattle.btf_sanitize.specs.OwnTexts.{own_text, own_texts}
use Rattle.btf_sanitize.specs.Rewritten.{after, after_all, after_granted, is_filled, with_new_name}
use Rattle.btf_sanitize.specs.Sanitized.{SanitizingFault, at_first}
use Rattle.btf_storage.proofs.Left.{left_some}
use Rattle.btf_sanitize.proofs.Passes.{IsAtLeast, least_after, least_filler, refused_all}

renamed : (has : Bool) (from to : ℕ) (name : List ℕ) (a : Added) → next_offset a + cond has (length name + 1) 0 ≤ next_offset (cond has (with_text (replaced from to name) a) a)
renamed true from to name a = omega (arith, length-append a.texts (replaced from to name ++ 0 ∷ []), length-append (replaced from to name) (0 ∷ []), length-map name (λ b. cond (nat_eq b from) to b))
renamed false from to name a = omega arith

filled : (is : Bool) (n : ℕ) (a : Added) → n ≤ next_offset a → n ≤ next_offset (cond is (with_filler a) a)
filled true n a le = let more = (least_filler a).texts in omega (arith, le, more)
filled false n a le = le

section : (granted : Bool) (known : Facts) (a : Added) (t : DataSec)
    → next_offset a + cond (has_byte (cond granted 47 46) (name_at known t.name_offset)) (length (name_at known t.name_offset) + 1) 0
    ≤ next_offset (cond granted (after_granted known a t) (with_renamed 46 95 (name_at known t.name_offset) a))
section true known a t = filled (is_filled known t) _ (with_new_name known a t) (renamed (has_byte 47 (name_at known t.name_offset)) 47 46 (name_at known t.name_offset) a)
section false known a t = renamed (has_byte 46 (name_at known t.name_offset)) 46 95 (name_at known t.name_offset) a

none : {a b : Added} → IsAtLeast a b → next_offset a + 0 ≤ next_offset b
none h = omega (arith, h.texts)

one : (known : Facts) (a : Added) (t : BtfType) → next_offset a + own_text known t ≤ next_offset (after known a t)
one known a (types.DataSec t) = section (known.grants feature.DataSec) known a t
one known a types.Unknown = none (least_after known a types.Unknown)
one known a (types.Fwd t) = none (least_after known a (types.Fwd t))
one known a (types.Const t) = none (least_after known a (types.Const t))
one known a (types.Volatile t) = none (least_after known a (types.Volatile t))
one known a (types.Restrict t) = none (least_after known a (types.Restrict t))
one known a (types.Ptr t) = none (least_after known a (types.Ptr t))
one known a (types.Typedef t) = none (least_after known a (types.Typedef t))
one known a (types.Func t) = none (least_after known a (types.Func t))
one known a (types.Int t) = none (least_after known a (types.Int t))
one known a (types.Float t) = none (least_after known a (types.Float t))
one known a (types.Enum t) = none (least_after known a (types.Enum t))
one known a (types.Array t) = none (least_after known a (types.Array t))
one known a (types.Struct t) = none (least_after known a (types.Struct t))
one known a (types.Union t) = none (least_after known a (types.Union t))
one known a (types.FuncProto t) = none (least_after known a (types.FuncProto t))
one known a (types.Var t) = none (least_after known a (types.Var t))
one known a (types.DeclTag t) = none (least_after known a (types.DeclTag t))
one known a (types.TypeTag t) = none (least_after known a (types.TypeTag t))
one known a (types.Enum64 t) = none (least_after known a (types.Enum64 t))

pub texts_at_least : (known : Facts) (a : Added) (ts : List BtfType) → next_offset a + own_texts known ts ≤ next_offset (after_all known a ts)
texts_at_least known a [] = omega arith
texts_at_least known a (t ∷ ts) = let here = one known a t in let rest = texts_at_least known (after known a t) ts in omega (arith, here, rest)

-- If the rewritten names of sections alone overflow 32 bits, the table is too large.
pub refused_own : (order : Endianness) (known : Facts) → TooMany (length known.strings + own_texts known known.types) → SanitizingFault order known InvalidTypeInfo
refused_own order known many = refused_all order known InvalidTypeInfo (inr (inl (inl (omega (arith, many, texts_at_least known (at_first known) known.types)))))

-- The bytes that the remaining records add, by the next record.
pub own_texts_left : (known : Facts) (i : ℕ) (t : BtfType) → slice_get known.types i ≡ Some t → own_texts known (drop i known.types) ≡ own_text known t + own_texts known (drop (i + 1) known.types)
own_texts_left known i t here = ap (own_texts known) (left_some known.types i t here)
