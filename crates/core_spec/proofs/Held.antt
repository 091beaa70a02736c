-- The ids and names in records that are reached.
use Rattle.std.proofs.Common.{◌≡◌, ℕ, zero, suc, Bool, true, List, [], ◌∷◌, ◌++◌, map, None, Some, Option, refl, ap, subst}
use Rattle.std.proofs.lemmas.List.Elements.{All-cons, All-head, All-nil, All-tail}
use Rattle.std.specs.Prelude.{All, slice_get}
use Rattle.core_spec.specs.Variants.{variant_name}
use Rattle.btf_records.specs.Fields.{array_of, members_of, name_offset_of}
use Rattle.btf_records.specs.declared.compound.Enum64Fallback.{Enum64Fallback}
use Rattle.btf_records.specs.declared.item.BtfArray.{BtfArray}
use Rattle.btf_records.specs.declared.item.BtfEnum.{BtfEnum}
use Rattle.btf_records.specs.declared.item.BtfEnum64.{BtfEnum64}
use Rattle.btf_records.specs.declared.item.BtfMember.{BtfMember}
use Rattle.btf_records.specs.declared.types.BtfType.{BtfType}
use Rattle.btf_records.specs.declared.types.BtfType.TheVariants as types
use Rattle.btf_tables.specs.Holdings.{held_ids, held_names, item_names}
use Rattle.btf_tables.specs.ResolvedTypes.{modified_type}
use Rattle.btf_tables.specs.TypeSizes.{sized_by}
use Rattle.std.specs.Option.{option_and_then, option_map, option_map_or}

-- ---- Lists

all-front : {A : Type 0} (P : A → Type 0) (xs ys : List A) → All P (xs ++ ys) → All P xs
all-front P [] ys h = All-nil P
all-front P (x ∷ xs) ys h = All-cons P x xs (All-head P x (xs ++ ys) h) (all-front P xs ys (All-tail P x (xs ++ ys) h))

all-after : {A : Type 0} (P : A → Type 0) (xs ys : List A) → All P (xs ++ ys) → All P ys
all-after P [] ys h = h
all-after P (x ∷ xs) ys h = all-after P xs ys (All-tail P x (xs ++ ys) h)

-- A property of the images of all elements holds of the image of one element.
mapped : {A : Type 0} (f : A → ℕ) (P : ℕ → Type 0) (xs : List A) (i : ℕ) (x : A) → All P (map f xs) → slice_get xs i ≡ Some x → P (f x)
mapped f P [] i x h e = absurd cc
mapped {A} f P (y ∷ xs) zero x h e = let same : y ≡ x = cc in subst (λ (z : A). P (f z)) same (All-head P (f y) (map f xs) h)
mapped f P (y ∷ xs) (suc i) x h e = mapped f P xs i x (All-tail P (f y) (map f xs) h) e

named : {A : Type 0} (f : A → ℕ) (P : ℕ → Type 0) (xs : List A) (i n : ℕ) → All P (map f xs) → option_map f (slice_get xs i) ≡ Some n → P n
named {A} f P xs i n h e = by (slice_get xs i) refl e where
  by : (o : Option A) → slice_get xs i ≡ o → option_map f o ≡ Some n → P n
  by None is e = absurd cc
  by (Some x) is e = let same : f x ≡ n = cc in subst P same (mapped f P xs i x h is)

-- ---- Ids

abbrev pub AreReached : (ℕ → Bool) → List ℕ → Type 0
AreReached reached ids = All (λ id. reached id ≡ true) ids

first_reached : (reached : ℕ → Bool) (x next : ℕ) (xs : List ℕ) → AreReached reached (x ∷ xs) → x ≡ next → reached next ≡ true
first_reached reached x next xs h e = subst (λ (k : ℕ). reached k ≡ true) e (All-head (λ k. reached k ≡ true) x xs h)

pub modified-reached : (reached : ℕ → Bool) (t : BtfType) (next : ℕ) → AreReached reached (held_ids t) → modified_type t ≡ Some next → reached next ≡ true
modified-reached reached (types.Typedef t) next h e = first_reached reached t.btf_type next [] h cc
modified-reached reached (types.Volatile t) next h e = first_reached reached t.btf_type next [] h cc
modified-reached reached (types.Const t) next h e = first_reached reached t.btf_type next [] h cc
modified-reached reached (types.Restrict t) next h e = first_reached reached t.btf_type next [] h cc
modified-reached reached (types.TypeTag t) next h e = first_reached reached t.btf_type next [] h cc
modified-reached reached _ next h e = absurd cc

second-of : (p q : ℕ × ℕ) → Some p ≡ Some q → p.1 ≡ q.1
second-of p q e = let same : p ≡ q = cc in ap (λ (r : ℕ × ℕ). r.1) same

abbrev pair : ℕ → ℕ → ℕ × ℕ
pair a b = (a, b)

second : (a b c d : ℕ) → Some (pair a b) ≡ Some (pair c d) → b ≡ d
second a b c d e = second-of (pair a b) (pair c d) e

pub sized-reached : (reached : ℕ → Bool) (t : BtfType) (count next : ℕ) → AreReached reached (held_ids t) → sized_by t ≡ Some (count, next) → reached next ≡ true
sized-reached reached (types.Array t) count next h e = first_reached reached t.array.element_type next (t.array.index_type ∷ []) h (second t.array.len t.array.element_type count next e)
sized-reached reached (types.Typedef t) count next h e = first_reached reached t.btf_type next [] h (second 1 t.btf_type count next e)
sized-reached reached (types.Volatile t) count next h e = first_reached reached t.btf_type next [] h (second 1 t.btf_type count next e)
sized-reached reached (types.Const t) count next h e = first_reached reached t.btf_type next [] h (second 1 t.btf_type count next e)
sized-reached reached (types.Restrict t) count next h e = first_reached reached t.btf_type next [] h (second 1 t.btf_type count next e)
sized-reached reached (types.TypeTag t) count next h e = first_reached reached t.btf_type next [] h (second 1 t.btf_type count next e)
sized-reached reached (types.Func t) count next h e = first_reached reached t.btf_type next [] h (second 1 t.btf_type count next e)
sized-reached reached (types.FuncProto t) count next h e = first_reached reached t.return_type next (map (λ p. p.btf_type) t.params) h (second 1 t.return_type count next e)
sized-reached reached (types.Var t) count next h e = first_reached reached t.btf_type next [] h (second 1 t.btf_type count next e)
sized-reached reached (types.DeclTag t) count next h e = first_reached reached t.btf_type next [] h (second 1 t.btf_type count next e)
sized-reached reached _ count next h e = absurd cc

pub element-reached : (reached : ℕ → Bool) (t : BtfType) (array : BtfArray) → AreReached reached (held_ids t) → array_of t ≡ Some array → reached array.element_type ≡ true
element-reached reached (types.Array t) array h e = let same : t.array ≡ array = cc in subst (λ (a : BtfArray). reached a.element_type ≡ true) same (All-head (λ k. reached k ≡ true) t.array.element_type (t.array.index_type ∷ []) h)
element-reached reached _ array h e = absurd cc

pub member-reached : (reached : ℕ → Bool) (t : BtfType) (index : ℕ) (m : BtfMember) → AreReached reached (held_ids t) → slice_get (members_of t) index ≡ Some m → reached m.btf_type ≡ true
member-reached reached (types.Struct t) index m h e = mapped (λ (x : BtfMember). x.btf_type) (λ k. reached k ≡ true) t.members index m h e
member-reached reached (types.Union t) index m h e = mapped (λ (x : BtfMember). x.btf_type) (λ k. reached k ≡ true) t.members index m h e
member-reached reached _ index m h e = absurd cc

-- ---- Names

pub own-name : (P : ℕ → Type 0) (t : BtfType) → All P (held_names t) → P (name_offset_of t)
own-name P t h = All-head P (name_offset_of t) (item_names t) h

items : (P : ℕ → Type 0) (t : BtfType) → All P (held_names t) → All P (item_names t)
items P t h = All-tail P (name_offset_of t) (item_names t) h

member-name-of : (P : ℕ → Type 0) (t : BtfType) (index : ℕ) (m : BtfMember) → All P (item_names t) → slice_get (members_of t) index ≡ Some m → P m.name_offset
member-name-of P (types.Struct t) index m h e = mapped (λ (x : BtfMember). x.name_offset) P t.members index m h e
member-name-of P (types.Union t) index m h e = mapped (λ (x : BtfMember). x.name_offset) P t.members index m (all-front P (map (λ (x : BtfMember). x.name_offset) t.members) _ h) e
member-name-of P _ index m h e = absurd cc

pub member-name : (P : ℕ → Type 0) (t : BtfType) (index : ℕ) (m : BtfMember) → All P (held_names t) → slice_get (members_of t) index ≡ Some m → P m.name_offset
member-name P t index m h e = member-name-of P t index m (items P t h) e

fallback-name : (P : ℕ → Type 0) (fallback : Option Enum64Fallback) (index offset : ℕ) → All P (option_map_or (λ e. map (λ (v : BtfEnum64). v.name_offset) e.variants) fallback []) → option_and_then (λ e. option_map (λ (v : BtfEnum64). v.name_offset) (slice_get e.variants index)) fallback ≡ Some offset → P offset
fallback-name P None index offset h e = absurd cc
fallback-name P (Some f) index offset h e = named (λ (v : BtfEnum64). v.name_offset) P f.variants index offset h e

variant-name-of : (P : ℕ → Type 0) (t : BtfType) (index offset : ℕ) → All P (item_names t) → variant_name t index ≡ Some offset → P offset
variant-name-of P (types.Enum t) index offset h e = named (λ (v : BtfEnum). v.name_offset) P t.variants index offset h e
variant-name-of P (types.Enum64 t) index offset h e = named (λ (v : BtfEnum64). v.name_offset) P t.variants index offset h e
variant-name-of P (types.Union t) index offset h e = fallback-name P t.fallback index offset (all-after P (map (λ (x : BtfMember). x.name_offset) t.members) _ h) e
variant-name-of P _ index offset h e = absurd cc

pub variant-name : (P : ℕ → Type 0) (t : BtfType) (index offset : ℕ) → All P (held_names t) → variant_name t index ≡ Some offset → P offset
variant-name P t index offset h e = variant-name-of P t index offset (items P t h) e
