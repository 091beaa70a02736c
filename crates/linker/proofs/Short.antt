-- A linked program has at most as many slots as its own function and all functions together.
use Rattle.std.proofs.Common.{◌≡◌, ℕ, ◌+◌, ◌≤◌, Bool, true, false, cond, List, [], ◌∷◌, length, Some, refl, ap, ◌∙◌, subst, arith}
use Rattle.object_parts.specs.Content.{FunctionContent, function_at}
use Rattle.linker.specs.Layout.{Key, same, has}
use Rattle.linker.specs.Reached.{AreDistinct}
use Rattle.linker.specs.Theorems.{LengthsAdd, slots_of}
use Rattle.linker.specs.Unlinked.{Unlinked, slots_in, table_of}
use Rattle.linker.specs.Linked.{IsLinked}
use Rattle.linker.specs.Lengths.{slot_total}
use Rattle.linker.proofs.Walk.{same_true, slots_read}

-- The number of slots of the functions of some keys together.
abbrev slots_at : List (Key × FunctionContent) → List Key → ℕ
slots_at fs [] = 0
slots_at fs (k ∷ ks) = length (slots_in (function_at fs k)) + slots_at fs ks

table_slots : (u : Unlinked) (ks : List Key) → slots_of (table_of u) ks ≡ slots_at u.functions ks
unfolding table_of
table_slots u [] = refl
table_slots u (k ∷ ks) = ap (λ n. length (slots_in (function_at u.functions k)) + n) (table_slots u ks)

none_there : (ks : List Key) → slots_at [] ks ≡ 0
none_there [] = refl
none_there (k ∷ ks) = omega (arith, none_there ks)

other_at : (f : Key × FunctionContent) (fs : List (Key × FunctionContent)) (k : Key) (ks : List Key) (v : Bool) → cond v true (has ks f.0) ≡ false → (has ks f.0 ≡ false → slots_at (f ∷ fs) ks ≡ slots_at fs ks) → length (slots_in (cond v (Some f.1) (function_at fs k))) + slots_at (f ∷ fs) ks ≡ length (slots_in (function_at fs k)) + slots_at fs ks
other_at f fs k ks true h ih = absurd (cc)
other_at f fs k ks false h ih = ap (λ n. length (slots_in (function_at fs k)) + n) (ih h)

-- A function whose key isn't among the keys adds no slots.
other : (f : Key × FunctionContent) (fs : List (Key × FunctionContent)) (ks : List Key) → has ks f.0 ≡ false → slots_at (f ∷ fs) ks ≡ slots_at fs ks
other f fs [] h = refl
other f fs (k ∷ ks) h = other_at f fs k ks (same k f.0) h (other f fs ks)

one_more_at : (f : Key × FunctionContent) (fs : List (Key × FunctionContent)) (k : Key) (ks : List Key) (v : Bool) → same k f.0 ≡ v → has ks k ≡ false → slots_at (f ∷ fs) ks ≤ length f.1.instructions + slots_at fs ks → length (slots_in (cond v (Some f.1) (function_at fs k))) + slots_at (f ∷ fs) ks ≤ length f.1.instructions + (length (slots_in (function_at fs k)) + slots_at fs ks)
one_more_at f fs k ks true e none ih =
    let here : has ks f.0 ≡ false = subst (λ x. has ks x ≡ false) (same_true k f.0 e) none in
    omega (arith, other f fs ks here)
one_more_at f fs k ks false e none ih = omega (arith, ih)

-- For distinct keys a function adds its slots at most once.
one_more : (f : Key × FunctionContent) (fs : List (Key × FunctionContent)) (ks : List Key) → AreDistinct ks → slots_at (f ∷ fs) ks ≤ length f.1.instructions + slots_at fs ks
one_more f fs [] d = omega arith
one_more f fs (k ∷ ks) d = one_more_at f fs k ks (same k f.0) refl d.0 (one_more f fs ks d.1)

within : (fs : List (Key × FunctionContent)) (ks : List Key) → AreDistinct ks → slots_at fs ks ≤ slot_total fs
within [] ks d = omega (arith, none_there ks)
within (f ∷ fs) ks d = omega (arith, one_more f fs ks d, within fs ks d)

pub short : (laws : LengthsAdd) (u : Unlinked) (own : Key) (g : FunctionContent) (l : IsLinked u own g) → length g.instructions ≤ length l.function.instructions + slot_total u.functions
short laws u own g l =
    let slots = ap (λ (x : FunctionContent). length x.instructions) l.content in
    let sum = slots ∙ laws.each (table_of u) own l.keys in
    let first = ap length (slots_read u own l.function l.before) in
    omega (arith, sum, first, table_slots u l.keys, within u.functions l.keys l.reached.once)

pub copies : (u : Unlinked) (keys : List Key) → AreDistinct keys → slots_of (table_of u) keys ≤ slot_total u.functions
copies u keys once = omega (arith, table_slots u keys, within u.functions keys once)
