-- Functions that are stored under their keys.
use Rattle.std.proofs.Common.{◌≡◌, ℕ, List, [], ◌∷◌, map, refl, sym, ap, ◌∙◌, cond, true, false, is_some, Bool, Option, Some, None}
use Rattle.std.proofs.lemmas.Cmp.{ranked}
use Rattle.std.specs.declared.cmp.Ordering.{Ordering}
use Rattle.std.specs.declared.cmp.Ordering.TheVariants.{Less, Equal, Greater}
use Rattle.std.specs.Ordering.{is_eq, match_ordering, nat_cmp, ordering_then}
use Rattle.std.specs.BTreeMap.{insert_entry, is_at}
use Rattle.std.specs.Prelude.{Result, Ok, Err, OnOk, OnErr, IfSome, IsSome}
use Rattle.std.specs.Option.{option_copied}
use Rattle.std.specs.Borrow.{Bor}
use Rattle.object_parts.specs.Content.{AreKeyed, FunctionContent, Replaces, function_at, has_function, key_cmp, key_of}
use Rattle.std.specs.Map.{keys_of}

then-equal : (o p : Ordering) → ordering_then o p ≡ Equal → (o ≡ Equal) × (p ≡ Equal)
then-equal Less p h = absurd (cc)
then-equal Equal p h = (refl, h)
then-equal Greater p h = absurd (cc)

pair-equal : (x y z w : ℕ) → x ≡ y → z ≡ w → ◌≡◌ {A = ℕ × ℕ} (y, w) (x, z)
pair-equal x y z w e f = rw (e, f) refl

key-equal : (a b : ℕ × ℕ) → key_cmp a b ≡ Equal → b ≡ a
key-equal a b h =
    let parts = then-equal (nat_cmp a.0 b.0) (nat_cmp a.1 b.1) h in
    pair-equal a.0 b.0 a.1 b.1 (ranked a.0 b.0 Equal (sym parts.0)) (ranked a.1 b.1 Equal (sym parts.1))

keyed-match : (o : Ordering) (a b c : List ((ℕ × ℕ) × FunctionContent)) → AreKeyed a → (o ≡ Equal → AreKeyed b) → AreKeyed c → AreKeyed (match_ordering o a b c)
keyed-match Less a b c ka kb kc = ka
keyed-match Equal a b c ka kb kc = kb refl
keyed-match Greater a b c ka kb kc = kc

pub keyed_insert : (entries : List ((ℕ × ℕ) × FunctionContent)) (f : FunctionContent) → AreKeyed entries → AreKeyed (insert_entry key_cmp entries (key_of f) f)
unfolding AreKeyed
keyed_insert [] f keyed = (refl, keyed)
keyed_insert (e ∷ es) f keyed =
    keyed-match (key_cmp (key_of f) e.0) ((key_of f, f) ∷ e ∷ es) ((e.0, f) ∷ es) (e ∷ insert_entry key_cmp es (key_of f) f)
    (refl, keyed) (λ same. (key-equal (key_of f) e.0 same, keyed.1)) (keyed.0, keyed_insert es f keyed.1)

-- An attempt to insert a function preserves that all functions are stored under their keys.
pub keyed_after : {T E : Type 0} (r : Result T E) (old new : List ((ℕ × ℕ) × FunctionContent)) (f : FunctionContent) → OnOk r (new ≡ insert_entry key_cmp old (key_of f) f) → OnErr r (new ≡ old) → AreKeyed old → AreKeyed new
keyed_after (Ok x) old new f entered same keyed = rw entered (keyed_insert old f keyed)
keyed_after (Err e) old new f entered same keyed = rw same keyed

-- A function that is inserted under a key that is present replaces the function of this key.
pub replaced : (old new : List ((ℕ × ℕ) × FunctionContent)) (key : ℕ × ℕ) (f : FunctionContent) (was : Option FunctionContent) → key ≡ key_of f → was ≡ function_at old key → (IsSome was → keys_of new ≡ keys_of old) → ((q : ℕ × ℕ) → function_at new q ≡ cond (is_at (key_cmp key) q) (Some f) (function_at old q)) → has_function old (key_of f) ≡ true → Replaces old new f
replaced old new key f None k w stay at there =
    let none : is_some (function_at old (key_of f)) ≡ false = ap is_some (sym (w ∙ ap (function_at old) k)) in
    absurd (cc)
replaced old new key f (Some g) k w stay at there = record { keys = stay refl; at = λ q. at q ∙ ap (λ x. cond (is_at (key_cmp x) q) (Some f) (function_at old q)) k }

-- A function that is found under a key has this key.
same-equal : (o : Ordering) → is_eq o ≡ true → o ≡ Equal
same-equal Less h = absurd (cc)
same-equal Equal h = refl
same-equal Greater h = absurd (cc)

keyed_here : (key k : ℕ × ℕ) (g f : FunctionContent) (rest : Option FunctionContent) (b : Bool) → is_eq (key_cmp key k) ≡ b → k ≡ key_of g → cond b (Some g) rest ≡ Some f → (rest ≡ Some f → key_of f ≡ key) → key_of f ≡ key
keyed_here key k g f rest true e at h more =
    let q : g ≡ f = cc in
    ap key_of (sym q) ∙ sym at ∙ key-equal key k (same-equal (key_cmp key k) e)
keyed_here key k g f rest false e at h more = more h

pub keyed_at : (entries : List ((ℕ × ℕ) × FunctionContent)) (key : ℕ × ℕ) (f : FunctionContent) → AreKeyed entries → function_at entries key ≡ Some f → key_of f ≡ key
unfolding AreKeyed
keyed_at [] key f keyed h = absurd (cc)
keyed_at (e ∷ es) key f keyed h = keyed_here key e.0 e.1 f (function_at es key) (is_eq (key_cmp key e.0)) refl keyed.0 h (keyed_at es key f keyed.1)

pub keyed_get : (entries : List ((ℕ × ℕ) × FunctionContent)) (key : ℕ × ℕ) (r : Option (Bor FunctionContent)) → AreKeyed entries → option_copied r ≡ function_at entries key → IfSome r (λ f. key_of f.now ≡ key)
keyed_get entries key None keyed h = tt
keyed_get entries key (Some f) keyed h = keyed_at entries key f.now keyed (sym h)

-- A change of the functions that preserves their keys preserves that they are stored under them.
pub keyed_map : (g : FunctionContent → FunctionContent) (entries : List ((ℕ × ℕ) × FunctionContent)) → ((f : FunctionContent) → key_of (g f) ≡ key_of f) → AreKeyed entries → AreKeyed (map (λ e. (e.0, g e.1)) entries)
unfolding AreKeyed
keyed_map g [] stays keyed = keyed
keyed_map g (e ∷ es) stays keyed = (keyed.0 ∙ sym (stays e.1), keyed_map g es stays keyed.1)
