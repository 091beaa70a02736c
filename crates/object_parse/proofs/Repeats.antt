-- Repeated addresses in growing lists.
use Rattle.std.proofs.Common.{◌≡◌, ℕ, ◌+◌, ◌<◌, Bool, true, false, List, [], ◌∷◌, ◌++◌, length, take, get_or, map, refl, sym, ap, ◌∙◌, cond, ◌||◌, ◌&&◌, ◌==◌, append-nil, take-append-drop, drop}
use Rattle.std.proofs.Math.Bool.{and-false, or-false}
use Rattle.std.proofs.lemmas.Bool.{eqb-true, eq-eqb}
use Rattle.std.specs.Prelude.{filter}
use Rattle.std.specs.List.{list_any}
use Rattle.std.proofs.lemmas.List.{take_more}
use Rattle.std.proofs.lemmas.List.Folds.{list_any-append}
use Rattle.elf64.specs.Symbols.{Symbol}
use Rattle.object_parse.specs.Faults.{repeats, AreDistinct}
use Rattle.object_parse.specs.TextSections.{function_addresses, is_text_definition}

kept-append : (keep : Bool) (x : Symbol) (xs ys : List Symbol) → map (λ s. s.address) (cond keep (x ∷ (filter is_text_definition xs)) (filter is_text_definition xs)) ++ function_addresses ys ≡ cond keep (x.address ∷ (function_addresses xs ++ function_addresses ys)) (function_addresses xs ++ function_addresses ys)
kept-append true x xs ys = refl
kept-append false x xs ys = refl

kept-map : (keep : Bool) (x : Symbol) (xs : List Symbol) → map (λ s. s.address) (cond keep (x ∷ xs) xs) ≡ cond keep (x.address ∷ map (λ s. s.address) xs) (map (λ s. s.address) xs)
kept-map true x xs = refl
kept-map false x xs = refl

pub function_addresses-append : (xs ys : List Symbol) → function_addresses (xs ++ ys) ≡ function_addresses xs ++ function_addresses ys
function_addresses-append [] ys = refl
function_addresses-append (x ∷ xs) ys =
    kept-map (is_text_definition x) x (filter is_text_definition (xs ++ ys))
    ∙ ap (λ (rest : List ℕ). cond (is_text_definition x) (x.address ∷ rest) rest) (function_addresses-append xs ys)
    ∙ sym (kept-append (is_text_definition x) x xs ys)

-- The addresses of one more symbol.
pub function_addresses-more : (symbols : List Symbol) (i : ℕ) (symbol : Symbol) → i < length symbols → symbol ≡ get_or symbols i symbol → function_addresses (take (i + 1) symbols) ≡ function_addresses (take i symbols) ++ function_addresses (symbol ∷ [])
function_addresses-more symbols i symbol within is =
    ap function_addresses (take_more symbols i symbol within) ∙ function_addresses-append (take i symbols) (get_or symbols i symbol ∷ []) ∙ ap (λ s. function_addresses (take i symbols) ++ function_addresses (s ∷ [])) (sym is)

-- p, a, b: whether the element, one of the first list, or one of the second is the searched one.
regroup : (p a b r s : Bool) → ((p && (a || b)) || (r || ((a && b) || s))) ≡ (((p && a) || r) || (((p || a) && b) || s))
regroup true true b r s = refl
regroup true false true true s = refl
regroup true false true false s = refl
regroup true false false r s = refl
regroup false a b r s = refl

-- An address is repeated in two lists if it is repeated in one of them, or is in both.
pub repeats-append : (address : ℕ) (xs ys : List ℕ) → repeats address (xs ++ ys) ≡ (repeats address xs || ((list_any (λ b. b == address) xs && list_any (λ b. b == address) ys) || repeats address ys))
repeats-append address [] ys = refl
repeats-append address (x ∷ xs) ys =
    ap (λ v. ((x == address) && v) || repeats address (xs ++ ys)) (list_any-append (λ b. b == address) xs ys)
    ∙ ap (λ v. ((x == address) && (list_any (λ b. b == address) xs || list_any (λ b. b == address) ys)) || v) (repeats-append address xs ys)
    ∙ regroup (x == address) (list_any (λ b. b == address) xs) (list_any (λ b. b == address) ys) (repeats address xs) (repeats address ys)

-- One more address that differs from those before.
none-more : (before : List ℕ) (address a : ℕ) (same : Bool) → (a == address) ≡ same → list_any (λ b. b == a) before ≡ false → repeats address before ≡ false → (repeats address before || ((list_any (λ b. b == address) before && (same || false)) || ((same && false) || false))) ≡ false
none-more before address a true is absent none =
    let equal : a ≡ address = eqb-true a address is in
    rw (none, ← equal, absent) refl
none-more before address a false is absent none = rw (none, and-false (list_any (λ b. b == address) before)) refl

distinct-one : (before : List ℕ) (symbol : Symbol) (kept : Bool) → (held : ℕ → Bool) → ((a : ℕ) → held a ≡ list_any (λ b. b == a) before) → false ≡ list_any held (map (λ s. s.address) (cond kept (symbol ∷ []) [])) → (address : ℕ) → repeats address before ≡ false → repeats address (before ++ map (λ s. s.address) (cond kept (symbol ∷ []) [])) ≡ false
distinct-one before symbol true held seen answer address none =
    repeats-append address before (symbol.address ∷ [])
    ∙ none-more before address symbol.address (symbol.address == address) refl (sym (seen symbol.address) ∙ sym (or-false (held symbol.address)) ∙ sym answer) none
distinct-one before symbol false held seen answer address none = ap (repeats address) (append-nil before) ∙ none

-- The addresses stay distinct if the set didn't hold the new one.
pub distinct-more : (symbols : List Symbol) (i : ℕ) (symbol : Symbol) (held : ℕ → Bool) → i < length symbols → symbol ≡ get_or symbols i symbol → ((a : ℕ) → held a ≡ list_any (λ b. b == a) (function_addresses (take i symbols))) → AreDistinct (function_addresses (take i symbols)) → false ≡ list_any held (function_addresses (symbol ∷ [])) → AreDistinct (function_addresses (take (i + 1) symbols))
distinct-more symbols i symbol held within is seen distinct answer = record {
  none = λ address.
      ap (repeats address) (function_addresses-more symbols i symbol within is)
      ∙ distinct-one (function_addresses (take i symbols)) symbol (is_text_definition symbol) held seen answer address (distinct.none address);
}

-- The set holds the addresses of one more symbol.
pub seen-more : (symbols : List Symbol) (i : ℕ) (symbol : Symbol) (held later : ℕ → Bool) → i < length symbols → symbol ≡ get_or symbols i symbol → ((a : ℕ) → held a ≡ list_any (λ b. b == a) (function_addresses (take i symbols))) → ((a : ℕ) → later a ≡ (held a || list_any (λ b. b == a) (function_addresses (symbol ∷ [])))) → (a : ℕ) → later a ≡ list_any (λ b. b == a) (function_addresses (take (i + 1) symbols))
seen-more symbols i symbol held later within is seen added a =
    added a
    ∙ ap (λ v. v || list_any (λ b. b == a) (function_addresses (symbol ∷ []))) (seen a)
    ∙ sym (list_any-append (λ b. b == a) (function_addresses (take i symbols)) (function_addresses (symbol ∷ [])))
    ∙ ap (list_any (λ b. b == a)) (sym (function_addresses-more symbols i symbol within is))

twice : (repeated held same : Bool) → held ≡ true → same ≡ true → (rest : Bool) → (repeated || ((held && (same || false)) || rest)) ≡ true
twice true true true h k rest = refl
twice false true true h k rest = refl
twice repeated false same h k rest = absurd (cc)
twice repeated true false h k rest = absurd (cc)

repeated-one : (before : List ℕ) (symbol : Symbol) (kept : Bool) (held : ℕ → Bool) → ((a : ℕ) → held a ≡ list_any (λ b. b == a) before) → true ≡ list_any held (map (λ s. s.address) (cond kept (symbol ∷ []) [])) → repeats symbol.address (before ++ map (λ s. s.address) (cond kept (symbol ∷ []) [])) ≡ true
repeated-one before symbol true held seen answer =
    repeats-append symbol.address before (symbol.address ∷ [])
    ∙ twice (repeats symbol.address before) (list_any (λ b. b == symbol.address) before) (symbol.address == symbol.address) (sym (seen symbol.address) ∙ sym (or-false (held symbol.address)) ∙ sym answer) (eq-eqb symbol.address symbol.address refl) _
repeated-one before symbol false held seen answer = absurd (cc)

or-first : (a b : Bool) → a ≡ true → (a || b) ≡ true
or-first true b h = refl
or-first false b h = absurd (cc)

-- An address that the set held already is repeated.
pub repeated-more : (symbols : List Symbol) (i : ℕ) (symbol : Symbol) (held : ℕ → Bool) → i < length symbols → symbol ≡ get_or symbols i symbol → ((a : ℕ) → held a ≡ list_any (λ b. b == a) (function_addresses (take i symbols))) → true ≡ list_any held (function_addresses (symbol ∷ [])) → repeats symbol.address (function_addresses symbols) ≡ true
repeated-more symbols i symbol held within is seen answer =
    let front : repeats symbol.address (function_addresses (take (i + 1) symbols)) ≡ true =
    ap (repeats symbol.address) (function_addresses-more symbols i symbol within is)
    ∙ repeated-one (function_addresses (take i symbols)) symbol (is_text_definition symbol) held seen answer
    in
    ap (λ all. repeats symbol.address (function_addresses all)) (sym (take-append-drop (i + 1) symbols))
    ∙ ap (repeats symbol.address) (function_addresses-append (take (i + 1) symbols) (drop (i + 1) symbols))
    ∙ repeats-append symbol.address (function_addresses (take (i + 1) symbols)) (function_addresses (drop (i + 1) symbols))
    ∙ or-first _ _ front
