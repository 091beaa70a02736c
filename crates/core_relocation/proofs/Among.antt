-- A relocation among functions, one after the other.
use Rattle.std.proofs.Common.{arith, ◌≡◌, ℕ, zero, suc, ◌+◌, ◌<◌, true, List, [], ◌∷◌, ◌++◌, length, map, take, drop, get_or, inl, inr, refl, sym, ap, ◌∙◌, subst}
use Rattle.std.proofs.lemmas.List.{take_more}
use Rattle.object_parts.specs.Content.{FunctionContent}
use Rattle.core_relocation.specs.Walks.{AllTake, IsRefusedAmong, IsRefusedBy, after_relocation, is_in, takes}
use Rattle.relocation_errors.specs.declared.type_relocations.BtfRelocationCause.{BtfRelocationCause}
use Rattle.core_relocation.specs.declared.placed_relocation.PlacedRelocation.{PlacedRelocation}

-- The elements from an index on are still the old ones.
still_by : {X : Type 0} (f : X → X) (d : X) (xs : List X) (i : ℕ) → i < length xs → get_or (map f (take i xs) ++ drop i xs) i d ≡ get_or xs i d
still_by f d [] i lt = absurd (omega (arith, lt))
still_by f d (x ∷ xs) zero lt = refl
still_by f d (x ∷ xs) (suc i) lt = still_by f d xs i (omega (arith, lt))

pub still : {X : Type 0} (f : X → X) (d : X) (xs ys : List X) (i : ℕ) → i < length xs → ys ≡ map f (take i xs) ++ drop i xs → get_or ys i d ≡ get_or xs i d
still f d xs ys i lt is = ap (λ l. get_or l i d) is ∙ still_by f d xs i lt

took_one : (p : PlacedRelocation) (fs : List FunctionContent) (f : FunctionContent) → AllTake p fs → takes p f ≡ true → AllTake p (fs ++ (f ∷ []))
took_one p [] f all one = (one, tt)
took_one p (g ∷ fs) f all one = (all.0, took_one p fs f all.1 one)

pub took_more : (p : PlacedRelocation) (fs now : List FunctionContent) (i : ℕ) (d : FunctionContent) → i < length fs → now ≡ map (after_relocation p) (take i fs) ++ drop i fs → AllTake p (take i fs) → takes p (get_or now i d) ≡ true → AllTake p (take (i + 1) fs)
took_more p fs now i d lt is all one =
    subst (AllTake p) (sym (take_more fs i d lt))
    (took_one p (take i fs) (get_or fs i d) all (ap (takes p) (sym (still (after_relocation p) d fs now i lt is)) ∙ one))

refused_at : (p : PlacedRelocation) (fs : List FunctionContent) (i : ℕ) (d : FunctionContent) (c : BtfRelocationCause) → i < length fs → (is_in p (get_or fs i d) ≡ true) × IsRefusedBy p (get_or fs i d) c → IsRefusedAmong p fs c
refused_at p [] i d c lt refused = absurd (omega (arith, lt))
refused_at p (f ∷ fs) zero d c lt refused = inl refused
refused_at p (f ∷ fs) (suc i) d c lt refused = inr (refused_at p fs i d c (omega (arith, lt)) refused)

abbrev Refuses : PlacedRelocation → BtfRelocationCause → FunctionContent → Type 0
Refuses p c f = (is_in p f ≡ true) × IsRefusedBy p f c

pub refused_here : (p : PlacedRelocation) (fs now : List FunctionContent) (i : ℕ) (d : FunctionContent) (c : BtfRelocationCause) → i < length fs → now ≡ map (after_relocation p) (take i fs) ++ drop i fs → (is_in p (get_or now i d) ≡ true) × IsRefusedBy p (get_or now i d) c → IsRefusedAmong p fs c
refused_here p fs now i d c lt is refused =
    refused_at p fs i d c lt (subst (Refuses p c) (still (after_relocation p) d fs now i lt is) refused)
