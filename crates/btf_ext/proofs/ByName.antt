-- The last of some numbers that passes a test.
use Rattle.std.proofs.Common.{◌≡◌, ℕ, ◌-◌, ◌<◌, Bool, true, false, cond, List, [], ◌∷◌, length, reverse, Option, Some, sym, subst, arith}
use Rattle.std.specs.Prelude.{All, IfSome, find}
use Rattle.std.proofs.lemmas.List.{get_or-reverse, length-reverse}
use Rattle.std.proofs.lemmas.List.Elements.{All-head, All-tail}

found-by : (P : ℕ → Type 0) (test : Bool) (x : ℕ) (rest : Option ℕ) → P x → IfSome rest P → IfSome (cond test (Some x) rest) P
found-by P true x rest here later = here
found-by P false x rest here later = later

found_in : (P : ℕ → Type 0) (p : ℕ → Bool) (xs : List ℕ) → All P xs → IfSome (find p xs) P
found_in P p [] all = tt
found_in P p (x ∷ xs) all = found-by P (p x) x (find p xs) (All-head P x xs all) (found_in P p xs (All-tail P x xs all))

all_reversed : (P : ℕ → Type 0) (xs : List ℕ) → All P xs → All P (reverse xs)
all_reversed P xs all = λ k d lt.
    let within : k < length xs = omega (arith, length-reverse xs) in
    let inside : length xs - 1 - k < length xs = omega arith in
    subst P (sym (get_or-reverse xs k d within)) (all (length xs - 1 - k) d inside)

-- What holds of each holds of the last that is found.
pub last_in : (P : ℕ → Type 0) (p : ℕ → Bool) (xs : List ℕ) (found : Option ℕ) → found ≡ find p (reverse xs) → All P xs → IfSome found P
last_in P p xs found is all = subst (λ o. IfSome o P) (sym is) (found_in P p (reverse xs) (all_reversed P xs all))
