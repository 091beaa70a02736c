-- A stretch of a list: the elements that pass a test.
use Rattle.std.proofs.Common.{◌≡◌, ℕ, zero, suc, ◌+◌, ◌<◌, ◌≤◌, Bool, true, false, List, [], ◌∷◌, length, get_or, take, drop, ap, sym, refl, arith}
use Rattle.std.specs.Prelude.{filter}

kept_front : {X : Type 0} (p : X → Bool) (xs : List X) (len : ℕ) → ((k : ℕ) (d : X) → k < len → k < length xs → p (get_or xs k d) ≡ true) → ((k : ℕ) (d : X) → len ≤ k → k < length xs → p (get_or xs k d) ≡ false) → filter p xs ≡ take len xs
kept_front p [] zero here after = refl
kept_front p [] (suc len) here after = refl
kept_front p (x ∷ xs) zero here after = rw (after 0 x (omega arith) (omega arith)) (kept_front p xs zero (λ k d h l. absurd (omega arith)) (λ k d h l. after (suc k) d (omega arith) (omega arith)))
kept_front p (x ∷ xs) (suc len) here after = rw (here 0 x (omega arith) (omega arith)) (ap (λ ys. x ∷ ys) (kept_front p xs len (λ k d h l. here (suc k) d (omega arith) (omega arith)) (λ k d h l. after (suc k) d (omega arith) (omega arith))))

-- The elements that pass are a number of elements from an index on.
pub kept_stretch : {X : Type 0} (p : X → Bool) (xs : List X) (begin len : ℕ) → ((k : ℕ) (d : X) → k < begin → k < length xs → p (get_or xs k d) ≡ false) → ((k : ℕ) (d : X) → begin ≤ k → k < begin + len → k < length xs → p (get_or xs k d) ≡ true) → ((k : ℕ) (d : X) → begin + len ≤ k → k < length xs → p (get_or xs k d) ≡ false) → take len (drop begin xs) ≡ filter p xs
kept_stretch p [] zero zero before here after = refl
kept_stretch p [] (suc begin) zero before here after = refl
kept_stretch p [] zero (suc len) before here after = refl
kept_stretch p [] (suc begin) (suc len) before here after = refl
kept_stretch p (x ∷ xs) zero len before here after = sym (kept_front p (x ∷ xs) len (λ k d h l. here k d (omega arith) (omega arith) l) (λ k d h l. after k d (omega arith) l))
kept_stretch p (x ∷ xs) (suc begin) len before here after = rw (before 0 x (omega arith) (omega arith)) (kept_stretch p xs begin len (λ k d h l. before (suc k) d (omega arith) (omega arith)) (λ k d h m l. here (suc k) d (omega arith) (omega arith) (omega arith)) (λ k d h l. after (suc k) d (omega arith) (omega arith)))
