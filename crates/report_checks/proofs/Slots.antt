-- The slots below a count that pass a test, one slot after another.
use Rattle.std.proofs.Common.{◌≡◌, ℕ, ◌+◌, Bool, true, false, List, [], ◌∷◌, ◌++◌, filter, refl, sym, ◌∙◌, ap}
use Rattle.std.specs.List.{range_with_len}
use Rattle.std.proofs.lemmas.List.{append-nil}
use Rattle.report_checks.proofs.Harmful.{below_next}

kept : (p : ℕ → Bool) (n : ℕ) → p n ≡ true → filter p (n ∷ []) ≡ n ∷ []
kept p n is = rw is refl

dropped : (p : ℕ → Bool) (n : ℕ) → p n ≡ false → filter p (n ∷ []) ≡ []
dropped p n is = rw is refl

pub slot_passes : (p : ℕ → Bool) (n : ℕ) (before : List ℕ) → before ≡ filter p (range_with_len 0 n) → p n ≡ true → before ++ n ∷ [] ≡ filter p (range_with_len 0 (n + 1))
slot_passes p n before are is =
    ap (λ l. l ++ n ∷ []) are
    ∙ sym (below_next p n ∙ ap (λ l. filter p (range_with_len 0 n) ++ l) (kept p n is))

pub slot_fails : (p : ℕ → Bool) (n : ℕ) (before : List ℕ) → before ≡ filter p (range_with_len 0 n) → p n ≡ false → before ≡ filter p (range_with_len 0 (n + 1))
slot_fails p n before are isnt =
    are
    ∙ sym (below_next p n
    ∙ (ap (λ l. filter p (range_with_len 0 n) ++ l) (dropped p n isnt)
    ∙ append-nil (filter p (range_with_len 0 n))))
