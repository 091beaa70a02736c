-- Pieces between spaces.
use Rattle.std.proofs.Common.{◌≡◌, ℕ, zero, suc, ◌+◌, ◌-◌, ◌<◌, cond, true, false, ◌⊎◌, inl, inr, Bool, List, [], ◌∷◌, ◌++◌, length, take, drop, refl, ap, sym, ◌∙◌, arith, Option, None, Some, add-one}
use Rattle.std.specs.Prelude.{◌==◌, slice_index}
use Rattle.std.proofs.Math.Seq.{drop-cons}
use Rattle.std.proofs.lemmas.Bool.Decides.{nat_tests}
use Rattle.std.proofs.lemmas.List.{take-append-drop, take_rest}
use Rattle.plan_lines.specs.LineReading.{only_word}
use Rattle.plan_lines.specs.WordReading.{Lacks, pieces_of, onto_first}

pub bool_cases : (b : Bool) → (b ≡ true) ⊎ (b ≡ false)
bool_cases true = inl refl
bool_cases false = inr refl

pub not_eq : (m n : ℕ) → (m ≡ n → ⊥) → (m == n) ≡ false
not_eq m n h = grind (arith, nat_tests)

-- A prefix put before the result of a reader.
abbrev pub before : List ℕ → Option (List ℕ) → Option (List ℕ)
before front None = None
before front (Some xs) = Some (front ++ xs)

-- No byte before index `n` is `b`.
pub lacks_before : (b : ℕ) (xs : List ℕ) (n : ℕ) → ((k : ℕ) → k < n → (slice_index xs k == b) ≡ true → ⊥) → Lacks b (take n xs)
lacks_before b xs zero none = tt
lacks_before b [] (suc n) none = tt
lacks_before b (x ∷ xs) (suc n) none =
    (λ e. none 0 (omega arith) (same x b e), lacks_before b xs n (λ k below. none (suc k) (omega arith)))
  where
    same : (m n : ℕ) → m ≡ n → (m == n) ≡ true
    same m n e = grind (arith, nat_tests)

pub split_at : (b : ℕ) (xs : List ℕ) (n : ℕ) → n < length xs → (slice_index xs n == b) ≡ true → xs ≡ take n xs ++ b ∷ take (length xs - (n + 1)) (drop (n + 1) xs)
split_at b xs n within is =
    rw (take_rest xs (n + 1), add-one)
    (sym (take-append-drop n xs)
    ∙ ap (λ rest. take n xs ++ rest) (drop-cons xs n 0 within ∙ ap (λ y. y ∷ drop (suc n) xs) (same (slice_index xs n) b is)))
  where
    same : (m n : ℕ) → (m == n) ≡ true → m ≡ n
    same m n e = grind (arith, nat_tests)

pub piece_whole : (w : List ℕ) → Lacks 32 w → pieces_of w ≡ w ∷ []
piece_whole [] p = refl
piece_whole (x ∷ w) p = rw (not_eq x 32 p.0) (ap (onto_first x) (piece_whole w p.1))

pub piece_first : (line word rest : List ℕ) → line ≡ word ++ 32 ∷ rest → Lacks 32 word → pieces_of line ≡ word ∷ pieces_of rest
piece_first line [] rest e p = ap pieces_of e
piece_first line (x ∷ word) rest e p = ap pieces_of e ∙ rw (not_eq x 32 p.0) (ap (onto_first x) (piece_first (word ++ 32 ∷ rest) word rest refl p.1))

pub some_piece : (t : List ℕ) → (p : List ℕ) × (ps : List (List ℕ)) × (pieces_of t ≡ p ∷ ps)
some_piece [] = ([], [], refl)
some_piece (x ∷ xs) = elim (x == 32) as (λ b. (p : List ℕ) × (ps : List (List ℕ)) × (cond b ([] ∷ pieces_of xs) (onto_first x (pieces_of xs)) ≡ p ∷ ps)) [
  | true ↦ ([], pieces_of xs, refl)
  | false ↦ let k = some_piece xs in (x ∷ k.0, k.1, ap (onto_first x) k.2)
]

-- There is always a piece.
pub pieces_none : (t : List ℕ) → pieces_of t ≡ [] → ⊥
pieces_none t e = let k = some_piece t in let h : [] ≡ k.0 ∷ k.1 = sym e ∙ k.2 in cc

-- Two pieces aren't an only word.
pub no_only_word : (word rest : List ℕ) → only_word (word ∷ pieces_of rest) ≡ None
no_only_word word rest = let k = some_piece rest in ap (λ ps. only_word (word ∷ ps)) k.2
