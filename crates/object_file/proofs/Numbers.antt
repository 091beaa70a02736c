-- Numbers by name, after one more was entered.
use Rattle.std.proofs.Common.{◌≡◌, ℕ, cond, List, Option, Some, ap, ◌∙◌}
use Rattle.std.specs.Prelude.{bytes_eq}
use Rattle.std.specs.Borrow.{Bor}
use Rattle.std.specs.Cmp.Lexicographic.{slice_cmp}
use Rattle.std.specs.Ordering.{is_eq, nat_cmp}
use Rattle.std.proofs.lemmas.Map.Text.{is_eq-slice_cmp}
use Rattle.object_file.specs.Named.{number_under}

-- Each name has the number that is expected of it.
pub record HasNumbers (expected : List ℕ → Option ℕ) (numbers : List (Bor (List ℕ) × ℕ)) : Type 0 where
  pub at : (name : List ℕ) → number_under numbers name ≡ expected name

-- A look-up after the entry finds the new number by the bytes of its name.
pub one_entered : (old new : List (Bor (List ℕ) × ℕ)) (name q : List ℕ) (number : ℕ) → number_under new q ≡ cond (is_eq (slice_cmp nat_cmp name q)) (Some number) (number_under old q) → number_under new q ≡ cond (bytes_eq name q) (Some number) (number_under old q)
one_entered old new name q number entered = entered ∙ ap (λ b. cond b (Some number) (number_under old q)) (is_eq-slice_cmp name q)
