-- Calls of older helpers in place of newer ones.
use Rattle.std.specs.Prelude.{◌≡◌, ℕ, List, map, Bool, true, false}
use Rattle.object_parts.specs.Content.{FunctionContent, has_newer_helper, with_older_helpers}

-- The functions for a kernel that has the newer helpers, or for one that lacks them.
abbrev pub for_kernel : Bool → List ((ℕ × ℕ) × FunctionContent) → List ((ℕ × ℕ) × FunctionContent)
for_kernel true functions = functions
for_kernel false functions = map (λ e. (e.0, with_older_helpers e.1)) functions

-- The functions are those for a kernel with the answer that was given.
pub record IsAnswered (Says : Bool → Type 0) (old new : List ((ℕ × ℕ) × FunctionContent))
    : Type 0 where
  pub answer : Bool
  pub said : Says answer
  pub is : new ≡ for_kernel answer old

abbrev pub IsSanitizedIf : Bool
    → (Bool → Type 0)
    → List ((ℕ × ℕ) × FunctionContent)
    → List ((ℕ × ℕ) × FunctionContent)
    → Type 0
IsSanitizedIf false Says old new = new ≡ old
IsSanitizedIf true Says old new = IsAnswered Says old new

-- The kernel is asked iff some slot calls a newer helper.
abbrev pub IsSanitized : (Bool → Type 0)
    → List ((ℕ × ℕ) × FunctionContent)
    → List ((ℕ × ℕ) × FunctionContent)
    → Type 0
IsSanitized Says old new = IsSanitizedIf (has_newer_helper old) Says old new
