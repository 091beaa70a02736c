use Rattle.std.proofs.Common.{◌≡◌, ◌+◌, suc, ℕ, Bool, true, false, cond, not, List, [], ◌∷◌, length, refl, arith, lit<}
use Rattle.std.specs.Prelude.{◌||◌}
use Rattle.std.specs.List.{list_any, position_or_len}
use Rattle.program_kinds.specs.ProgramSection.{is_slash}
use Rattle.program_kinds.proofs.program_section.pieces.Goals as goal

step : (b later : Bool) (n m : ℕ) → cond (not b) (1 + n) 0 ≡ suc m → (n ≡ m → later ≡ false) → (b || later) ≡ false
step true later n m h k = absurd (omega arith)
step false later n m h k = k (omega arith)

-- If the index of the first element that passes is the length of the list, no element passes.
none_passes : (p : ℕ → Bool) (xs : List ℕ) → position_or_len p xs ≡ length xs → list_any p xs ≡ false
none_passes p [] h = refl
none_passes p (x ∷ xs) h = step (p x) (list_any p xs) (position_or_len p xs) (length xs) h (none_passes p xs)

pub returns-in-None-clause-second : goal.returns-in-None-clause-second
returns-in-None-clause-second c =
    let absent = c.in-None.ensures.byte (lit< tt) (λ w o found. found) in
    rw (none_passes is_slash c.args.section.now absent) refl
