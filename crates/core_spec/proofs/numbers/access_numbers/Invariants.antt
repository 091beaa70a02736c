use Rattle.std.proofs.Common.{◌≡◌, ◌++◌, length, List, ℕ}
use Rattle.std.specs.Option.{option_map}
use denote.Text.{Utf8}
use denote.Shadow.{shadow}
use Rattle.core_spec.specs.AccessStrings.{access_numbers, numbers_in, pieces}
use Rattle.core_spec.proofs.numbers.access_numbers.Given as goal

abbrev pub invariant-loop-piece : goal.invariant-loop-piece
invariant-loop-piece l = shadow (Utf8 l.rest) × (option_map (λ (ns : List ℕ). l.numbers.items ++ ns) (numbers_in (pieces l.rest)) ≡ access_numbers l.text)

abbrev pub decreases-loop-piece : goal.decreases-loop-piece
decreases-loop-piece l = length l.rest
