use Rattle.std.proofs.Common.{◌≡◌, length, None}
use Rattle.plan_lines.specs.LineReading.{places_by}
use Rattle.plan_lines.proofs.Cut.{before}
use Rattle.plan_lines.proofs.values.places.Given as goal

abbrev pub invariant-loop-word : goal.invariant-loop-word
invariant-loop-word l = before l.places.items (places_by l.last l.words) ≡ places_by None l.fn.words

abbrev pub decreases-loop-word : goal.decreases-loop-word
decreases-loop-word l = length l.words
