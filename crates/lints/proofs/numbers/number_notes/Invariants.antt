use Rattle.std.proofs.Common.{◌≡◌, ℕ, List, ◌++◌, map}
use Rattle.object_maps.specs.Maps.{shown}
use Rattle.lints.specs.Firsts.{AreFirsts}
use Rattle.lints.specs.Notes.{note_content, number_notes, numbers_of, shared_notes}
use Rattle.lints.proofs.numbers.number_notes.Given as goal

abbrev pub invariant-loop-name : goal.invariant-loop-name
invariant-loop-name l =
    (numbers : List (ℕ × List ℕ))
    × AreFirsts numbers l.firsts.entries
    × (map note_content l.notes.items ++ shared_notes numbers (numbers_of l.settings (shown l.name-iterator)) ≡ number_notes l.settings l.maps)
