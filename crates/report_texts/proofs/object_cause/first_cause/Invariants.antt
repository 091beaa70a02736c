use Rattle.std.proofs.Common.{◌≡◌, drop, map}
use Rattle.std.specs.List.{list_any}
use Rattle.lints.specs.Notes.{note_content}
use Rattle.report_texts.specs.ObjectCauses.{is_cause}
use Rattle.report_texts.proofs.object_cause.first_cause.Given as goal

abbrev pub invariant-loop-note : goal.invariant-loop-note
invariant-loop-note l =
    list_any is_cause (map note_content (drop l.note-index l.notes)) ≡ list_any is_cause (map note_content l.notes)
