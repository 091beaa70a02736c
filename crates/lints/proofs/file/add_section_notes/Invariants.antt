use Rattle.std.proofs.Common.{◌≡◌, ◌++◌, flat_map, map, take}
use Rattle.lints.specs.Notes.{note_content, section_notes}
use Rattle.lints.proofs.file.add_section_notes.Given as goal

abbrev pub invariant-loop-section : goal.invariant-loop-section
invariant-loop-section l =
    map note_content l.notes.items ≡ map note_content l.fn.notes.items ++ flat_map (section_notes l.file) (take l.section-index l.sections)
