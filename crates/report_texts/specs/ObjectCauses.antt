-- Objects that no kernel takes, by the headers of their files.
use Rattle.std.specs.Prelude.{ℕ, ◌==◌, Bool, true, false, List, not}
use Rattle.std.specs.List.{list_any}
use Rattle.lints.specs.Notes.{BigEndian, NoteContent, OtherMachine, header_notes}

-- Whether a note on a header is such a cause: a machine other than eBPF's (247), and numbers that are
-- big-endian. Old versions of LLVM write 0 as the machine, which loaders take.
abbrev pub is_cause : NoteContent → Bool
is_cause (OtherMachine machine) = not (machine == 0)
is_cause BigEndian = true
is_cause _ = false

abbrev pub is_never_taken : List ℕ → Bool
is_never_taken file = list_any is_cause (header_notes file)
