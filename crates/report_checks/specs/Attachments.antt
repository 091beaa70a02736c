-- What programs are attached to once they are loaded, by the names of their sections.
use Rattle.std.specs.Prelude.{ℕ, ◌==◌, ◌&&◌, ◌++◌, Bool, false, not, length, List, Option, None, option_and_then, bytes_eq, codes, if◌then◌else◌, is_some}
use Rattle.std.specs.List.{after_first, before_first, position_or_len}
use Rattle.std.specs.Option.{option_map, option_map_or}
use Rattle.btf_records.specs.declared.kind.BtfKind.{BtfKind}
use Rattle.btf_records.specs.declared.kind.BtfKind.TheVariants as kinds
use Rattle.btf_tables.specs.Tables.{Table}
use Rattle.program_kinds.specs.ProgramSection.{is_slash}
use Rattle.program_kinds.specs.declared.program_section.ProgramSection.{ProgramSection}
use Rattle.program_kinds.specs.declared.program_section.ProgramSection.TheVariants as programs
use Rattle.report_checks.specs.declared.attachments.Attachment.{Attachment}
use Rattle.report_checks.specs.declared.attachments.Attachment.TheVariants.{Found, NotNamed, Unknown}
use Rattle.report_needs.specs.Records.{first_named}
use Rattle.report_needs.specs.Targets.{where_any}

abbrev pub is_plus : ℕ → Bool
is_plus byte = byte == 43

-- The function in the section of a probe. An offset in it may follow after a plus.
abbrev pub probe_name : List ℕ → Option (List ℕ)
probe_name section = where_any (before_first is_plus (after_first is_slash section))

-- The name after the first slash.
abbrev pub name_behind : List ℕ → Option (List ℕ)
name_behind section = where_any (after_first is_slash section)

-- The tracepoint in a section with a category and a name.
abbrev pub event_name : List ℕ → Option (List ℕ)
event_name section = option_and_then name_behind (name_behind section)

-- The kernel has a typedef for each of its tracepoints.
abbrev pub trace_record : List ℕ → List ℕ
trace_record name = codes "btf_trace_" ++ name

-- The name of the record that tells of what a program is attached to.
abbrev pub attached_record : ProgramSection → List ℕ → Option (List ℕ)
attached_record programs.KProbe section = probe_name section
attached_record programs.KRetProbe section = probe_name section
attached_record programs.RawTracePoint section = option_map trace_record (name_behind section)
attached_record programs.TracePoint section = option_map trace_record (event_name section)
attached_record _ section = None

abbrev pub has_slash : List ℕ → Bool
has_slash text = not (position_or_len is_slash text == length text)

-- Whether the kernel's types have a record. A module may have one that isn't there.
abbrev pub record_attachment : Table → BtfKind → List ℕ → Attachment
record_attachment kernel kind name =
    if is_some (first_named kernel kind name) then Found else Unknown

-- Whether the piece of a section's name after its first slash is this one, and a slash follows.
abbrev pub section_has : List ℕ → List ℕ → Bool
section_has section piece =
    has_slash (after_first is_slash section)
    && bytes_eq (before_first is_slash (after_first is_slash section)) piece

-- Whether a section names a tracepoint of system calls. The kernel has no typedefs for these.
abbrev pub is_system_call : ProgramSection → List ℕ → Bool
is_system_call programs.TracePoint section = section_has section (codes "syscalls")
is_system_call _ section = false

-- The kind of the record that tells of what programs of a kind are attached to.
abbrev pub record_kind : ProgramSection → BtfKind
record_kind programs.KProbe = kinds.Func
record_kind programs.KRetProbe = kinds.Func
record_kind _ = kinds.Typedef

-- Whether the kernel has what a program of a kind is attached to by its section's name.
abbrev pub attachment_of : Table → ProgramSection → List ℕ → Attachment
attachment_of kernel kind section =
    if is_system_call kind section then Unknown
    else option_map_or (record_attachment kernel (record_kind kind)) (attached_record kind section)
    NotNamed
