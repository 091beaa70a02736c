-- The source lines of calls.
use Rattle.std.specs.Prelude.{◌≡◌, Option, None, Some}
use Rattle.std.specs.Option.{IsSomeAnd}
use Rattle.btf_ext.specs.declared.record.bpf_line_info.{bpf_line_info}
use Rattle.btf_tables.specs.Tables.{Table}
use Rattle.report_checks.specs.Sources.{IsSource}
use Rattle.report_checks.specs.declared.sources.SourceLine.{SourceLine}

-- The source line of a line record, in the object's own types; none without types or a record.
abbrev pub IsSourceOf : Option Table → Option bpf_line_info → Option SourceLine → Type 0
IsSourceOf (Some types) (Some line) source = IsSomeAnd source (IsSource types line)
IsSourceOf (Some types) None source = source ≡ None
IsSourceOf None line source = source ≡ None
