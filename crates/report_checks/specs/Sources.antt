-- The lines of source files that slots come from.
use Rattle.std.specs.Prelude.{◌≡◌, ℕ, ◌/◌, ◌^◌, Bool, Option, None, filter, nat_le}
use Rattle.std.specs.List.{last_or}
use Rattle.std.specs.Option.{option_copied}
use Rattle.btf_ext.specs.declared.record.bpf_line_info.{bpf_line_info}
use Rattle.btf_tables.specs.Tables.{Table}
use Rattle.plan_text.specs.Content.{ProgramContent}
use Rattle.report_checks.specs.declared.sources.SourceLine.{SourceLine}
use Rattle.string_table.specs.Texts.{text_at}

abbrev pub is_before : ℕ → bpf_line_info → Bool
is_before slot r = nat_le r.insn_off slot

-- The last line record of a program at or before a slot.
abbrev pub line_record_at : ProgramContent → ℕ → Option bpf_line_info
line_record_at p slot = last_or None (filter (is_before slot) p.line_records)

-- The line of a record: the file's name and the line's text, if they can be read, and the line's
-- number, which is in the high 22 bits.
pub record IsSource (types : Table) (r : bpf_line_info) (source : SourceLine) : Type 0 where
  pub file : option_copied source.file ≡ text_at types.strings r.file_name_off
  pub line : source.line ≡ r.line_col / 2 ^ 10
  pub text : option_copied source.text ≡ text_at types.strings r.line_off
