-- The words of its context that a program can read. They are the arguments of the kernel's function or
-- tracepoint that it is attached to (`btf_ctx_access` in kernel/bpf/btf.c).
use Rattle.std.specs.Prelude.{ℕ, ◌==◌, ◌&&◌, ◌||◌, ◌+◌, ◌-◌, nat_le, nat_lt, Bool, false, not, Option, None, Some, Result, Ok, Err, option_and_then, unwrap_or, if◌then◌else◌}
use Rattle.std.specs.List.{list_any}
use Rattle.btf_encoding.specs.Records.{count_of}
use Rattle.btf_records.specs.Fields.{kind_of_type, params_of, type_of}
use Rattle.btf_records.specs.Kinds.{number_of}
use Rattle.btf_records.specs.declared.error.BtfError.{BtfError}
use Rattle.btf_records.specs.declared.item.BtfParam.{BtfParam}
use Rattle.btf_records.specs.declared.kind.BtfKind.{BtfKind}
use Rattle.btf_records.specs.declared.kind.BtfKind.TheVariants as kinds
use Rattle.btf_records.specs.declared.types.BtfType.{BtfType}
use Rattle.btf_tables.specs.Tables.{Table, type_by_id}
use Rattle.btf_tables.specs.TypeSizes.{type_size}
use Rattle.program_kinds.specs.declared.program_section.ProgramSection.{ProgramSection}
use Rattle.program_kinds.specs.declared.program_section.ProgramSection.TheVariants as programs
use Rattle.report_needs.specs.declared.needs.TargetNeed.{TargetNeed}
use Rattle.report_needs.specs.declared.needs.TargetNeed.TheVariants as target

abbrev pub is_kind : BtfKind → BtfType → Bool
is_kind kind t = number_of (kind_of_type t) == number_of kind

-- The record that a record refers to.
abbrev pub next_type : Table → BtfType → Option BtfType
next_type kernel t = option_and_then (type_by_id kernel) (type_of t)

-- The prototype of a function, and that of the pointer that a tracepoint's typedef names.
abbrev pub proto_of : Table → BtfType → Option BtfType
proto_of kernel t =
    if is_kind kinds.Typedef t then option_and_then (next_type kernel) (next_type kernel t)
    else next_type kernel t

abbrev pub fits_word : Result ℕ BtfError → Bool
fits_word (Ok size) = nat_lt 0 size && nat_le size 8
fits_word (Err e) = false

-- Whether an argument isn't known to have 1 to 8 bytes, as a last one without a type isn't, which stands
-- for any number of arguments.
abbrev pub is_wide : Table → BtfParam → Bool
is_wide kernel p = p.btf_type == 0 || not (fits_word (type_size kernel p.btf_type))

-- Whether the function of a prototype has a result.
abbrev pub has_result : BtfType → Bool
has_result t = not (unwrap_or (type_of t) 0 == 0)

abbrev pub with_result : Bool → ℕ → ℕ
with_result has count = if has then count + 1 else count

-- How many words a program of a kind can read, given those of the prototype and whether there is a
-- result. One that runs at the end of a function has the result too. A tracepoint's first argument isn't
-- handed over.
abbrev pub words_read : ProgramSection → Bool → ℕ → Option ℕ
words_read (programs.FEntry sleepable) has count = Some count
words_read (programs.Iter sleepable) has count = Some count
words_read (programs.FExit sleepable) has count = Some (with_result has count)
words_read (programs.Lsm sleepable) has count = Some (with_result has count)
words_read programs.LsmCgroup has count = Some (with_result has count)
words_read programs.BtfTracePoint has count = Some (count - 1)
words_read _ has count = None

-- The same by a prototype. It isn't known if one of the arguments may have more than one word.
abbrev pub proto_words : Table → ProgramSection → BtfType → Option ℕ
proto_words kernel kind t =
    if is_kind kinds.FuncProto t && not (list_any (is_wide kernel) (params_of t))
    then words_read kind (has_result t) (count_of t)
    else None

abbrev pub words_at : Table → ProgramSection → ℕ → Option ℕ
words_at kernel kind id =
    option_and_then (proto_words kernel kind)
    (option_and_then (proto_of kernel) (type_by_id kernel id))

-- How many words of its context a program can read, if its target is found and its kind is attached so.
abbrev pub context_words : Table → ProgramSection → TargetNeed → Option ℕ
context_words kernel kind (target.Found id) = words_at kernel kind id
context_words kernel kind _ = None
