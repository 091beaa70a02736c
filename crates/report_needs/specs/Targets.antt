-- The targets that programs attach to by the names of their sections (libbpf's `find_kernel_btf_id`
-- in tools/lib/bpf/libbpf.c). libbpf takes each beginning of `vmlinux` before a colon, even the
-- empty one, for the kernel. Here it is the name of a module.
use Rattle.std.specs.Prelude.{ℕ, ◌==◌, ◌||◌, Bool, List, [], ◌∷◌, ◌++◌, length, Option, None, Some, bytes_eq, codes, option_and_then, if◌then◌else◌}
use Rattle.std.specs.List.{after_first, before_first, position_or_len}
use Rattle.std.specs.Option.{option_map}
use Rattle.btf_records.specs.declared.kind.BtfKind.{BtfKind}
use Rattle.btf_records.specs.declared.kind.BtfKind.TheVariants as kinds
use Rattle.btf_tables.specs.Tables.{Table}
use Rattle.program_kinds.specs.ProgramSection.{is_slash}
use Rattle.program_kinds.specs.declared.program_section.ProgramSection.{ProgramSection}
use Rattle.program_kinds.specs.declared.program_section.ProgramSection.TheVariants as programs
use Rattle.report_needs.specs.Records.{first_named}

-- A record of the kernel's types, by its kind and by its name, which is a prefix and the name in
-- the section.
pub record Target : Type 0 where
  pub prefix : List ℕ
  pub name : List ℕ
  pub kind : BtfKind

-- Whether no module has records of the target's form: hooks of LSM (`bpf_lsm_`) and functions of
-- iterators (`bpf_iter_`). Modules have other functions, and tracepoints.
abbrev pub is_built_in : Target → Bool
is_built_in target =
    bytes_eq target.prefix (codes "bpf_lsm_") || bytes_eq target.prefix (codes "bpf_iter_")

-- The prefix and the kind of record, for the kinds of programs that attach by name.
abbrev pub target_form : ProgramSection → Option (List ℕ × BtfKind)
target_form (programs.FEntry sleepable) = Some ([], kinds.Func)
target_form (programs.FExit sleepable) = Some ([], kinds.Func)
target_form (programs.Lsm sleepable) = Some (codes "bpf_lsm_", kinds.Func)
target_form programs.LsmCgroup = Some (codes "bpf_lsm_", kinds.Func)
target_form (programs.Iter sleepable) = Some (codes "bpf_iter_", kinds.Func)
target_form programs.BtfTracePoint = Some (codes "btf_trace_", kinds.Typedef)
target_form _ = None

-- A text that isn't empty.
abbrev pub where_any : List ℕ → Option (List ℕ)
where_any [] = None
where_any (byte ∷ bytes) = Some (byte ∷ bytes)

abbrev pub is_colon : ℕ → Bool
is_colon byte = byte == 58

abbrev pub has_no_colon : List ℕ → Bool
has_no_colon text = position_or_len is_colon text == length text

-- The name of one of the kernel's own records. A module's name may stand before a colon: `vmlinux`
-- is the kernel itself, and the records of another module aren't in the kernel's types.
abbrev pub own_name : List ℕ → Option (List ℕ)
own_name text =
    if has_no_colon text then where_any text
    else (if bytes_eq (before_first is_colon text) (codes "vmlinux")
    then where_any (after_first is_colon text)
    else None)

-- The name in a section, which stands after its first slash.
abbrev pub name_in : List ℕ → Option (List ℕ)
name_in section = own_name (after_first is_slash section)

-- The record that programs attach to, if it is one of the kernel's own.
abbrev pub attach_target : ProgramSection → List ℕ → Option Target
attach_target kind section =
    option_and_then (λ form.
    option_map (λ name. record { prefix = form.0; name = name; kind = form.1 }) (name_in section))
    (target_form kind)

-- The id of the kernel's first record of the kind and the name.
abbrev pub find_target : Table → Target → Option ℕ
find_target kernel target = first_named kernel target.kind (target.prefix ++ target.name)
