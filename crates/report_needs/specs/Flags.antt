-- The flags with which programs are loaded (prog_flags of BPF_PROG_LOAD), and whether a kernel takes
-- them. Helpers tell the version of Linux.
use Rattle.std.specs.Prelude.{ℤ, pos, Bool, true, false, Option, None, Some}
use Rattle.std.specs.Option.{option_map}
use Rattle.btf_tables.specs.Tables.{Table}
use Rattle.program_kinds.specs.declared.program_section.ProgramSection.{ProgramSection}
use Rattle.program_kinds.specs.declared.program_section.ProgramSection.TheVariants as programs
use Rattle.report_needs.specs.Enums.{func_ids, helper_presence}
use Rattle.report_needs.specs.declared.enums.Presence.{Presence}
use Rattle.report_needs.specs.declared.enums.Presence.TheVariants.{Found, Missing, Unknown}

-- Two helpers. A kernel without the first doesn't take the flags of programs of a kind, and a kernel
-- with the second does. There are none for a program without flags.
--
-- BPF_F_SLEEPABLE came with Linux 5.10, as did helper 148 (bpf_copy_from_user). Iterators have it
-- since Linux 5.18 and probes of user functions since Linux 6.0. Helper 211 (bpf_cgrp_storage_delete)
-- came with Linux 6.2. BPF_F_XDP_HAS_FRAGS and helper 189 (bpf_xdp_load_bytes) came with Linux 5.18.
abbrev pub sleepable : Bool → ℤ → Option (ℤ × ℤ)
sleepable false since = None
sleepable true since = Some (pos 148, since)

abbrev pub frags : Bool → Option (ℤ × ℤ)
frags false = None
frags true = Some (pos 189, pos 189)

abbrev pub flag_helpers : ProgramSection → Option (ℤ × ℤ)
flag_helpers (programs.FEntry is_sleepable) = sleepable is_sleepable (pos 148)
flag_helpers (programs.FExit is_sleepable) = sleepable is_sleepable (pos 148)
flag_helpers (programs.Lsm is_sleepable) = sleepable is_sleepable (pos 148)
flag_helpers (programs.Iter is_sleepable) = sleepable is_sleepable (pos 211)
flag_helpers (programs.UProbe is_sleepable multi) = sleepable is_sleepable (pos 211)
flag_helpers (programs.URetProbe is_sleepable multi) = sleepable is_sleepable (pos 211)
flag_helpers (programs.Xdp has_frags attach_type) = frags has_frags
flag_helpers _ = None

-- What two helpers tell of something that a kernel lacks without the first and has with the second.
abbrev pub between : Presence → Presence → Presence
between Missing since = Missing
between Found Found = Found
between Found Missing = Unknown
between Found Unknown = Unknown
between Unknown since = Unknown

abbrev pub flag_presence : Table → ℤ × ℤ → Presence
flag_presence kernel helpers =
    between (helper_presence kernel (func_ids kernel) helpers.0)
    (helper_presence kernel (func_ids kernel) helpers.1)

-- Whether the kernel takes the flags of programs of a kind, if they have some.
abbrev pub flags_need : Table → ProgramSection → Option Presence
flags_need kernel kind = option_map (flag_presence kernel) (flag_helpers kind)
