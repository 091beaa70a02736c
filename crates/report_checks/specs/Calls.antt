-- Calls that a kernel doesn't accept.
use Rattle.std.specs.Prelude.{ℕ, List, Option, None, Some, ℤ, pos, int_le, option_and_then, slice_get, if◌then◌else◌}
use Rattle.std.specs.Ordering.{int_eq}
use Rattle.btf_tables.specs.Tables.{Table}
use Rattle.ebpf_items.specs.declared.instruction.bpf_insn.{bpf_insn}
use Rattle.report_needs.specs.Enums.{func_ids, helper_presence}
use Rattle.report_needs.specs.Helpers.{calls_helper}
use Rattle.report_needs.specs.declared.enums.Presence.{Presence}
use Rattle.report_needs.specs.declared.enums.Presence.TheVariants.{Missing}
use Rattle.report_checks.specs.declared.calls.CallCause.{CallCause}
use Rattle.report_checks.specs.declared.calls.CallCause.TheVariants.{MissingFunction, MissingHelper, Poison}

abbrev pub helper_cause : Presence → ℤ → Option CallCause
helper_cause Missing number = Some (MissingHelper number)
helper_cause _ number = None

-- The cause for which a kernel doesn't accept the call of a helper's number. A type relocation
-- leaves 0xbad2310 as poison. A call of a weak function that is missing leaves 2002000000 plus a
-- symbol's index. Any other number is that of a helper, which the kernel may lack.
abbrev pub number_cause : Presence → ℤ → Option CallCause
number_cause presence number =
    if int_eq number (pos 0xbad2310) then Some Poison
    else (if int_le (pos 2002000000) number then Some MissingFunction
    else helper_cause presence number)

abbrev pub call_cause : Table → bpf_insn → Option CallCause
call_cause kernel slot =
    if calls_helper slot then number_cause (helper_presence kernel (func_ids kernel) slot.imm) slot.imm
    else None

abbrev pub cause_at : Table → List bpf_insn → ℕ → Option CallCause
cause_at kernel slots slot = option_and_then (call_cause kernel) (slice_get slots slot)
