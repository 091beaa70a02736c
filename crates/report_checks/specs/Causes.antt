-- Why a kernel doesn't accept a program, and what isn't known of it.
use Rattle.std.specs.Prelude.{ℕ, pos, int_lt, nat_lt, is_some, not, ◌==◌, ◌&&◌, ◌||◌, ◌++◌, Bool, true, false, List, [], ◌∷◌, Option, None, Some, filter, filter_map, length, map, slice_get, if◌then◌else◌}
use Rattle.std.specs.Int.{w32, cast_unsigned}
use Rattle.std.specs.List.{list_any, range_with_len}
use Rattle.std.specs.Ordering.{int_eq}
use Rattle.ebpf_items.specs.declared.instruction.bpf_insn.{bpf_insn}
use Rattle.ebpf_items.specs.Instruction.{src_reg_of}
use Rattle.plan_text.specs.Content.{MapContent, ProgramContent}
use Rattle.program_kinds.specs.declared.program_section.ProgramSection.{ProgramSection}
use Rattle.program_kinds.specs.declared.program_section.ProgramSection.TheVariants as programs
use Rattle.report_needs.specs.Targets.{target_form}
use Rattle.report_needs.specs.declared.enums.Presence.{Presence}
use Rattle.report_needs.specs.declared.enums.Presence.TheVariants as presence
use Rattle.report_needs.specs.declared.needs.HelperNeed.{HelperNeed}
use Rattle.report_needs.specs.declared.needs.ProgramNeeds.{ProgramNeeds}
use Rattle.report_needs.specs.declared.needs.TargetNeed.{TargetNeed}
use Rattle.report_needs.specs.declared.needs.TargetNeed.TheVariants as target
use Rattle.report_checks.specs.declared.causes.ProgramCause.{ProgramCause}
use Rattle.report_checks.specs.declared.causes.ProgramCause.TheVariants.{Argument, AttachType, Call, Flags, Helpers, Map, ProgramType, Target, Types}
use Rattle.report_checks.specs.declared.reported_calls.HarmfulCall.{HarmfulCall}

-- The kinds of programs whose attach type the kernel checks when it loads a program
-- (`bpf_prog_load_check_attach` in kernel/bpf/syscall.c, `check_attach_btf_id` in
-- kernel/bpf/verifier.c). It ignores that of other kinds.
abbrev pub checks_attach_type : ProgramSection → Bool
checks_attach_type (programs.CgroupSkb attach_type) = true
checks_attach_type (programs.CgroupSockAddr attach_type) = true
checks_attach_type (programs.CgroupSockopt attach_type) = true
checks_attach_type (programs.CgroupSock attach_type) = true
checks_attach_type programs.SkLookup = true
checks_attach_type (programs.Lsm sleepable) = true
checks_attach_type programs.LsmCgroup = true
checks_attach_type programs.BtfTracePoint = true
checks_attach_type (programs.FEntry sleepable) = true
checks_attach_type (programs.FExit sleepable) = true
checks_attach_type (programs.Iter sleepable) = true
checks_attach_type _ = false

-- Whether the first is the second.
abbrev pub is_presence : Presence → Presence → Bool
is_presence presence.Found presence.Found = true
is_presence presence.Missing presence.Missing = true
is_presence presence.Unknown presence.Unknown = true
is_presence _ _ = false

abbrev pub is_missing : Presence → Bool
is_missing p = is_presence p presence.Missing

abbrev pub target_is : TargetNeed → Presence → Bool
target_is target.Missing wanted = is_presence presence.Missing wanted
target_is target.Unknown wanted = is_presence presence.Unknown wanted
target_is (target.Found id) wanted = is_presence presence.Found wanted
target_is target.NotNamed wanted = false

abbrev pub flags_are : Option Presence → Presence → Bool
flags_are None wanted = false
flags_are (Some p) wanted = is_presence p wanted

abbrev pub attach_is : ProgramSection → Option Presence → Presence → Bool
attach_is kind None wanted = false
attach_is kind (Some p) wanted = is_presence p wanted && checks_attach_type kind

-- Whether a number is that of a helper, neither poison nor a missing function, and this is known of
-- the helper.
abbrev pub helper_is : Presence → HelperNeed → Bool
helper_is wanted need =
    not (int_eq need.number (pos 0xbad2310))
    && (int_lt need.number (pos 2002000000) && is_presence need.presence wanted)

abbrev pub helpers_are : List HelperNeed → Presence → Bool
helpers_are needs wanted = list_any (helper_is wanted) needs

-- Whether a slot loads the address of the map of a number, or of a value of it.
abbrev pub loads_map : ℕ → bpf_insn → Bool
loads_map number s =
    s.code == 0x18
    && ((src_reg_of s == 1 || src_reg_of s == 2) && cast_unsigned w32 s.imm == number)

-- Whether some slots use a map, and this is known of its type.
abbrev pub used_is : List bpf_insn → Presence → Option MapContent → Option Presence → Bool
used_is slots wanted None p = false
used_is slots wanted (Some m) None = false
used_is slots wanted (Some m) (Some p) = is_presence p wanted && list_any (loads_map m.number) slots

abbrev pub map_is : List MapContent → List Presence → List bpf_insn → Presence → ℕ → Bool
map_is maps presences slots wanted index =
    used_is slots wanted (slice_get maps index) (slice_get presences index)

-- The call, if a run can reach it.
abbrev pub call_cause : HarmfulCall → Option ProgramCause
call_cause call = if call.is_reached then Some (Call call) else None

abbrev pub call_causes : List HarmfulCall → List ProgramCause
call_causes calls = filter_map call_cause calls

abbrev pub when : Bool → ProgramCause → List ProgramCause
when is_cause cause = if is_cause then cause ∷ [] else []

-- The maps below `count` that some slots use and of whose types this is known.
abbrev pub map_causes_below : List MapContent
    → List Presence
    → List bpf_insn
    → Presence
    → ℕ
    → List ProgramCause
map_causes_below maps presences slots wanted count =
    map Map (filter (map_is maps presences slots wanted) (range_with_len 0 count))

abbrev pub map_causes : List MapContent
    → List Presence
    → List bpf_insn
    → Presence
    → List ProgramCause
map_causes maps presences slots wanted = map_causes_below maps presences slots wanted (length maps)

-- What a program needs, besides helpers, and of which this is known: the target, the type, an attach
-- type that the kernel checks, the flags, and the types of the maps that the program uses.
abbrev pub needs_of : List MapContent
    → List Presence
    → ProgramContent
    → ProgramNeeds
    → Presence
    → List ProgramCause
needs_of maps presences p needs wanted =
    when (target_is needs.target wanted) Target
    ++ (when (is_presence needs.prog_type wanted) ProgramType
    ++ (when (attach_is p.section needs.attach_type wanted) AttachType
    ++ (when (flags_are needs.flags wanted) Flags
    ++ map_causes maps presences p.slots wanted)))

-- Whether a map has types of its keys or values.
abbrev pub has_types : MapContent → Bool
has_types m = not (m.words.btf_key_type_id == 0 && m.words.btf_value_type_id == 0)

abbrev pub uses_types : List bpf_insn → MapContent → Bool
uses_types slots m = has_types m && list_any (loads_map m.number) slots

-- Whether a program can't be loaded without the types of its object. It has records of functions, it
-- is attached to a record of types, or it uses a map with types.
abbrev pub needs_types : List MapContent → ProgramContent → Bool
needs_types maps p =
    nat_lt 0 (length p.func_records)
    || (is_some (target_form p.section) || list_any (uses_types p.slots) maps)

-- All causes for which a kernel doesn't accept a program, given the calls that it doesn't accept,
-- the slots whose loads read arguments that there aren't, what it has of the program's needs, the
-- plan's maps with whether it has their types, and whether it refuses the plan's types: the calls that
-- a run can reach, these loads, types that are refused and needed, and what it lacks. What isn't known
-- is no cause.
abbrev pub causes_of : List MapContent
    → List Presence
    → Bool
    → ProgramContent
    → List HarmfulCall
    → List ℕ
    → ProgramNeeds
    → List ProgramCause
causes_of maps presences are_refused p calls missing needs =
    call_causes calls
    ++ (map Argument missing
    ++ (when (are_refused && needs_types maps p) Types
    ++ needs_of maps presences p needs presence.Missing))

-- What isn't known of what a program needs.
abbrev pub unknowns_of : List MapContent
    → List Presence
    → ProgramContent
    → ProgramNeeds
    → List ProgramCause
unknowns_of maps presences p needs =
    when (helpers_are needs.helpers.items presence.Unknown) Helpers
    ++ needs_of maps presences p needs presence.Unknown
