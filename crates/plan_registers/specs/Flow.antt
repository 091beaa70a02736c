-- The paths of control from a slot (RFC 9669, section 4.3, "Jump Instructions").
use Rattle.std.specs.Prelude.{ℕ, ◌+◌, ◌/◌, ◌%◌, ◌^◌, ◌==◌, ◌&&◌, ◌||◌, Bool, true, false, not, nat_lt, length, if◌then◌else◌, List, [], ◌∷◌, ◌++◌, Option, Some, None, ℤ, pos, ◌+ℤ◌, map, replicate, take, drop}
use Rattle.std.specs.List.{list_any}
use Rattle.std.specs.Ordering.{int_eq}
use Rattle.ebpf_items.specs.declared.instruction.bpf_insn.{bpf_insn}
use Rattle.ebpf_items.specs.Instruction.{dst_reg_of, src_reg_of, is_pseudo_call}
use Rattle.plan_values.specs.Comparisons.{outcome}
use Rattle.plan_values.specs.Effects.{after, after_result, kind_of, operand, with_frame}
use Rattle.plan_values.specs.Knowledge.{Known, any_entry, entry, value_in}
use Rattle.plan_values.specs.Values.{outside}
use Rattle.plan_values.specs.Programs.{Code, bytes_in, function_of, index_in, is_callback, target}
use Rattle.plan_values.specs.declared.effects.Kind.{Kind}
use Rattle.plan_values.specs.declared.effects.Kind.TheVariants as kind
use Rattle.plan_values.specs.declared.program.Verifier.{Verifier}
use Rattle.plan_values.specs.declared.value.Value.{Value}
use Rattle.plan_values.specs.declared.value.Value.TheVariants as value

-- The result of a comparison of an address other than 0 with a number: 64 bits are equal to 0, or
-- not (JEQ and JNE).
abbrev pub with_address : ℕ → ℕ → Option Bool
with_address code n =
    if n == 0
    then (if code == 0x15 || code == 0x1d then Some false
    else (if code == 0x55 || code == 0x5d then Some true else None))
    else None

-- Whether an offset lies in the map's value, so that the address there isn't 0, for the verifier.
abbrev pub is_inside : Code → ℕ → ℕ → Bool
is_inside code map offset =
    code.verifier.map_values && nat_lt offset (length (bytes_in code.maps map))

abbrev pub with_map : Code → ℕ → ℕ → ℕ → ℕ → Option Bool
with_map code operation map offset n =
    if is_inside code map offset then with_address operation n else None

-- Whether an instruction code compares by `==` or `!=`: JEQ and JNE.
abbrev pub is_equality : ℕ → Bool
is_equality code = code / 16 == 1 || code / 16 == 5

-- Whether an instruction code has the operation JSGT.
abbrev pub is_signed_greater : ℕ → Bool
is_signed_greater code = code / 16 == 6

-- Whether the verifier decides a comparison of two numbers. An older one leaves open each comparison,
-- one of numbers that aren't equal, one of two registers, one that isn't by `==` or `!=`, or JSGT of
-- numbers that are equal, or whose low 32 bits are.
abbrev pub decides : Verifier → ℕ → ℕ → ℕ → Bool
decides verifier code x y =
    (verifier.comparisons && (verifier.unequal_numbers || x == y))
    && ((verifier.two_registers || not (code / 8 % 2 == 1))
    && ((verifier.orders || is_equality code)
    && (verifier.signed_equals || not (is_signed_greater code && x % 2 ^ 32 == y % 2 ^ 32))))

abbrev pub decided_numbers : Verifier → ℕ → ℕ → ℕ → Option Bool
decided_numbers verifier code x y =
    if decides verifier code x y then outcome code x y else None

-- An address is compared as the first operand alone: the verifier knows nothing of one that is the
-- second before Linux 6.4.
abbrev pub decided_values : Code → ℕ → Value → Value → Option Bool
decided_values code operation (value.Number x) (value.Number y) =
    decided_numbers code.verifier operation x y
decided_values code operation value.Address (value.Number n) = with_address operation n
decided_values code operation (value.Map map offset) (value.Number n) =
    with_map code operation map offset n
decided_values code operation _ _ = None

-- Whether a conditional jump is taken, if that is known.
abbrev pub decided : Code → bpf_insn → Known → Option Bool
decided code s known =
    decided_values code s.code (value_in known (dst_reg_of s)) (operand s known)

-- Whether an instruction code has the class JMP or JMP32 and isn't a call.
abbrev pub is_jump : ℕ → Bool
is_jump code = if code == 0x85 then false else (code % 8 == 5) || (code % 8 == 6)

-- How many slots control moves on from a slot that doesn't exit. A call comes back to the slot
-- behind it. The conditional jump is taken or not by the decision `taken`.
abbrev pub distance : bpf_insn → Bool → ℤ
distance s taken =
    if s.code == 0x18 then pos 2
    else (if s.code == 0x05 then pos 1 +ℤ s.off
    else (if s.code == 0x06 then pos 1 +ℤ s.imm
    else (if is_jump s.code && taken then pos 1 +ℤ s.off else pos 1)))

-- Whether a decision allows a branch to be taken, or not taken.
abbrev pub allows : Option Bool → Bool → Bool
allows None taken = true
allows (Some true) taken = taken
allows (Some false) taken = not taken

abbrev pub begins_global : Code → Option ℕ → Bool
begins_global code None = false
begins_global code (Some slot) = list_any (λ global. global == slot) code.globals

-- Whether a global function begins at a slot of the program.
abbrev pub is_global : Code → ℤ → Bool
is_global code slot = begins_global code (index_in (length code.slots) slot)

-- Whether a slot calls a function that isn't global. Control comes back to the slot behind it with a
-- result of the function.
abbrev pub is_static_call : Code → bpf_insn → ℕ → Bool
is_static_call code s position = is_pseudo_call s && not (is_global code (target s position))

-- A path to one of the facts, with what is known along it. The facts on slots come first, and behind
-- them for each slot those on the result of the function that begins there.
pub record Way : Type 0 where
  pub to : ℤ
  pub known : Known

abbrev pub to_index : Option ℕ → Known → List Way
to_index None known = []
to_index (Some slot) known = record { to = pos slot; known = known } ∷ []

-- A path to a slot, if the program has it.
abbrev pub to_slot : Code → ℤ → Known → List Way
to_slot code slot known = to_index (index_in (length code.slots) slot) known

-- The index of the facts on the result of the function that has a slot.
abbrev pub result_at : Code → ℕ → ℕ
result_at code slot = length code.slots + function_of code slot

-- What is known where a function returns.
abbrev pub returned : Value → Known
returned result = result ∷ replicate 31 value.Unknown

-- A path to the result of the function that has a slot.
abbrev pub to_result : Code → ℕ → Value → List Way
to_result code slot result =
    record { to = pos (result_at code slot); known = returned result } ∷ []

-- Where a path leaves the slots of its function, the result is unknown.
abbrev pub leaving : Code → ℕ → Option ℕ → List Way
leaving code position None = []
leaving code position (Some slot) =
    if function_of code position == function_of code slot then []
    else to_result code position value.Unknown

-- A path from a position to a slot that the same call runs.
abbrev pub going : Code → ℕ → ℤ → Known → List Way
going code position slot known =
    to_slot code slot known ++ leaving code position (index_in (length code.slots) slot)

-- Whether control doesn't go on from a slot by itself: at an exit and at a call that isn't global.
abbrev pub stops : Code → bpf_insn → ℕ → Bool
stops code s position = s.code == 0x95 || is_static_call code s position

abbrev pub along : Code → bpf_insn → ℕ → Known → Bool → List Way
along code s position known taken =
    if stops code s position then []
    else going code position (pos position +ℤ distance s taken) known

abbrev pub branch : Code → bpf_insn → ℕ → Known → Option Bool → Bool → List Way
branch code s position known decision taken =
    if allows decision taken then along code s position known taken else []

-- What is known in a called function: its arguments, or nothing of them in a global one.
abbrev pub passed : Known → Known
passed known = entry (map outside (take 5 (drop 1 known)))

abbrev pub entered_known : Code → ℤ → Known → Known
entered_known code slot known = if is_global code slot then any_entry else passed known

-- The path into the function that a slot calls, or whose address it loads for a helper to call.
abbrev pub entered : Code → bpf_insn → ℕ → Known → List Way
entered code s position known =
    if is_pseudo_call s
    then to_slot code (target s position) (entered_known code (target s position) known)
    else (if is_callback s then to_slot code (target s position) any_entry else [])

-- Whether a slot calls the helper bpf_tail_call.
abbrev pub is_tail_call : bpf_insn → Bool
is_tail_call s = s.code == 0x85 && src_reg_of s == 0 && int_eq s.imm (pos 12)

abbrev pub packet_result : Kind → Option Value
packet_result kind.Packet = Some (value.Number 0)
packet_result _ = None

-- What a function returns that ends at a slot: register 0 at an exit. A tail call leads to a program
-- that returns in its place. A load from a packet that fails returns 0.
abbrev pub result_value : bpf_insn → Known → Option Value
result_value s known =
    if s.code == 0x95 then Some (outside (value_in known 0))
    else (if is_tail_call s then Some value.Unknown else packet_result (kind_of s.code))

abbrev pub ended_with : Code → ℕ → Option Value → List Way
ended_with code position None = []
ended_with code position (Some result) = to_result code position result

-- The path of a result from a slot at which a function may end.
abbrev pub ended : Code → bpf_insn → ℕ → Known → List Way
ended code s position known = ended_with code position (result_value s known)

abbrev pub after_return : Known → Known → Known
after_return known result = after_result (value_in result 0) (with_frame known)

abbrev pub back_with : Code → ℕ → Known → Option Known → List Way
back_with code position known None = []
back_with code position known (Some result) =
    going code position (pos position +ℤ pos 1) (after_return known result)

-- The path from a call back to the slot behind it, given what is known where the function returns.
abbrev pub back : Code → bpf_insn → ℕ → Known → Option Known → List Way
back code s position known result =
    if is_static_call code s position then back_with code position known result else []

-- The paths from a slot at a position within its function.
abbrev pub inner_ways : Code → bpf_insn → Option bpf_insn → ℕ → Known → List Way
inner_ways code s next position known =
    branch code s position (after code s next known) (decided code s known) true
    ++ branch code s position (after code s next known) (decided code s known) false

-- The paths from a slot at a position, given what is known where the function returns that it calls.
abbrev pub ways_of : Code → bpf_insn → Option bpf_insn → ℕ → Known → Option Known → List Way
ways_of code s next position known result =
    inner_ways code s next position known
    ++ (entered code s position known
    ++ (ended code s position known ++ back code s position known result))
