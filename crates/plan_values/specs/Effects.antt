-- The known registers after an instruction (RFC 9669, sections 4.1, 4.3 and 5).
use Rattle.std.specs.Prelude.{ℕ, ◌+◌, ◌-◌, ◌*◌, ◌/◌, ◌%◌, ◌^◌, ◌==◌, ◌&&◌, ◌||◌, Bool, not, nat_le, nat_lt, if◌then◌else◌, ◌∷◌, ◌++◌, length, Option, Some, None, slice_set, replicate, drop, pos}
use Rattle.std.specs.Int.{w32, w64, cast_unsigned}
use Rattle.std.specs.Ordering.{int_eq}
use Rattle.ebpf_items.specs.declared.instruction.bpf_insn.{bpf_insn}
use Rattle.ebpf_items.specs.Instruction.{dst_reg_of, src_reg_of}
use Rattle.plan_values.specs.Arithmetic.{number_result}
use Rattle.plan_values.specs.Cells.{cell_at, is_aligned, is_tracked, position, read_cell, stored_value}
use Rattle.plan_values.specs.Knowledge.{Known, forgotten, keeps_frame, value_in}
use Rattle.plan_values.specs.Programs.{Code, bytes_in}
use Rattle.plan_values.specs.Sizes.{number_in, size_of, width_of}
use Rattle.plan_values.specs.Values.{is_plain, moved, plain_if, sum_64}
use Rattle.plan_values.specs.declared.program.Verifier.{Verifier}
use Rattle.plan_values.specs.declared.effects.Kind.{Kind}
use Rattle.plan_values.specs.declared.effects.Kind.TheVariants as kind
use Rattle.plan_values.specs.declared.value.Value.{Value}
use Rattle.plan_values.specs.declared.value.Value.TheVariants as value

-- What kind of instruction a code stands for: a call, of a number or by a register; the load of two
-- immediates; the classes ALU and ALU64; LDX with the mode MEM, and with others; the other loads of
-- the class LD, which are of packets; an atomic operation; ST and STX with the mode MEM; or one that
-- writes neither a register nor memory.
unfoldable pub kind_of : ℕ → Kind
kind_of code =
    if code == 0x85 || code == 0x8d then kind.Call
    else (if code == 0x18 then kind.Wide
    else (if code % 8 == 4 || code % 8 == 7 then kind.Arithmetic
    else (if code % 8 == 1
    then (if code / 32 == 3 then kind.Load else kind.OtherLoad)
    else (if code % 8 == 0 then kind.Packet
    else (if code % 8 == 3 && code / 32 == 6 then kind.Atomic
    else (if (code % 8 == 2 || code % 8 == 3) && code / 32 == 3 then kind.Store
    else kind.NoWrite))))))

-- The operand beside the destination register: a register or the immediate.
abbrev pub operand : bpf_insn → Known → Value
operand s known =
    if s.code / 8 % 2 == 1 then value_in known (src_reg_of s)
    else value.Number (cast_unsigned w64 s.imm)

abbrev pub number_value : Option ℕ → Value
number_value None = value.Plain
number_value (Some n) = value.Number n

-- Whether an instruction copies all of a register.
abbrev pub copies : bpf_insn → Bool
copies s = s.code == 0xbf && int_eq s.off (pos 0)

-- Whether an instruction uses the operand beside its destination alone: MOV and MOVSX.
abbrev pub moves : bpf_insn → Bool
moves s = s.code / 16 == 11

abbrev pub adds : bpf_insn → Bool
adds s = s.code == 0x07 || s.code == 0x0f

abbrev pub subtracts : bpf_insn → Bool
subtracts s = s.code == 0x17 || s.code == 0x1f

-- MOV of the low 32 bits of a register.
abbrev pub moves_low : bpf_insn → Bool
moves_low s = s.code == 0xbc

-- ARSH of 64 bits, and of 32.
abbrev pub shifts_signed : bpf_insn → Bool
shifts_signed s = s.code == 0xc7 || s.code == 0xcf

abbrev pub shifts_low_signed : bpf_insn → Bool
shifts_low_signed s = s.code == 0xc4 || s.code == 0xcc

-- XOR of 32 and of 64 bits.
abbrev pub is_exclusive_or : bpf_insn → Bool
is_exclusive_or s = s.code / 16 == 10

-- Whether 64 bits are a negative number with a sign.
abbrev pub is_negative : ℕ → Bool
is_negative n = nat_le (2 ^ 63) n

-- Whether the sum of two numbers of 64 bits wraps both without and with a sign.
abbrev pub sum_wraps : ℕ → ℕ → Bool
sum_wraps x y = is_negative x && (is_negative y && not (is_negative (sum_64 x y)))

-- The same of their difference.
abbrev pub difference_wraps : ℕ → ℕ → Bool
difference_wraps x y =
    not (is_negative x) && (is_negative y && is_negative (sum_64 x (2 ^ 64 - y)))

-- Whether an instruction adds or subtracts two numbers of 64 bits, and the result wraps so.
abbrev pub wraps : bpf_insn → ℕ → ℕ → Bool
wraps s x y = (adds s && sum_wraps x y) || (subtracts s && difference_wraps x y)

-- Whether the verifier knows nothing of the result of an instruction on two numbers.
abbrev pub is_unknown : Verifier → bpf_insn → ℕ → ℕ → Bool
is_unknown verifier s x y =
    (is_exclusive_or s && not verifier.exclusive_or)
    || ((moves_low s && not verifier.low_moves)
    || ((shifts_signed s && not verifier.signed_shifts)
    || ((shifts_low_signed s && not verifier.low_signed_shifts)
    || (wraps s x y && not verifier.wrapped_sums))))

-- The result of an instruction on two numbers, as far as the verifier knows it.
abbrev pub known_result : Verifier → bpf_insn → ℕ → ℕ → Option ℕ
known_result verifier s x y = if is_unknown verifier s x y then None else number_result s x y

-- An address, moved by an addition or a subtraction of 64 bits.
abbrev pub moved_address : bpf_insn → Value → ℕ → Value
moved_address s v n =
    if adds s then moved v n
    else (if subtracts s then moved v ((2 ^ 64 - n) % 2 ^ 64) else plain_if (is_plain v))

-- The same of an address that is the second operand of an addition.
abbrev pub moved_second : bpf_insn → Value → ℕ → Value
moved_second s v n = if s.code == 0x0f then moved v n else plain_if (is_plain v)

abbrev pub copied_value : Verifier → bpf_insn → Value → Value
copied_value verifier s (value.Number n) = number_value (known_result verifier s 0 n)
copied_value verifier s v = plain_if (is_plain v)

abbrev pub paired_value : Verifier → bpf_insn → Value → Value → Value
paired_value verifier s (value.Number m) (value.Number n) =
    number_value (known_result verifier s m n)
paired_value verifier s (value.Number m) (value.Map map offset) =
    moved_second s (value.Map map offset) m
paired_value verifier s (value.Number m) (value.Context offset) =
    moved_second s (value.Context offset) m
paired_value verifier s (value.Number m) (value.Frame offset) =
    moved_second s (value.Frame offset) m
paired_value verifier s (value.Map map offset) (value.Number n) =
    moved_address s (value.Map map offset) n
paired_value verifier s (value.Context offset) (value.Number n) =
    moved_address s (value.Context offset) n
paired_value verifier s (value.Frame offset) (value.Number n) =
    moved_address s (value.Frame offset) n
paired_value verifier s x y = plain_if (is_plain x && is_plain y)

-- What an instruction of the classes ALU and ALU64 leaves in its destination register.
unfoldable pub arithmetic_value : Verifier → bpf_insn → Value → Value → Value
arithmetic_value verifier s x y =
    if copies s then y
    else (if moves s then copied_value verifier s y else paired_value verifier s x y)

abbrev pub is_frozen : Code → ℕ → Bool
is_frozen code map = nat_lt 0 (length (bytes_in code.maps map))

-- The address that a load of a map's value gives.
abbrev pub map_value : Code → ℕ → ℕ → Value
map_value code map offset =
    if is_frozen code map then value.Map map offset
    else (if code.verifier.map_values then value.Address else value.Plain)

-- What the load of two immediates leaves: their number, or the address of a map's value (source
-- BPF_PSEUDO_MAP_VALUE) or of a kernel's function (BPF_PSEUDO_BTF_ID). A function of the program
-- (BPF_PSEUDO_FUNC) may write to any frame whose address it gets.
abbrev pub wide_pair : Code → ℕ → ℕ → ℕ → Value
wide_pair code source low high =
    if source == 0 then value.Number (low + 2 ^ 32 * high)
    else (if source == 2 then map_value code low high
    else (if source == 3 && code.verifier.functions then value.Address
    else plain_if (not (source == 4))))

unfoldable pub wide_value : Code → bpf_insn → Option bpf_insn → Value
wide_value code s None = value.Unknown
wide_value code s (Some next) =
    wide_pair code (src_reg_of s) (cast_unsigned w32 s.imm) (cast_unsigned w32 next.imm)

-- What a load at a position of the frame gives.
abbrev pub frame_value : Known → ℕ → ℕ → Value
frame_value known at width =
    if is_tracked at && is_aligned at width
    then read_cell (value_in known (cell_at at)) (at % 8) width
    else plain_if (not (width == 8))

-- What a load from an address gives. Eight bytes of a frame may be an address of a frame.
unfoldable pub loaded_value : Code → bpf_insn → Known → Value → Value
loaded_value code s known (value.Map map offset) =
    number_value (number_in (size_of s.code) (bytes_in code.maps map) (sum_64 offset (cast_unsigned w64 s.off)))
loaded_value code s known (value.Frame offset) =
    frame_value known (position offset (cast_unsigned w64 s.off)) (width_of (size_of s.code))
loaded_value code s known v = plain_if (is_plain v)

-- The operand that ST and STX store: an immediate or a register.
abbrev pub stores_immediate : bpf_insn → Bool
stores_immediate s = s.code % 8 == 2

abbrev pub stored_operand : bpf_insn → Known → Value
stored_operand s known =
    if stores_immediate s then value.Number (cast_unsigned w64 s.imm)
    else value_in known (src_reg_of s)

-- What is known after a store at a position of the frame. One that isn't aligned may write anywhere.
abbrev pub after_frame_store : Verifier → bpf_insn → Known → ℕ → ℕ → Known
after_frame_store verifier s known at width =
    if is_aligned at width
    then (if is_tracked at
    then
    slice_set
    known
    (cell_at at)
    (stored_value verifier (stores_immediate s) (at % 8) width (stored_operand s known))
    else known)
    else forgotten known

-- What is known after a store to an address.
unfoldable pub after_store : Verifier → bpf_insn → Known → Value → Known
after_store verifier s known (value.Frame offset) =
    after_frame_store
    verifier
    s
    known
    (position offset (cast_unsigned w64 s.off))
    (width_of (size_of s.code))
after_store verifier s known v = if is_plain v then known else forgotten known

-- After a call or a load from a packet only the registers from 6 on and the frame are known, and the
-- result.
abbrev pub after_result : Value → Known → Known
after_result result known = result ∷ replicate 5 value.Plain ++ drop 6 known

-- What is called may write to the frame whose address it gets.
abbrev pub with_frame : Known → Known
with_frame known = if keeps_frame known then known else forgotten known

-- The result of what a slot calls: of a helper, which gives no address of a frame, or of anything else.
abbrev pub call_result : bpf_insn → Known → Value
call_result s known = plain_if (src_reg_of s == 0 || (src_reg_of s == 2 && keeps_frame known))

abbrev pub after_call : bpf_insn → Known → Known
after_call s known = after_result (call_result s known) (with_frame known)

-- An atomic operation may write both of its registers and register 0. Where one of them may be an
-- address of a frame, all may, and the frame may be written.
abbrev pub is_plain_atomic : bpf_insn → Known → Bool
is_plain_atomic s known =
    is_plain (value_in known (dst_reg_of s))
    && (is_plain (value_in known (src_reg_of s)) && is_plain (value_in known 0))

abbrev pub with_three : bpf_insn → Value → Known → Known
with_three s v known =
    slice_set (slice_set (slice_set known (dst_reg_of s) v) (src_reg_of s) v) 0 v

abbrev pub after_atomic : bpf_insn → Known → Known
after_atomic s known =
    if is_plain_atomic s known then with_three s value.Plain known
    else with_three s value.Unknown (forgotten known)

abbrev pub after_kind : Code → bpf_insn → Option bpf_insn → Known → Kind → Known
after_kind code s next known kind.Call = after_call s known
after_kind code s next known kind.Packet = after_result value.Plain known
after_kind code s next known kind.Wide =
    slice_set known (dst_reg_of s) (wide_value code s next)
after_kind code s next known kind.Arithmetic =
    slice_set known (dst_reg_of s)
    (arithmetic_value code.verifier s (value_in known (dst_reg_of s)) (operand s known))
after_kind code s next known kind.Load =
    slice_set known (dst_reg_of s) (loaded_value code s known (value_in known (src_reg_of s)))
after_kind code s next known kind.OtherLoad = slice_set known (dst_reg_of s) value.Plain
after_kind code s next known kind.Atomic = after_atomic s known
after_kind code s next known kind.Store =
    after_store code.verifier s known (value_in known (dst_reg_of s))
after_kind code s next known kind.NoWrite = known

-- The known registers after an instruction; `next` is the slot that follows it.
abbrev pub after : Code → bpf_insn → Option bpf_insn → Known → Known
after code s next known = after_kind code s next known (kind_of s.code)
