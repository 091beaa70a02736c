-- Arithmetic of numbers (RFC 9669, section 4.1, "Arithmetic Instructions").
use Rattle.std.specs.Prelude.{ℕ, ◌+◌, ◌-◌, ◌*◌, ◌/◌, ◌%◌, ◌^◌, ◌==◌, nat_lt, bit_and, bit_or, bit_xor, if◌then◌else◌, Option, Some, None, ℤ, pos}
use Rattle.std.specs.Int.{Width, byte_len, w8, w16, w32, w64, cast_unsigned, cast_signed, int_shr}
use Rattle.std.specs.Ordering.{int_eq}
use Rattle.ebpf_items.specs.declared.instruction.bpf_insn.{bpf_insn}

abbrev pub width_bits : Width → ℕ
width_bits w = 8 * byte_len w

-- The number of the low bits of a number, with its sign extended to a width.
abbrev pub sign_extended : Width → Width → ℕ → ℕ
sign_extended from w n = cast_unsigned w (cast_signed from (n % 2 ^ width_bits from))

-- What MOV and MOVSX copy, given the offset of the instruction: all bits, or the low 8, 16 or 32
-- with their sign.
unfoldable pub copied : Width → ℤ → ℕ → Option ℕ
copied w off n =
    if int_eq off (pos 0) then Some n
    else (if int_eq off (pos 8) then Some (sign_extended w8 w n)
    else (if int_eq off (pos 16) then Some (sign_extended w16 w n)
    else (if int_eq off (pos 32) then Some (sign_extended w32 w n)
    else None)))

-- A shift is known if it is by less than the width.
unfoldable pub shifted_left : Width → ℕ → ℕ → Option ℕ
shifted_left w n amount =
    if nat_lt amount (width_bits w) then Some (n * 2 ^ amount % 2 ^ width_bits w) else None

unfoldable pub shifted_right : Width → ℕ → ℕ → Option ℕ
shifted_right w n amount = if nat_lt amount (width_bits w) then Some (n / 2 ^ amount) else None

unfoldable pub shifted_signed : Width → ℕ → ℕ → Option ℕ
shifted_signed w n amount =
    if nat_lt amount (width_bits w) then Some (cast_unsigned w (int_shr (cast_signed w n) amount)) else None

-- LSH, RSH and ARSH.
unfoldable pub shifted : Width → ℕ → ℕ → ℕ → Option ℕ
shifted w operation n amount =
    if operation == 6 then shifted_left w n amount
    else (if operation == 7 then shifted_right w n amount
    else (if operation == 12 then shifted_signed w n amount
    else None))

-- The result of an operation on two numbers of a width: ADD, SUB, MUL, OR, AND, XOR, MOV, or a shift
-- by `amount`. Nothing is said of the others.
unfoldable pub result_of : Width → ℕ → ℤ → ℕ → ℕ → ℕ → Option ℕ
result_of w operation off x y amount =
    if operation == 0 then Some ((x + y) % 2 ^ width_bits w)
    else (if operation == 1 then Some ((x + (2 ^ width_bits w - y)) % 2 ^ width_bits w)
    else (if operation == 2 then Some (x * y % 2 ^ width_bits w)
    else (if operation == 4 then Some (bit_or x y)
    else (if operation == 5 then Some (bit_and x y)
    else (if operation == 10 then Some (bit_xor x y)
    else (if operation == 11 then copied w off y
    else shifted w operation x amount))))))

-- The result of an instruction of the classes ALU and ALU64, given the numbers of 64 bits in its
-- operands. A shift of 32 bits is by all 64 bits of its operand, as the verifier compares them.
abbrev pub number_result : bpf_insn → ℕ → ℕ → Option ℕ
number_result s x y =
    if s.code % 8 == 7 then result_of w64 (s.code / 16) s.off x y y
    else result_of w32 (s.code / 16) s.off (x % 2 ^ 32) (y % 2 ^ 32) y
