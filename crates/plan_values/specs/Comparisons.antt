-- Comparisons of numbers (RFC 9669, section 4.3, "Jump Instructions").
use Rattle.std.specs.Prelude.{ℕ, ◌/◌, ◌%◌, ◌^◌, ◌==◌, Bool, not, nat_lt, nat_le, int_lt, int_le, bit_and, if◌then◌else◌, Option, Some, None, ℤ}
use Rattle.std.specs.Int.{w32, w64, cast_signed}

-- Whether a comparison of two numbers holds, unsigned or signed: JEQ, JGT, JGE, JSET, JNE, JSGT,
-- JSGE, JLT, JLE, JSLT and JSLE.
abbrev pub compared : ℕ → ℕ → ℕ → ℤ → ℤ → Option Bool
compared operation x y i j =
    if operation == 1 then Some (x == y)
    else (if operation == 2 then Some (nat_lt y x)
    else (if operation == 3 then Some (nat_le y x)
    else (if operation == 4 then Some (not (bit_and x y == 0))
    else (if operation == 5 then Some (not (x == y))
    else (if operation == 6 then Some (int_lt j i)
    else (if operation == 7 then Some (int_le j i)
    else (if operation == 10 then Some (nat_lt x y)
    else (if operation == 11 then Some (nat_le x y)
    else (if operation == 12 then Some (int_lt i j)
    else (if operation == 13 then Some (int_le i j)
    else None))))))))))

-- The result of a conditional jump's comparison. The class JMP compares 64 bits, and JMP32 the low
-- 32.
unfoldable pub outcome : ℕ → ℕ → ℕ → Option Bool
outcome code x y =
    if code % 8 == 5 then compared (code / 16) x y (cast_signed w64 x) (cast_signed w64 y)
    else (if code % 8 == 6
    then
    compared
    (code / 16)
    (x % 2 ^ 32)
    (y % 2 ^ 32)
    (cast_signed w32 (x % 2 ^ 32))
    (cast_signed w32 (y % 2 ^ 32))
    else None)
