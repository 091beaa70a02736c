-- The number of bytes that an instruction loads or stores (RFC 9669, section 5, "Load and Store
-- Instructions").
use Rattle.std.specs.Prelude.{ℕ, ◌+◌, ◌/◌, ◌%◌, ◌==◌, nat_le, if◌then◌else◌, List, length, take, drop, Option, Some, None}
use Rattle.std.specs.Int.{w8, w16, w32, w64, Width, from_le_bytes}
use Rattle.plan_values.specs.declared.size.Size.{Size}
use Rattle.plan_values.specs.declared.size.Size.TheVariants.{One, Two, Four, Eight}

abbrev pub size_of : ℕ → Size
size_of code =
    if code / 8 % 4 == 0 then Four
    else (if code / 8 % 4 == 1 then Two
    else (if code / 8 % 4 == 2 then One
    else Eight))

abbrev pub width_of : Size → ℕ
width_of One = 1
width_of Two = 2
width_of Four = 4
width_of Eight = 8

abbrev pub bits_of : Size → Width
bits_of One = w8
bits_of Two = w16
bits_of Four = w32
bits_of Eight = w64

-- The little-endian number of as many bytes at an offset, if all of them are there.
abbrev pub number_in : Size → List ℕ → ℕ → Option ℕ
number_in size bytes offset =
    if nat_le (offset + width_of size) (length bytes)
    then Some (from_le_bytes (bits_of size) (take (width_of size) (drop offset bytes)))
    else None
