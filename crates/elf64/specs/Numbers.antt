-- Numbers at an offset of some bytes, in one of the two byte orders.
use Rattle.std.specs.Prelude.{ℕ, List, length, take, drop, nat_lt, ◌+◌, if◌then◌else◌, Option, Some, None}
use Rattle.std.specs.Int.{Width, byte_len, from_le_bytes, from_be_bytes}
use Rattle.elf64.specs.declared.order.ByteOrder.{ByteOrder}
use Rattle.elf64.specs.declared.order.ByteOrder.TheVariants.{Little, Big}

-- The number that bytes encode.
abbrev pub number : ByteOrder → Width → List ℕ → ℕ
number Little width bytes = from_le_bytes width bytes
number Big width bytes = from_be_bytes width bytes

-- The number at an offset.
unfoldable pub number_at : Width → ByteOrder → List ℕ → ℕ → ℕ
number_at width order bytes at = number order width (take (byte_len width) (drop at bytes))

-- The `len` bytes from an offset on, unless they go past the end.
abbrev pub bytes_at : List ℕ → ℕ → ℕ → Option (List ℕ)
bytes_at bytes at len =
    if nat_lt (length bytes) (at + len) then None else Some (take len (drop at bytes))
