-- What is known of the last 128 bytes of a frame, eight by eight: of the last write into them alone.
use Rattle.std.specs.Prelude.{ℕ, ◌+◌, ◌*◌, ◌/◌, ◌%◌, ◌^◌, ◌==◌, ◌&&◌, ◌||◌, Bool, not, nat_le, nat_lt, if◌then◌else◌}
use Rattle.plan_values.specs.Values.{sum_64}
use Rattle.plan_values.specs.declared.program.Verifier.{Verifier}
use Rattle.plan_values.specs.declared.value.Value.{Value}
use Rattle.plan_values.specs.declared.value.Value.TheVariants as value

-- Where a byte stands that lies some bytes behind an address of the frame, among the bytes that are
-- kept track of, modulo 2^64.
abbrev pub position : ℕ → ℕ → ℕ
position offset distance = sum_64 (sum_64 offset distance) 128

abbrev pub is_tracked : ℕ → Bool
is_tracked at = nat_lt at 128

abbrev pub is_aligned : ℕ → ℕ → Bool
is_aligned at width = at % width == 0

-- The place among registers of the eight bytes at a position. The registers are the first 16.
abbrev pub cell_at : ℕ → ℕ
cell_at at = 16 + at / 8

-- What the bytes from `first` on give of which the last write has put a number into `size` bytes from
-- `start` on. The verifier knows the number where exactly its bytes are read, and 0 where some of the
-- bytes are that were written by it.
abbrev pub read_number : ℕ → ℕ → ℕ → ℕ → ℕ → Value
read_number number start size first width =
    if start == first && size == width then value.Number (number % 2 ^ (8 * width))
    else
    (if number == 0 && (nat_le start first && nat_le (first + width) (start + size))
    then value.Number 0
    else value.Plain)

-- What a load of `width` bytes from byte `first` of eight bytes on gives.
unfoldable pub read_cell : Value → ℕ → ℕ → Value
read_cell (value.Number number) first width = read_number number 0 8 first width
read_cell (value.Part number start size) first width = read_number number start size first width
read_cell v first width = if width == 8 then v else value.Plain

abbrev pub part_of : ℕ → ℕ → ℕ → Value
part_of number first width =
    if width == 8 then value.Number number else value.Part number first width

-- Whether the verifier keeps a number that is stored.
abbrev pub keeps : Verifier → Bool → ℕ → ℕ → ℕ → Bool
keeps verifier is_immediate number first width =
    (verifier.stored_immediates || not is_immediate)
    && (if number == 0 then verifier.stored_zeros
    else (if width == 8 then verifier.stored_numbers
    else first == 0 && verifier.stored_parts))

-- What is known of eight bytes after a store of `width` of them from byte `first` on.
unfoldable pub stored_value : Verifier → Bool → ℕ → ℕ → Value → Value
stored_value verifier is_immediate first width (value.Number number) =
    if keeps verifier is_immediate number first width then part_of number first width
    else value.Plain
stored_value verifier is_immediate first width v = if width == 8 then v else value.Plain
