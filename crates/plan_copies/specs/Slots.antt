-- The slots that jumps and references lead to.
use Rattle.std.specs.Prelude.{ℕ, ◌^◌, nat_lt, Option, None, Some, if◌then◌else◌, ℤ, pos, negsuc, ◌+ℤ◌}

-- The index of a slot, if there is one: a number of 64 bits.
abbrev pub index_of : ℤ → Option ℕ
index_of (pos n) = if nat_lt n (2 ^ 64) then Some n else None
index_of (negsuc n) = None

-- The slot at a distance from the slot after another one.
abbrev pub slot_after : ℕ → ℤ → Option ℕ
slot_after slot distance = index_of ((pos slot +ℤ pos 1) +ℤ distance)
