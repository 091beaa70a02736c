-- Objects in a file that holds other things too, such as a program.
use Rattle.std.specs.Prelude.{◌≡◌, ℕ, ◌+◌, ◌==◌, ◌&&◌, ◌≤◌, ◌<◌, nat_le, Bool, true, false, List, [], ◌∷◌, length, drop, Option, None, Some, if◌then◌else◌}
use Rattle.std.specs.Int.{w16}
use Rattle.elf64.specs.Headers.{order_of}
use Rattle.elf64.specs.Numbers.{number_at}
use Rattle.elf64.specs.declared.order.ByteOrder.{ByteOrder}
use Rattle.program_io.specs.declared.embedded.EmbeddedObject.{EmbeddedObject}

abbrev pub is_of_object : List ℕ → Option ByteOrder → Bool
is_of_object bytes None = false
is_of_object bytes (Some order) =
    number_at w16 order bytes 16 == 1 && number_at w16 order bytes 18 == 247

-- Whether bytes begin with the header of an object: that of an ELF64 file, relocatable (ET_REL, 1), for
-- eBPF (EM_BPF, 247).
abbrev pub begins_object : List ℕ → Bool
begins_object bytes = is_of_object bytes (order_of bytes)

-- No object begins from one offset up to another.
abbrev pub NoneBegins : List ℕ → ℕ → ℕ → Type 0
NoneBegins bytes from to = (at : ℕ) → from ≤ at → at < to → begins_object (drop at bytes) ≡ false

-- Where the next object begins from an offset on, if one does.
abbrev pub IsNextStart : List ℕ → ℕ → Option ℕ → Type 0
IsNextStart bytes from None = NoneBegins bytes from (length bytes)
IsNextStart bytes from (Some start) =
    NoneBegins bytes from start
    × (from ≤ start)
    × (start + 64 ≤ length bytes)
    × (begins_object (drop start bytes) ≡ true)

-- Where the search goes on behind an object: at its end, or behind its header where it is cut.
abbrev pub end_in : List ℕ → EmbeddedObject → ℕ
end_in bytes o = if nat_le (o.start + o.size) (length bytes) then o.start + o.size else o.start + 64

-- The objects that begin from one offset up to another, in order, but for those within others.
abbrev pub Holds : List ℕ → ℕ → List EmbeddedObject → ℕ → Type 0
Holds bytes from [] to = NoneBegins bytes from to × (from ≤ to)
Holds bytes from (o ∷ os) to =
    IsNextStart bytes from (Some o.start) × Holds bytes (end_in bytes o) os to
