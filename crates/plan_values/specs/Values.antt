-- What is known of a register's value, or of eight bytes of a frame.
use Rattle.std.specs.Prelude.{◌≡◌, ℕ, ◌+◌, ◌%◌, ◌^◌, ◌==◌, ◌&&◌, Bool, true, false, if◌then◌else◌}
use Rattle.plan_values.specs.declared.value.Value.{Value}
use Rattle.plan_values.specs.declared.value.Value.TheVariants as value

-- Whether a value is known to be no address in a frame, nor of a function of the program.
abbrev pub is_plain : Value → Bool
is_plain value.Unknown = false
is_plain (value.Frame offset) = false
is_plain _ = true

abbrev pub plain_if : Bool → Value
plain_if is = if is then value.Plain else value.Unknown

-- The second says all that the first one says.
abbrev pub SaysNoMore : Value → Value → Type 0
SaysNoMore value.Unknown b = Unit {0}
SaysNoMore value.Plain b = is_plain b ≡ true
SaysNoMore a b = b ≡ a

abbrev pub same_value : Value → Value → Bool
same_value value.Unknown value.Unknown = true
same_value value.Plain value.Plain = true
same_value value.Address value.Address = true
same_value (value.Number m) (value.Number n) = m == n
same_value (value.Map m i) (value.Map n j) = m == n && i == j
same_value (value.Context i) (value.Context j) = i == j
same_value (value.Frame i) (value.Frame j) = i == j
same_value (value.Part m i k) (value.Part n j l) = m == n && (i == j && k == l)
same_value _ _ = false

-- The most that both say.
abbrev pub meet_values : Value → Value → Value
meet_values a b = if same_value a b then a else plain_if (is_plain a && is_plain b)

-- How much is known.
abbrev pub weight : Value → ℕ
weight value.Unknown = 0
weight value.Plain = 1
weight _ = 2

-- The sum of two numbers of 64 bits, modulo 2^64.
abbrev pub sum_64 : ℕ → ℕ → ℕ
sum_64 x y = (x + y) % 2 ^ 64

-- The value that lies some bytes behind a value.
abbrev pub moved : Value → ℕ → Value
moved (value.Map map offset) distance = value.Map map (sum_64 offset distance)
moved (value.Context offset) distance = value.Context (sum_64 offset distance)
moved (value.Frame offset) distance = value.Frame (sum_64 offset distance)
moved v distance = plain_if (is_plain v)

-- A value in another call's registers: the address of this frame is one of another frame there.
abbrev pub outside : Value → Value
outside (value.Frame offset) = value.Unknown
outside v = v
