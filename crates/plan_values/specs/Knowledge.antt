-- What is known of the registers.
use Rattle.std.specs.Prelude.{ℕ, ◌&&◌, Bool, true, false, List, [], ◌∷◌, ◌++◌, drop, take, slice_get, unwrap_or, replicate}
use Rattle.plan_values.specs.Values.{SaysNoMore, is_plain, meet_values, same_value}
use Rattle.plan_values.specs.declared.value.Value.{Value}
use Rattle.plan_values.specs.declared.value.Value.TheVariants as value

-- What is known of each of the registers 0 to 15, of which a program has 11, and then of each eight of
-- the last 128 bytes of the frame.
abbrev pub Known : Type 0
Known = List Value

abbrev pub nothing : Known
nothing = replicate 32 value.Unknown

-- At the start of a function that has some arguments: register 10 is the address of its frame's end.
abbrev pub entry : List Value → Known
entry arguments =
    value.Plain ∷ arguments ++ (replicate 4 value.Plain ++ value.Frame 0 ∷ replicate 21 value.Plain)

-- At the start of a function of whose arguments nothing is known.
abbrev pub any_entry : Known
any_entry = entry (replicate 5 value.Unknown)

-- At the start of a program: register 1 is the address of its context.
abbrev pub at_start : Known
at_start = entry (value.Context 0 ∷ replicate 4 value.Plain)

abbrev pub value_in : Known → ℕ → Value
value_in known register = unwrap_or (slice_get known register) value.Unknown

-- Whether no argument of a call may be an address of the frame.
abbrev pub all_plain : Known → Bool
all_plain [] = true
all_plain (v ∷ known) = is_plain v && all_plain known

abbrev pub keeps_frame : Known → Bool
keeps_frame known = all_plain (take 5 (drop 1 known))

abbrev pub unknowns : Known → Known
unknowns [] = []
unknowns (v ∷ known) = value.Unknown ∷ unknowns known

-- Nothing is known of the frame.
abbrev pub forgotten : Known → Known
forgotten known = take 16 known ++ unknowns (drop 16 known)

-- The second says all that the first one says.
abbrev pub IsWithin : Known → Known → Type 0
IsWithin [] [] = Unit {0}
IsWithin [] (b ∷ ys) = ⊥
IsWithin (a ∷ xs) [] = ⊥
IsWithin (a ∷ xs) (b ∷ ys) = SaysNoMore a b × IsWithin xs ys

-- The most that both say.
abbrev pub meet : Known → Known → Known
meet [] ys = []
meet (a ∷ xs) [] = []
meet (a ∷ xs) (b ∷ ys) = meet_values a b ∷ meet xs ys

abbrev pub is_same : Known → Known → Bool
is_same [] [] = true
is_same [] (b ∷ ys) = false
is_same (a ∷ xs) [] = false
is_same (a ∷ xs) (b ∷ ys) = same_value a b && is_same xs ys
