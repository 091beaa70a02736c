-- The numbers of one of the kernel's enums, in a set.
use Rattle.std.specs.Prelude.{◌≡◌, ℕ, ◌||◌, Bool, Option, is_some, if◌then◌else◌}
use Rattle.std.specs.BTreeSet.{BTreeSet, contains}
use Rattle.std.specs.Ordering.{nat_cmp}
use Rattle.btf_tables.specs.Tables.{Table}
use Rattle.report_needs.specs.Enums.{presence_at}
use Rattle.report_needs.specs.declared.enums.Presence.{Presence}
use Rattle.report_needs.specs.declared.enums.Presence.TheVariants.{Found, Missing, Unknown}

-- A set keeps its numbers and gets those that pass a test.
pub record Adds (passes : ℕ → Bool) (old new : BTreeSet ℕ) : Type 0 where
  pub each : (number : ℕ) → contains nat_cmp new number ≡ (contains nat_cmp old number || passes number)

-- Whether an enum, if it exists, has a number.
abbrev pub known_presence : Bool → BTreeSet ℕ → ℕ → Presence
known_presence is_there numbers number =
    if is_there then (if contains nat_cmp numbers number then Found else Missing) else Unknown

-- The set has the numbers of the enum with an id.
pub record AreNumbers (kernel : Table) (id : Option ℕ) (numbers : BTreeSet ℕ) : Type 0 where
  pub each : (number : ℕ) → known_presence (is_some id) numbers number ≡ presence_at kernel id number
