-- The lengths of linked programs.
use Rattle.std.specs.Prelude.{ℕ, ◌+◌, ◌≤◌, List, [], ◌∷◌, length}
use Rattle.object_parts.specs.Content.{FunctionContent}
use Rattle.linker.specs.Layout.{Key}
use Rattle.linker.specs.Reached.{AreDistinct}
use Rattle.linker.specs.Theorems.{slots_of}
use Rattle.linker.specs.Unlinked.{Unlinked, table_of}
use Rattle.linker.specs.Linked.{IsLinked}

-- The number of slots of all functions together.
abbrev pub slot_total : List (Key × FunctionContent) → ℕ
slot_total [] = 0
slot_total (f ∷ fs) = length f.1.instructions + slot_total fs

-- A linked program has at most as many slots as its own function and all functions together. The
-- functions of distinct keys have at most as many slots as all functions together.
pub record ProgramsAreShort : Type 0 where
  pub each : (u : Unlinked) (own : Key) (g : FunctionContent) (l : IsLinked u own g)
      → length g.instructions ≤ length l.function.instructions + slot_total u.functions
  pub copies : (u : Unlinked) (keys : List Key)
      → AreDistinct keys
      → slots_of (table_of u) keys ≤ slot_total u.functions
