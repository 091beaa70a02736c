-- Maps whose keys are names: the entries by the bytes of their names.
use Rattle.std.specs.Prelude.{ℕ, List, map, String, string_bytes}

abbrev pub by_bytes : {Y V : Type 0} → List (String Y × V) → List (List ℕ × V)
by_bytes entries = map (λ e. (string_bytes e.0, e.1)) entries
