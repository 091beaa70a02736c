-- Wanted names, and marks of names. Most names of a text have no mark and need no look-up.
use Rattle.std.specs.Prelude.{◌≡◌, ℕ, ◌+◌, ◌-◌, ◌*◌, ◌%◌, Bool, true, false, List, length, slice_index, slice_index_or, Option, is_some}
use Rattle.std.specs.Option.{option_map}
use Rattle.string_table.specs.Names.{value_of}
use Rattle.kernel_symbols.specs.declared.wanted.Wanted.{Wanted}

-- The wanted name, with its address, under a name.
abbrev pub under : List (List ℕ × Wanted) → List ℕ → Option Wanted
under entries name = value_of name entries

-- A wanted name with this address.
abbrev pub with_address : Option ℕ → Option Wanted → Option Wanted
with_address address wanted = option_map (λ w. record { name = w.name; address = address }) wanted

-- The mark of a name: a number computed from its length and its last byte.
abbrev pub mark : List ℕ → ℕ
mark name = length name % 32 * 8 + slice_index name (length name - 1) % 8

-- Each wanted name is marked.
pub record AreMarked (entries : List (List ℕ × Wanted)) (is_wanted : List Bool) : Type 0 where
  pub long : length is_wanted ≡ 256
  pub each : (name : List ℕ)
      → is_some (under entries name) ≡ true
      → slice_index_or is_wanted (mark name) false ≡ true
