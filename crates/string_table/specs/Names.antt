-- Maps whose keys are names.
use Rattle.std.specs.Prelude.{ℕ, List, [], fold, map, Option}
use Rattle.std.specs.Borrow.{Bor}
use Rattle.std.specs.BTreeMap.{insert_entry, is_at}
use Rattle.std.specs.Cmp.Lexicographic.{slice_cmp}
use Rattle.std.specs.Map.{lookup}
use Rattle.std.specs.Ordering.{nat_cmp}

-- The entries by the bytes of their names.
abbrev pub by_bytes : {V : Type 0} → List (Bor (List ℕ) × V) → List (List ℕ × V)
by_bytes entries = map (λ e. (e.0.now, e.1)) entries

abbrev pub texts_of : {T : Type 0} → List (Bor (List ℕ) × T) → List (List ℕ)
texts_of entries = map (λ e. e.0.now) entries

-- The value of a text.
abbrev pub value_of : {T : Type 0} → List ℕ → List (List ℕ × T) → Option T
value_of text values = lookup (is_at (slice_cmp nat_cmp text)) values

-- Sorted values after an insertion, which replaces an earlier value of the text.
abbrev pub with_entry : {T : Type 0} → List (List ℕ × T) → List ℕ × T → List (List ℕ × T)
with_entry values e = insert_entry (slice_cmp nat_cmp) values e.0 e.1

-- The entries of a map after these insertions, one after the other.
unfoldable pub entered : {T : Type 0} → List (List ℕ × T) → List (List ℕ × T)
entered entries = fold with_entry [] entries
