-- A depth-first walk over references. Its frames are the functions whose references are followed,
-- the last one first.
use Rattle.std.specs.Prelude.{◌≡◌, ◌+◌, ◌≤◌, ℕ, List, [], ◌∷◌, ◌++◌, length, Some, None, is_some}
use Rattle.linker.specs.Layout.{Key, Table, has, first_open, back, path, IsOrder, IsLayout, start_of, end_of, copies_of}

-- The frames lie on the path that names the next copy, except for copies without an open reference.
pub record OnWay (t : Table) (own : Key) (ks fs : List Key) : Type 0 where
  pub order : IsOrder t own ks
  pub way : back t ks (path t own ks) ≡ back t ks fs

-- The laws of the walk: its start, its steps and its end.
pub record WalkLaws : Type 0 where
  pub start : (t : Table) (own : Key) → OnWay t own [] (own ∷ [])
  pub pop : (t : Table) (own : Key) (ks fs : List Key) (c : Key)
      → OnWay t own ks (c ∷ fs)
      → first_open (has ks) (t.refs c) ≡ None
      → OnWay t own ks fs
  pub push : (t : Table) (own : Key) (ks fs : List Key) (c k : Key)
      → OnWay t own ks (c ∷ fs)
      → first_open (has ks) (t.refs c) ≡ Some k
      → OnWay t own (k ∷ ks) (k ∷ c ∷ fs)
  pub end : (t : Table) (own : Key) (ks : List Key) → OnWay t own ks [] → IsLayout t own ks

-- An order of copies is a prefix of the layout.
pub record OrderLaws : Type 0 where
  pub front : (t : Table) (own : Key) (a b : List Key)
      → IsOrder t own a
      → IsLayout t own b
      → (c : List Key) × (b ≡ c ++ a)
  pub back : (t : Table) (own : Key) (c a : List Key) → IsOrder t own (c ++ a) → IsOrder t own a

-- The bounds of copies: the copies end at `end_of`, and each appended copy begins at `start_of`.
pub record PlaceLaws : Type 0 where
  pub ends : (t : Table) (own : Key) (all ks : List Key)
      → length (copies_of t own all ks) ≡ end_of t own ks
  pub starts : (t : Table) (own : Key) (ks : List Key) (k : Key) (start : ℕ)
      → start_of t own ks k ≡ Some start
      → start + length (t.slots k) ≤ end_of t own ks
  pub appended : (t : Table) (own : Key) (ks : List Key) (k : Key)
      → is_some (start_of t own ks k) ≡ has ks k
