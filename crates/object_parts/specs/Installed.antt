-- Functions that replace the functions with their keys.
use Rattle.std.specs.Prelude.{◌≡◌, ℕ, true, if◌then◌else◌, List, [], ◌∷◌, map, Option, Some}
use Rattle.std.specs.BTreeMap.{is_at}
use Rattle.std.specs.Map.{keys_of, values_of}
use Rattle.std.specs.Option.{option_map}
use Rattle.object_parts.specs.Content.{AreKeyed, FunctionContent, function_at, has_function, key_cmp, key_of}

-- The keys of all given functions are present.
abbrev pub AreThere : List ((ℕ × ℕ) × FunctionContent) → List FunctionContent → Type 0
AreThere functions [] = Unit {0}
AreThere functions (g ∷ gs) = (has_function functions (key_of g) ≡ true) × AreThere functions gs

-- The function of a key after the given functions were installed.
abbrev pub installed_at : List FunctionContent
    → ℕ × ℕ
    → Option FunctionContent
    → Option FunctionContent
installed_at [] key o = o
installed_at (g ∷ gs) key o =
    if is_at (key_cmp (key_of g)) key then Some g else installed_at gs key o

-- The given functions were installed: each replaced the function with its key.
pub record Installed (old new : List ((ℕ × ℕ) × FunctionContent)) (gs : List FunctionContent)
    : Type 0 where
  pub keys : keys_of new ≡ keys_of old
  pub at : (key : ℕ × ℕ) → function_at new key ≡ installed_at gs key (function_at old key)

-- Each function is changed and stays under its key.
pub record AreChanged (change : FunctionContent → FunctionContent)
    (old new : List ((ℕ × ℕ) × FunctionContent)) : Type 0 where
  pub keys : keys_of new ≡ keys_of old
  pub at : (key : ℕ × ℕ) → function_at new key ≡ option_map change (function_at old key)

-- The change preserves the keys of functions.
abbrev pub KeepsKeys : (FunctionContent → FunctionContent) → Type 0
KeepsKeys change = (f : FunctionContent) → key_of (change f) ≡ key_of f

-- The changed copies of all functions, in order of key, have keys that are present. Installing them
-- changes each function.
pub record ChangesAreInstalled : Type 0 where
  pub there : (change : FunctionContent → FunctionContent) (old : List ((ℕ × ℕ) × FunctionContent))
      → KeepsKeys change
      → AreKeyed old
      → AreThere old (map change (values_of old))
  pub changed : (change : FunctionContent → FunctionContent)
      (old new : List ((ℕ × ℕ) × FunctionContent))
      → KeepsKeys change
      → AreKeyed old
      → Installed old new (map change (values_of old))
      → AreChanged change old new
