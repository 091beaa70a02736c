-- Values of global variables. The names are strictly increasing by bytes.
use Rattle.std.specs.Prelude.{ℕ, Bool, List}

-- The value of a variable, and whether the object must have the variable.
pub record GlobalContent : Type 0 where
  pub bytes : List ℕ
  pub must_exist : Bool
