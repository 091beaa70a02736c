-- The bytes of a reader when the bytes at hand are passed on.
use Rattle.std.specs.Prelude.{ℕ, List, Option, IfSome}
use Rattle.std.specs.Io.{StartsWith}
use Rattle.std.specs.Io.KnownBytes.{Consumes}

-- The reader lost some bytes, which have the property P.
pub record HandsOn (old new : Option (List ℕ)) (P : List ℕ → Type 0) : Type 0 where
  pub bytes : List ℕ
  pub lost : Consumes old new bytes
  pub holds : P bytes

-- The reader begins with some bytes, which have the property P.
pub record HasAtHand (old : Option (List ℕ)) (P : List ℕ → Type 0) : Type 0 where
  pub bytes : List ℕ
  pub front : IfSome old (λ xs. StartsWith xs bytes)
  pub holds : P bytes
