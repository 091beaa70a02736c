-- Lists of linked functions.
use Rattle.std.specs.Prelude.{List, [], ◌∷◌}
use Rattle.object_parts.specs.Content.{FunctionContent}
use Rattle.linker.specs.Layout.{Key}
use Rattle.linker.specs.Unlinked.{Unlinked}
use Rattle.linker.specs.Linked.{IsLinked}

-- The functions of some keys, each linked.
abbrev pub AreLinkedTo : Unlinked → List Key → List FunctionContent → Type 0
AreLinkedTo u [] [] = Unit {0}
AreLinkedTo u (k ∷ ks) (g ∷ gs) = IsLinked u k g × AreLinkedTo u ks gs
AreLinkedTo u [] (g ∷ gs) = ⊥
AreLinkedTo u (k ∷ ks) [] = ⊥
