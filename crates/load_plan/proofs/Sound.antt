-- Programs within a plan's limits.
use Rattle.std.proofs.Common.{◌≡◌, ◌<◌, ℕ, List, [], ◌∷◌, ◌++◌, sym, subst}
use Rattle.std.specs.Prelude.{◌^◌}
use Rattle.std.specs.List.Sorted.{IsStrictlySortedBy}
use Rattle.std.proofs.lemmas.List.Elements.{All-nil, All-push}
use Rattle.std.specs.List.{All}
use Rattle.plan_text.specs.Content.{IsSoundProgram, ProgramContent}
use Rattle.plan_lines.specs.Lines.{AreTables}

-- One more program within the limits.
pub with_sound : (ps old : List ProgramContent) (p : ProgramContent) → ps ≡ old ++ p ∷ [] → All IsSoundProgram old → IsSoundProgram p → All IsSoundProgram ps
with_sound ps old p is sound one = subst (λ l. All IsSoundProgram l) (sym is) (All-push IsSoundProgram old p sound one)

-- No kernel tables are within a plan's limits.
none : AreTables []
unfolding IsStrictlySortedBy
none = (tt, All-nil (λ place. place < 2 ^ 32))

pub none_sound : (places : List ℕ) → places ≡ [] → AreTables places
none_sound places is = subst (λ l. AreTables l) (sym is) none
